-- What lines state, as private code holds it.
use Rattle.std.specs.Prelude.{List, map}
use Rattle.std.specs.Borrow.{Bor}
use Rattle.ec_frame.specs.Datagram.{Datagram}
use Rattle.ec_decode.specs.declared.line.Stated.{Stated}
use Rattle.ec_decode.specs.declared.line.Heading.{Heading as HeadingHeld}
use Rattle.ec_decode.specs.FrameText.{Text}
use Rattle.ec_decode.specs.Lines.{Heading, datagram_with}

-- a value and the words behind it
abbrev pub with_rest : {X : Type 0} → X × Bor (List (Bor Text)) → X × List Text
with_rest (x, rest) = (x, map (λ w. w.now) rest.now)

abbrev pub with_word : {X : Type 0} → X × Bor Text → X × Text
with_word (x, word) = (x, word.now)

abbrev pub datagram_of : Stated → Datagram
datagram_of s = datagram_with s.fields s.counter s.content.items

abbrev pub heading_of : HeadingHeld → Heading
heading_of h = record { count = h.count; reserved = h.reserved; rest = h.rest.items }
