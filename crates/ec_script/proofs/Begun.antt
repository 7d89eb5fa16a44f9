-- What a block says.
use Rattle.std.proofs.Common.{◌≡◌, ℕ, ◌<◌, ◌≤◌, ◌&&◌, List, [], ◌∷◌, Bool, true, false, nat_le, Option, Some, None, option_map, option_and_then, if◌then◌else◌, codes, refl, arith}
use Rattle.std.specs.Str.{bytes_eq}
use Rattle.std.proofs.lemmas.Bool.Decides.{nat_tests}
use Rattle.ec_table.specs.Contents.{Contents}
use Rattle.ec_script.specs.declared.line.LineAction.{LineAction}
use Rattle.ec_script.specs.declared.read.Reading.{Reading}
use Rattle.ec_script.specs.declared.read.Reading.TheVariants as reading
use Rattle.ec_script.specs.declared.script.Piece.{Piece}
use Rattle.ec_script.specs.declared.script.Piece.TheVariants as piece
use Rattle.ec_script.specs.Scripts.{brace_of_words, brace_on, piece_by, piece_or, piece_reading, reading_of, script_reading, taken_by, unindented}
use Rattle.ec_script.specs.Stages.{IsBegun, IsBegunIf}
use Rattle.ec_script.specs.Words.{Text, number_of, times_of, uncommented, words_of}

times_begun : (word : Text) (o : Option ℕ) (n : ℕ) → option_and_then (λ k. if nat_le 1 k && nat_le k 1000000 then Some k else None) o ≡ Some n → (0 < n) × (n ≤ 1000000)
times_begun word None n e = cc
times_begun word (Some k) n e = by (nat_le 1 k) (nat_le k 1000000) refl refl e
  where
    by : (low high : Bool) → nat_le 1 k ≡ low → nat_le k 1000000 ≡ high → (if low && high then Some k else None) ≡ Some n → (0 < n) × (n ≤ 1000000)
    by true true is most same =
        let some : 1 ≤ k = grind (arith, nat_tests) in
        let few : k ≤ 1000000 = grind (arith, nat_tests) in
        let k_is : k ≡ n = cc in (omega arith, omega arith)
    by true false is most same = cc
    by false high is most same = cc

times_some : (word : Text) (n : ℕ) → times_of word ≡ Some n → (0 < n) × (n ≤ 1000000)
unfolding times_of
times_some word n e = times_begun word (number_of word) n e

abbrev IsBegunBrace : Option Piece → Type 0
IsBegunBrace None = Unit {0}
IsBegunBrace (Some s) = IsBegun s

closes : (b : Bool) → IsBegunBrace (if b then Some piece.Close else None)
closes true = tt
closes false = tt

begins_with : (b : Bool) (word : Text) (o : Option ℕ) → times_of word ≡ o → IsBegunBrace (if b then option_map piece.Open o else None)
begins_with true word None e = tt
begins_with true word (Some n) e = times_some word n e
begins_with false word o e = tt

brace_begun : (words : List Text) → IsBegunBrace (brace_of_words words)
brace_begun [] = tt
brace_begun (word ∷ []) = closes (bytes_eq word (codes "}"))
brace_begun (verb ∷ count ∷ []) = tt
brace_begun (verb ∷ count ∷ brace ∷ []) = begins_with (bytes_eq verb (codes "repeat") && bytes_eq brace (codes "{")) count (times_of count) refl
brace_begun (verb ∷ count ∷ brace ∷ word ∷ words) = tt

or_begun : (o : Option Piece) (read : Reading) → IsBegunBrace o → IsBegunIf (piece_or o read)
or_begun (Some s) read h = h
or_begun None reading.Empty h = tt
or_begun None reading.Bad h = tt
or_begun None (reading.Line line) h = tt

-- a text, with what it is without blocks
pub text_begun : (text : Text) (read : Reading) → IsBegunIf (piece_or (brace_on text) read)
text_begun text read = or_begun (brace_on text) read (brace_begun (words_of (uncommented text)))

pub by_begun : (takes : LineAction → Bool) (t : Contents) (n : ℕ) (around : List ℕ) (text : Text) → IsBegunIf (piece_by takes t n around text)
by_begun takes t n around text = text_begun (unindented around text) (taken_by takes (reading_of t n (unindented around text)))

pub piece_begun : (t : Contents) (n : ℕ) (around : List ℕ) (text : Text) → IsBegunIf (piece_reading t n around text)
piece_begun t n around text = text_begun (unindented around text) (script_reading t n (unindented around text))
