-- The commands of a frame's datagrams, one after another.
use Rattle.std.proofs.Common.{◌≡◌, ◌∙◌, ℕ, ◌+◌, ◌<◌, ◌≤◌, ◌==◌, ◌&&◌, List, [], ◌∷◌, length, drop, get_or, slice_range, Bool, true, false, Option, Some, None, is_some, not, refl, sym, ap}
use Rattle.std.proofs.lemmas.List.{at_drop_more, drop_all}
use Rattle.ec_frame.specs.declared.command.Command.{Command}
use Rattle.ec_frame.specs.declared.cursor.Datagrams.{Datagrams}
use Rattle.ec_frame.specs.declared.cursor.DatagramSpan.{DatagramSpan}
use Rattle.ec_frame.specs.declared.datagram.Header.{Header}
use Rattle.ec_frame.specs.Commands.{number_of}
use Rattle.ec_frame.specs.Cursor.{IsAhead, StepsTo}
use Rattle.ec_frame.specs.Datagram.{Datagram, IsDatagram, is_followed, spelling}
use Rattle.ec_frame.specs.Fields.{header_of}
use Rattle.ec_live.specs.Cyclic.{are_commands}
use Rattle.ec_live.specs.Stages.{HasOver}

-- ---- one step

pub over_some : (payload : List ℕ) (old new : Datagrams) (s : DatagramSpan) (command : Command) (header : Header) (ds : List Datagram) → IsAhead payload old ds → StepsTo old new (Some s) ds
    → ((d : Datagram) (xs : List Datagram) → IsAhead payload old (d ∷ xs) → slice_range payload s.from s.to ≡ spelling (is_followed xs) d)
    → ((d : Datagram) (xs : List Datagram) → IsAhead payload old (d ∷ xs) → IsAhead payload new xs)
    → ((more : Bool) (d : Datagram) → IsDatagram d → slice_range payload s.from s.to ≡ spelling more d → header ≡ header_of more d)
    → HasOver payload new command ds (number_of header.command == number_of command)
over_some payload old new s command header [] h steps first others reads = absurd (let e : Some s ≡ None = steps.0 in cc)
over_some payload old new s command header (d ∷ xs) h steps first others reads =
    let is : header ≡ header_of (is_followed xs) d = reads (is_followed xs) d h.each.0 (first d xs h) in
    (ap (λ (x : Header). number_of x.command == number_of command) is, others d xs h)

pub over_none : (payload : List ℕ) (old new : Datagrams) (command : Command) (ds : List Datagram) → StepsTo old new None ds → HasOver payload new command ds false
over_none payload old new command [] steps = refl
over_none payload old new command (d ∷ xs) steps = absurd (let e = steps.0 in cc)

-- ---- all commands

-- the cursor is past as many datagrams as commands, which they have; so the rest decides
pub record IsOver (payload : List ℕ) (places : Datagrams) (commands : List Command) (i : ℕ) (ds : List Datagram) : Type 0 where
  pub rest : List Datagram
  pub ahead : IsAhead payload places rest
  pub decides : are_commands commands ds ≡ are_commands (drop i commands) rest

pub over_begins : (payload : List ℕ) (places : Datagrams) (commands : List Command) (ds : List Datagram) → IsAhead payload places ds → IsOver payload places commands 0 ds
over_begins payload places commands ds h = record { rest = ds; ahead = h; decides = refl }

-- one command more: the rest as it is behind the next datagram
next_decides : (commands : List Command) (i : ℕ) (c : Command) (r : Datagram) (rs : List Datagram) → i < length commands
    → are_commands (drop i commands) (r ∷ rs) ≡ ((number_of r.command == number_of (get_or commands i c)) && are_commands (drop (i + 1) commands) rs)
next_decides commands i c r rs lt = at_drop_more (λ (cs : List Command). are_commands cs (r ∷ rs)) commands i c lt

none_decides : (commands : List Command) (i : ℕ) (c : Command) → i < length commands → are_commands (drop i commands) [] ≡ false
none_decides commands i c lt = at_drop_more (λ (cs : List Command). are_commands cs []) commands i c lt

pub over_more : (payload : List ℕ) (places new : Datagrams) (commands : List Command) (i : ℕ) (c : Command) (ds : List Datagram) (has : Bool) → i < length commands → has ≡ true
    → IsOver payload places commands i ds → ((rest : List Datagram) → IsAhead payload places rest → HasOver payload new (get_or commands i c) rest has) → IsOver payload new commands (i + 1) ds
over_more payload places new commands i c ds has lt agrees h goes = more h.rest h.decides (goes h.rest h.ahead)
  where
    more : (rest : List Datagram) → are_commands commands ds ≡ are_commands (drop i commands) rest → HasOver payload new (get_or commands i c) rest has → IsOver payload new commands (i + 1) ds
    more [] decides over = absurd (let bad : true ≡ false = sym agrees ∙ over in cc)
    more (r ∷ rs) decides over =
        let same : (number_of r.command == number_of (get_or commands i c)) ≡ true = sym over.0 ∙ agrees in
        record {
          rest = rs;
          ahead = over.1;
          decides = decides ∙ next_decides commands i c r rs lt ∙ ap (λ (b : Bool). b && are_commands (drop (i + 1) commands) rs) same;
        }

pub over_differs : (payload : List ℕ) (places new : Datagrams) (commands : List Command) (i : ℕ) (c : Command) (ds : List Datagram) (has : Bool) → i < length commands → has ≡ false
    → IsOver payload places commands i ds → ((rest : List Datagram) → IsAhead payload places rest → HasOver payload new (get_or commands i c) rest has) → are_commands commands ds ≡ false
over_differs payload places new commands i c ds has lt other h goes = differs h.rest h.decides (goes h.rest h.ahead)
  where
    differs : (rest : List Datagram) → are_commands commands ds ≡ are_commands (drop i commands) rest → HasOver payload new (get_or commands i c) rest has → are_commands commands ds ≡ false
    differs [] decides over = decides ∙ none_decides commands i c lt
    differs (r ∷ rs) decides over =
        let differing : (number_of r.command == number_of (get_or commands i c)) ≡ false = sym over.0 ∙ other in
        decides ∙ next_decides commands i c r rs lt ∙ ap (λ (b : Bool). b && are_commands (drop (i + 1) commands) rs) differing

-- behind the last command there is no datagram, or there is one
pub over_ends : (payload : List ℕ) (old new : Datagrams) (commands : List Command) (i : ℕ) (ds : List Datagram) (next : Option DatagramSpan) (ended : Bool) → length commands ≤ i
    → IsOver payload old commands i ds → ((rest : List Datagram) → IsAhead payload old rest → StepsTo old new next rest) → is_some next ≡ not ended → ended ≡ are_commands commands ds
over_ends payload old new commands i ds next ended le h steps is = ends h.rest (h.decides ∙ ap (λ (cs : List Command). are_commands cs h.rest) (drop_all i commands le)) (steps h.rest h.ahead)
  where
    none_left : (o : Option DatagramSpan) (b : Bool) → o ≡ None → is_some o ≡ not b → b ≡ true
    none_left None true n e = refl
    none_left None false n e = cc
    none_left (Some s) b n e = cc

    some_left : (o : Option DatagramSpan) (s : DatagramSpan) (b : Bool) → o ≡ Some s → is_some o ≡ not b → b ≡ false
    some_left (Some t) s true n e = cc
    some_left (Some t) s false n e = refl
    some_left None s b n e = cc

    ends : (rest : List Datagram) → are_commands commands ds ≡ are_commands [] rest → StepsTo old new next rest → ended ≡ are_commands commands ds
    ends [] decides stepped = none_left next ended stepped.0 is ∙ sym decides
    ends (r ∷ rs) decides stepped = some_left next _ ended stepped.0 is ∙ sym decides
