-- A payload of two datagrams, and whether it answers an action.
use Rattle.std.proofs.Common.{◌≡◌, ◌<◌, ◌↔◌, ◌==◌, ◌^◌, ℕ, ◌%◌, List, [], ◌∷◌, length, map, take, Bool, true, false, refl, sym, ap, ◌∙◌, arith}
use Rattle.std.specs.Int.{from_le_bytes, to_le_bytes, w64}
use Rattle.std.proofs.lemmas.Bool.{eq-eqb, eqb-true}
use Rattle.std.proofs.lemmas.Nat.{from_le_bytes-to_le_bytes_8}
use Rattle.ec_frame.specs.declared.command.Command.{Command}
use Rattle.ec_frame.specs.declared.command.Command.TheVariants.{Nop}
use Rattle.ec_frame.specs.declared.cursor.Datagrams.{Datagrams}
use Rattle.ec_frame.specs.declared.name.FrameName.{FrameName}
use Rattle.ec_frame.specs.Cursor.{IsAhead}
use Rattle.ec_frame.specs.Datagram.{Datagram, IsDatagram, is_followed, spelling}
use Rattle.ec_frame.specs.Frame.{Payload, IsFrame}
use Rattle.ec_frame.specs.Names.{name_bytes}
use Rattle.ec_frame.proofs.FrameOrFault.{one_payload}
use Rattle.ec_start.specs.declared.action.Action.{Action}
use Rattle.ec_start.specs.Actions.{datagram_of, frame_of}
use Rattle.ec_start.specs.Running.{Shape, shape, number_in}
use Rattle.ec_start.specs.Answered.{Answers, IsAnswerIn}
use Rattle.ec_start.proofs.ActionFrames.{datagram_is}

-- a frame of two datagrams, and their bytes
pub record IsPair (payload name answer : List ℕ) : Type 0 where
  pub frame : Payload
  pub first : Datagram
  pub datagram : Datagram
  pub spelled : IsFrame payload frame
  pub both : frame.datagrams ≡ first ∷ datagram ∷ []
  pub good_first : IsDatagram first
  pub good : IsDatagram datagram
  pub there_first : name ≡ spelling true first
  pub there : answer ≡ spelling false datagram

pair_of : (payload name answer : List ℕ) (places one : Datagrams) (p : Payload) (ds : List Datagram) → p.datagrams ≡ ds → IsFrame payload p → length ds ≡ 2
    → IsAhead payload places ds
    → ((d : Datagram) (es : List Datagram) → IsAhead payload places (d ∷ es) → name ≡ spelling (is_followed es) d)
    → ((d : Datagram) (es : List Datagram) → IsAhead payload places (d ∷ es) → IsAhead payload one es)
    → ((d : Datagram) (es : List Datagram) → IsAhead payload one (d ∷ es) → answer ≡ spelling (is_followed es) d)
    → IsPair payload name answer
pair_of payload name answer places one p [] is f two ahead first others second = absurd (omega (arith, two))
pair_of payload name answer places one p (d ∷ []) is f two ahead first others second = absurd (omega (arith, two))
pair_of payload name answer places one p (d ∷ e ∷ x ∷ xs) is f two ahead first others second = absurd (omega (arith, two))
pair_of payload name answer places one p (d ∷ e ∷ []) is f two ahead first others second =
    let rest = others d (e ∷ []) ahead in
    record {
      frame = p;
      first = d;
      datagram = e;
      spelled = f;
      both = is;
      good_first = ahead.each.0;
      good = ahead.each.1.0;
      there_first = first d (e ∷ []) ahead;
      there = second e [] rest;
    }

pub is_pair : (payload name answer : List ℕ) (places one : Datagrams) (p : Payload) → IsFrame payload p → length p.datagrams ≡ 2
    → IsAhead payload places p.datagrams
    → ((d : Datagram) (es : List Datagram) → IsAhead payload places (d ∷ es) → name ≡ spelling (is_followed es) d)
    → ((d : Datagram) (es : List Datagram) → IsAhead payload places (d ∷ es) → IsAhead payload one es)
    → ((d : Datagram) (es : List Datagram) → IsAhead payload one (d ∷ es) → answer ≡ spelling (is_followed es) d)
    → IsPair payload name answer
is_pair payload name answer places one p f two ahead first others second = pair_of payload name answer places one p p.datagrams refl f two ahead first others second

-- where two datagrams are ahead, the second is behind the first
pub second_ahead : (payload : List ℕ) (places one : Datagrams) (ds : List Datagram) → length ds ≡ 2 → IsAhead payload places ds
    → ((d : Datagram) (es : List Datagram) → IsAhead payload places (d ∷ es) → IsAhead payload one es) → (e : Datagram) × IsAhead payload one (e ∷ [])
second_ahead payload places one [] two ahead others = absurd (omega (arith, two))
second_ahead payload places one (d ∷ []) two ahead others = absurd (omega (arith, two))
second_ahead payload places one (d ∷ e ∷ x ∷ xs) two ahead others = absurd (omega (arith, two))
second_ahead payload places one (d ∷ e ∷ []) two ahead others = (e, others d (e ∷ []) ahead)

-- ---- the number

pub number_read : (bytes : List ℕ) (name : FrameName) (number : ℕ) → bytes ≡ name_bytes name.number name.part → name.number < 2 ^ 64 → number < 2 ^ 64
    → ((name.number == number) ≡ true) ↔ ((length bytes ≡ 10) × (take 8 bytes ≡ to_le_bytes w64 number))
number_read bytes name number e fits small = (
  λ same. (ap length e, ap (λ (xs : List ℕ). take 8 xs) e ∙ ap (to_le_bytes w64) (eqb-true name.number number same)),
  λ h. eq-eqb name.number number (sym (from_le_bytes-to_le_bytes_8 name.number fits) ∙ (ap (from_le_bytes w64) (sym (ap (λ (xs : List ℕ). take 8 xs) e) ∙ h.1) ∙ from_le_bytes-to_le_bytes_8 number small)),
)

pub no_number : (bytes : List ℕ) (number : ℕ) → (length bytes ≡ 10 → ⊥) → (false ≡ true) ↔ ((length bytes ≡ 10) × (take 8 bytes ≡ to_le_bytes w64 number))
no_number bytes number h = (λ f. absurd cc, λ is. absurd (h is.0))

-- ---- shapes

abbrev pub first_shape : ℕ → Shape
first_shape number = record { command = Nop; index = number % 256; bytes = 10 }

abbrev pub second_shape : Action → ℕ → Shape
second_shape a number = record { command = (datagram_of a 0).command; index = number % 256; bytes = length (datagram_of a 0).data_bytes }

shape_is : (a : Action) (number : ℕ) → shape (datagram_of a number) ≡ second_shape a number
shape_is a number = ap shape (datagram_is a number)

shapes_are : (a : Action) (number : ℕ) → map shape (frame_of a number) ≡ first_shape number ∷ second_shape a number ∷ []
shapes_are a number = ap (λ (s : Shape). first_shape number ∷ s ∷ []) (shape_is a number)

abbrev none_shape : Shape
none_shape = record { command = Nop; index = 0; bytes = 0 }

abbrev first_in : List Shape → Shape
first_in [] = none_shape
first_in (s ∷ ss) = s

abbrev second_in : List Shape → Shape
second_in [] = none_shape
second_in (s ∷ []) = none_shape
second_in (s ∷ t ∷ ss) = t

record Seconds (a : Action) (number : ℕ) (d e : Datagram) : Type 0 where
  pub name : shape d ≡ first_shape number
  pub told : take 8 d.data_bytes ≡ to_le_bytes w64 number
  pub answer : shape e ≡ second_shape a number

seconds : (a : Action) (number : ℕ) (ds : List Datagram) (d e : Datagram) → ds ≡ d ∷ e ∷ [] → Answers a number ds → Seconds a number d e
seconds a number ds d e both h =
    let shapes : shape d ∷ shape e ∷ [] ≡ first_shape number ∷ second_shape a number ∷ [] = ap (map shape) (sym both) ∙ (h.shapes ∙ shapes_are a number) in
    record { name = ap first_in shapes; told = ap number_in (sym both) ∙ h.number_is; answer = ap second_in shapes }

answers : (a : Action) (number : ℕ) (ds : List Datagram) (d e : Datagram) → ds ≡ d ∷ e ∷ [] → shape d ≡ first_shape number → take 8 d.data_bytes ≡ to_le_bytes w64 number → shape e ≡ second_shape a number → Answers a number ds
answers a number ds d e both name told answer = record {
  shapes = ap (map shape) both ∙ (ap (λ (s : Shape). s ∷ shape e ∷ []) name ∙ (ap (λ (s : Shape). first_shape number ∷ s ∷ []) answer ∙ sym (shapes_are a number)));
  number_is = ap number_in both ∙ told;
}

pub answer_length : (payload : List ℕ) (a : Action) (number : ℕ) (part : List ℕ) (at : IsAnswerIn payload a number part) → length at.datagram.data_bytes ≡ length (datagram_of a 0).data_bytes
answer_length payload a number part at = let s = seconds a number at.frame.datagrams at.first at.datagram at.both at.answer in ap (λ (t : Shape). t.bytes) s.answer

-- the second shape with what the code knows of the action
made_shape : (a : Action) (number : ℕ) (command : Command) (bytes : ℕ) → command ≡ (datagram_of a 0).command → bytes ≡ length (datagram_of a 0).data_bytes
    → record { command = command; index = number % 256; bytes = bytes } ≡ second_shape a number
made_shape a number command bytes e f =
    let one : Command → Shape = λ c. record { command = c; index = number % 256; bytes = bytes } in
    let two : ℕ → Shape = λ n. record { command = (datagram_of a 0).command; index = number % 256; bytes = n } in
    ap one e ∙ ap two f

pub answer_at : (payload : List ℕ) (a : Action) (number : ℕ) (name answer : List ℕ) (command : Command) (bytes : ℕ) (pair : IsPair payload name answer)
    → command ≡ (datagram_of a 0).command → bytes ≡ length (datagram_of a 0).data_bytes
    → shape pair.first ≡ first_shape number → take 8 pair.first.data_bytes ≡ to_le_bytes w64 number → shape pair.datagram ≡ record { command = command; index = number % 256; bytes = bytes }
    → IsAnswerIn payload a number answer
answer_at payload a number name answer command bytes pair e f named told shaped = record {
  frame = pair.frame;
  first = pair.first;
  datagram = pair.datagram;
  spelled = pair.spelled;
  both = pair.both;
  good = pair.good;
  answer = answers a number pair.frame.datagrams pair.first pair.datagram pair.both named told (shaped ∙ made_shape a number command bytes e f);
  there = pair.there;
}

-- what an answer's datagrams are, in the same payload
pub record OfAnswer (a : Action) (number : ℕ) (command : Command) (bytes : ℕ) (d e : Datagram) : Type 0 where
  pub name : shape d ≡ first_shape number
  pub told : take 8 d.data_bytes ≡ to_le_bytes w64 number
  pub answer : shape e ≡ record { command = command; index = number % 256; bytes = bytes }

pub of_answer : (payload : List ℕ) (a : Action) (number : ℕ) (name answer : List ℕ) (command : Command) (bytes : ℕ) (pair : IsPair payload name answer) (p : Payload)
    → command ≡ (datagram_of a 0).command → bytes ≡ length (datagram_of a 0).data_bytes → IsFrame payload p → Answers a number p.datagrams → OfAnswer a number command bytes pair.first pair.datagram
of_answer payload a number name answer command bytes pair p e f spelled h =
    let one : p ≡ pair.frame = one_payload payload p pair.frame spelled pair.spelled in
    let s = seconds a number p.datagrams pair.first pair.datagram (ap (λ (q : Payload). q.datagrams) one ∙ pair.both) h in
    record { name = s.name; told = s.told; answer = s.answer ∙ sym (made_shape a number command bytes e f) }

pub no_truth : (b : Bool) → b ≡ false → b ≡ true → ⊥
no_truth b f t = let g : false ≡ true = sym f ∙ t in absurd (let h : false ≡ true = g in cc)
