-- A payload of two datagrams, and whether it answers a question.
use Rattle.std.proofs.Common.{◌≡◌, ◌≤◌, ℕ, List, [], ◌∷◌, length, map, slice_range, Bool, true, false, refl, sym, ap, ◌∙◌, arith}
use Rattle.ec_frame.specs.declared.command.Command.{Command}
use Rattle.ec_frame.specs.declared.command.Command.TheVariants.{Nop}
use Rattle.ec_frame.specs.declared.cursor.DatagramSpan.{DatagramSpan}
use Rattle.ec_frame.specs.declared.cursor.Datagrams.{Datagrams}
use Rattle.ec_frame.specs.Building.{new_datagram}
use Rattle.ec_frame.specs.Cursor.{IsAhead}
use Rattle.ec_frame.specs.Datagram.{Datagram, IsDatagram, is_followed, spelling}
use Rattle.ec_frame.specs.Frame.{Payload, IsFrame}
use Rattle.ec_frame.proofs.FrameLaws.{frames_are_decoded}
use Rattle.ec_frame.specs.Names.{Shape, name_of, shape}
use Rattle.ec_asking.specs.declared.question.Question.{Question}
use Rattle.ec_asking.specs.declared.question.Question.TheVariants.{Status, Init}
use Rattle.ec_asking.specs.Questions.{IsAnswerTo, datagram_of, question_frame}
use Rattle.ec_asking.specs.Answered.{IsAnswerAt, question_name}

-- a frame of two datagrams, which stand at two places
pub record IsPair (payload : List ℕ) (name answer : DatagramSpan) : Type 0 where
  pub frame : Payload
  pub first : Datagram
  pub datagram : Datagram
  pub spelled : IsFrame payload frame
  pub both : frame.datagrams ≡ first ∷ datagram ∷ []
  pub good_first : IsDatagram first
  pub good : IsDatagram datagram
  pub there_first : slice_range payload name.from name.to ≡ spelling true first
  pub there : slice_range payload answer.from answer.to ≡ spelling false datagram

pair_of : (payload : List ℕ) (name answer : DatagramSpan) (places one : Datagrams) (p : Payload) (ds : List Datagram) → p.datagrams ≡ ds → IsFrame payload p → length ds ≡ 2
    → IsAhead payload places ds
    → ((d : Datagram) (es : List Datagram) → IsAhead payload places (d ∷ es) → slice_range payload name.from name.to ≡ spelling (is_followed es) d)
    → ((d : Datagram) (es : List Datagram) → IsAhead payload places (d ∷ es) → IsAhead payload one es)
    → ((d : Datagram) (es : List Datagram) → IsAhead payload one (d ∷ es) → slice_range payload answer.from answer.to ≡ spelling (is_followed es) d)
    → IsPair payload name answer
pair_of payload name answer places one p [] is f two ahead first others second = absurd (omega (arith, two))
pair_of payload name answer places one p (d ∷ []) is f two ahead first others second = absurd (omega (arith, two))
pair_of payload name answer places one p (d ∷ e ∷ x ∷ xs) is f two ahead first others second = absurd (omega (arith, two))
pair_of payload name answer places one p (d ∷ e ∷ []) is f two ahead first others second =
    let rest = others d (e ∷ []) ahead in
    record {
      frame = p;
      first = d;
      datagram = e;
      spelled = f;
      both = is;
      good_first = ahead.each.0;
      good = ahead.each.1.0;
      there_first = first d (e ∷ []) ahead;
      there = second e [] rest;
    }

pub is_pair : (payload : List ℕ) (name answer : DatagramSpan) (places one : Datagrams) (p : Payload) → IsFrame payload p → length p.datagrams ≡ 2
    → IsAhead payload places p.datagrams
    → ((d : Datagram) (es : List Datagram) → IsAhead payload places (d ∷ es) → slice_range payload name.from name.to ≡ spelling (is_followed es) d)
    → ((d : Datagram) (es : List Datagram) → IsAhead payload places (d ∷ es) → IsAhead payload one es)
    → ((d : Datagram) (es : List Datagram) → IsAhead payload one (d ∷ es) → slice_range payload answer.from answer.to ≡ spelling (is_followed es) d)
    → IsPair payload name answer
is_pair payload name answer places one p f two ahead first others second = pair_of payload name answer places one p p.datagrams refl f two ahead first others second

-- ---- shapes

abbrev pub name_shape : Shape
name_shape = record { command = Nop; index = 255; bytes = 10 }

abbrev pub asking_shape : Question → Shape
asking_shape q = record { command = (datagram_of q).command; index = 255; bytes = length (datagram_of q).data_bytes }

shapes_are : (q : Question) (count : ℕ) → map shape (question_frame q count) ≡ name_shape ∷ asking_shape q ∷ []
shapes_are (Status slave) count = refl
shapes_are Init count = refl

abbrev none_shape : Shape
none_shape = record { command = Nop; index = 0; bytes = 0 }

abbrev first_in : List Shape → Shape
first_in [] = none_shape
first_in (s ∷ ss) = s

abbrev second_in : List Shape → Shape
second_in [] = none_shape
second_in (s ∷ []) = none_shape
second_in (s ∷ t ∷ ss) = t

-- the frame that the code writes
pub framed : (q : Question) (count index address : ℕ) (name bytes : List ℕ) (command : Command) → index ≡ 255 → name ≡ question_name count → command ≡ (datagram_of q).command → address ≡ (datagram_of q).address
    → bytes ≡ (datagram_of q).data_bytes → new_datagram Nop index 0 name ∷ new_datagram command index address bytes ∷ [] ≡ question_frame q count
framed q count index address name bytes command i n c a b =
    let naming : List ℕ → List Datagram = λ xs. new_datagram Nop index 0 xs ∷ new_datagram command index address bytes ∷ [] in
    let with_command : Command → List Datagram = λ x. new_datagram Nop index 0 (question_name count) ∷ new_datagram x index address bytes ∷ [] in
    let with_address : ℕ → List Datagram = λ x. new_datagram Nop index 0 (question_name count) ∷ new_datagram (datagram_of q).command index x bytes ∷ [] in
    let with_bytes : List ℕ → List Datagram = λ xs. new_datagram Nop index 0 (question_name count) ∷ new_datagram (datagram_of q).command index (datagram_of q).address xs ∷ [] in
    let with_index : ℕ → List Datagram = λ x. new_datagram Nop x 0 (question_name count) ∷ new_datagram (datagram_of q).command x (datagram_of q).address (datagram_of q).data_bytes ∷ [] in
    ap naming n ∙ (ap with_command c ∙ (ap with_address a ∙ (ap with_bytes b ∙ (ap with_index i ∙ asked_as q count))))
  where
    asked_as : (q : Question) (count : ℕ) → new_datagram Nop 255 0 (question_name count) ∷ new_datagram (datagram_of q).command 255 (datagram_of q).address (datagram_of q).data_bytes ∷ [] ≡ question_frame q count
    asked_as (Status slave) count = refl
    asked_as Init count = refl

-- what the two datagrams of an answer are
pub record AreOf (q : Question) (count : ℕ) (d e : Datagram) : Type 0 where
  pub name : shape d ≡ name_shape
  pub told : d.data_bytes ≡ question_name count
  pub asking : shape e ≡ asking_shape q

seconds : (q : Question) (count : ℕ) (ds : List Datagram) (d e : Datagram) → ds ≡ d ∷ e ∷ [] → IsAnswerTo q count ds → AreOf q count d e
seconds q count ds d e both h =
    let shapes : shape d ∷ shape e ∷ [] ≡ name_shape ∷ asking_shape q ∷ [] = ap (map shape) (sym both) ∙ (h.shapes ∙ shapes_are q count) in
    record { name = ap first_in shapes; told = ap name_of (sym both) ∙ h.named; asking = ap second_in shapes }

answers : (q : Question) (count : ℕ) (ds : List Datagram) (d e : Datagram) → ds ≡ d ∷ e ∷ [] → AreOf q count d e → IsAnswerTo q count ds
answers q count ds d e both h = record {
  shapes = ap (map shape) both ∙ (ap (λ (s : Shape). s ∷ shape e ∷ []) h.name ∙ (ap (λ (s : Shape). name_shape ∷ s ∷ []) h.asking ∙ sym (shapes_are q count)));
  named = ap name_of both ∙ h.told;
}

-- the second shape by what the code compares
made_shape : (q : Question) (command : Command) (bytes : ℕ) → command ≡ (datagram_of q).command → bytes ≡ length (datagram_of q).data_bytes
    → record { command = command; index = 255; bytes = bytes } ≡ asking_shape q
made_shape q command bytes e f =
    let one : Command → Shape = λ c. record { command = c; index = 255; bytes = bytes } in
    let two : ℕ → Shape = λ n. record { command = (datagram_of q).command; index = 255; bytes = n } in
    ap one e ∙ ap two f

pub answer_at : (payload : List ℕ) (q : Question) (count : ℕ) (name answer : DatagramSpan) (command : Command) (bytes : ℕ) (pair : IsPair payload name answer)
    → command ≡ (datagram_of q).command → bytes ≡ length (datagram_of q).data_bytes
    → shape pair.first ≡ name_shape → pair.first.data_bytes ≡ question_name count → shape pair.datagram ≡ record { command = command; index = 255; bytes = bytes }
    → (answer.from ≤ answer.to) × (answer.to ≤ length payload) → IsAnswerAt payload q count answer
answer_at payload q count name answer command bytes pair e f named told shaped within = record {
  frame = pair.frame;
  first = pair.first;
  datagram = pair.datagram;
  spelled = pair.spelled;
  both = pair.both;
  good = pair.good;
  answer = answers q count pair.frame.datagrams pair.first pair.datagram pair.both (record { name = named; told = told; asking = shaped ∙ made_shape q command bytes e f });
  within = within;
  there = pair.there;
}

-- what an answer's datagrams are, in the same payload, by what the code compares
pub record OfAnswer (count : ℕ) (command : Command) (bytes : ℕ) (d e : Datagram) : Type 0 where
  pub name : shape d ≡ name_shape
  pub told : d.data_bytes ≡ question_name count
  pub asking : shape e ≡ record { command = command; index = 255; bytes = bytes }

pub of_answer : (payload : List ℕ) (q : Question) (count : ℕ) (name answer : DatagramSpan) (command : Command) (bytes : ℕ) (pair : IsPair payload name answer) (p : Payload)
    → command ≡ (datagram_of q).command → bytes ≡ length (datagram_of q).data_bytes → IsFrame payload p → IsAnswerTo q count p.datagrams → OfAnswer count command bytes pair.first pair.datagram
of_answer payload q count name answer command bytes pair p e f spelled h =
    let one : p.datagrams ≡ pair.frame.datagrams = sym (frames_are_decoded payload p spelled) ∙ frames_are_decoded payload pair.frame pair.spelled in
    let s = seconds q count p.datagrams pair.first pair.datagram (one ∙ pair.both) h in
    record { name = s.name; told = s.told; asking = s.asking ∙ sym (made_shape q command bytes e f) }

pub no_truth : (b : Bool) → b ≡ false → b ≡ true → ⊥
no_truth b f t = let g : false ≡ true = sym f ∙ t in absurd (let h : false ≡ true = g in cc)
