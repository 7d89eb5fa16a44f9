-- What is heard on a wire: a payload or none; and payloads that come behind a question.
use Rattle.std.proofs.Common.{ℕ, ◌≡◌, ◌∙◌, ◌++◌, inl, inr, List, [], ◌∷◌, false, Option, Some, None, Result, Ok, Err, refl, sym, subst}
use Rattle.std.specs.Prelude.{IfSome, IfNone}
use Rattle.ec_frame.specs.Building.{bare_payload}
use Rattle.ec_frame.specs.Frame.{IsFrame}
use Rattle.ec_asking.specs.Questions.{question_frame}
use Rattle.ec_wire.specs.declared.error.SocketFault.{SocketFault}
use Rattle.ec_wire.specs.Wires.{Carries, WireState, is_fault}
use Rattle.ec_wire.proofs.WireCalls.{carries-then, fault-from, fault-to}
use Rattle.ec_asking.specs.declared.answer.AlStatus.{AlStatus}
use Rattle.ec_asking.specs.declared.question.Question.{Question}
use Rattle.ec_wire.specs.Asked.{Answers, AreHeard, Asks, Hears, IsNoAnswer}

-- ---- a payload or none

pub some_here : (o : Option ℕ) (n : ℕ) (P : ℕ → Type 0) → o ≡ Some n → IfSome o P → P n
some_here o n P is h = subst (λ (x : Option ℕ). IfSome x P) is h

pub none_here : (o : Option ℕ) (Q : Type 0) → ((n : ℕ) → o ≡ Some n → ⊥) → IfNone o Q → Q
none_here None Q none h = h
none_here (Some n) Q none h = absurd (none n refl)

-- ---- a question

-- payloads that don't answer the question
abbrev pub AreStrange : Question → ℕ → List (List ℕ) → Type 0
AreStrange q count [] = Unit {0}
AreStrange q count (p ∷ ps) = IsNoAnswer q count p × AreStrange q count ps

pub strange_push : (q : Question) (count : ℕ) (ps : List (List ℕ)) (p : List ℕ) → AreStrange q count ps → IsNoAnswer q count p → AreStrange q count (ps ++ p ∷ [])
strange_push q count [] p h none = (none, tt)
strange_push q count (x ∷ ps) p h none = (h.0, strange_push q count ps p h.1 none)

-- none of them did
pub none_heard : (q : Question) (count : ℕ) (ps : List (List ℕ)) → AreStrange q count ps → AreHeard q count ps None
none_heard q count [] h = refl
none_heard q count (p ∷ ps) h = inr (h.0, none_heard q count ps h.1)

-- the last one did
pub last_heard : (q : Question) (count : ℕ) (ps : List (List ℕ)) (p : List ℕ) (told : Option AlStatus) → AreStrange q count ps → Answers q count p told → AreHeard q count (ps ++ p ∷ []) told
last_heard q count [] p told h answers = inl (answers, refl)
last_heard q count (x ∷ ps) p told h answers = inr (h.0, last_heard q count ps p told h.1 answers)

-- the frame of a question was sent, and then payloads came
pub asked : (q : Question) (count : ℕ) (old sent new : WireState) (payload frame : List ℕ) (r : Result (Option AlStatus) SocketFault) → IsFrame frame (bare_payload (question_frame q count)) → payload ≡ frame
    → is_fault old sent ≡ false → sent.failed ≡ old.failed → Carries old sent (payload ∷ []) [] → Hears q count sent new r → Asks q count old new r
asked q count old sent new payload frame (Ok told) spelled same fine stays carried (got, came, heard, still) = record {
  frame = frame;
  spelled = spelled;
  got = got;
  carried = carries-then old sent new (frame ∷ []) [] [] got (subst (λ (xs : List ℕ). Carries old sent (xs ∷ []) []) same carried) came;
  heard = heard;
  fine = fault-to old sent new still ∙ fine;
}
asked q count old sent new payload frame (Err fault) spelled same fine stays carried faulted = sym (fault-from old sent new stays) ∙ faulted
