-- Payloads that a wire carries, in steps.
use Rattle.std.proofs.Common.{◌≡◌, ◌∙◌, ◌||◌, ◌==◌, inr, ℕ, List, [], ◌∷◌, ◌++◌, nat_lt, Option, Result, Ok, Err, OnOk, OnErr, refl, sym, ap, subst, append-nil, append_assoc, add-zero, arith}
use Rattle.std.proofs.lemmas.List.{length-append}
use Rattle.ec_wire.specs.Wires.{Carries, Trace, Nothing, Number, Payloads, WireState, grown, max_failed}
use Rattle.ec_live.specs.Meeting.{Meets}
use Rattle.ec_live.specs.Stages.{AnswersOne, KeepsAnswer, MeetsFault, MeetsPayload, MeetsSome, MissesAnswer, one_less_frame}
use Rattle.ec_live.specs.State.{LiveState}

grown_none : (told : Trace) → grown told [] ≡ told
grown_none Nothing = refl
grown_none (Number n) = ap Number (add-zero n)
grown_none (Payloads ps) = ap Payloads (append-nil ps)

grown_twice : (a : Trace) (ps qs : List (List ℕ)) → grown (grown a ps) qs ≡ grown a (ps ++ qs)
grown_twice Nothing ps qs = refl
grown_twice (Number n) ps qs = ap Number (let l = length-append ps qs in omega (arith, l))
grown_twice (Payloads xs) ps qs = ap Payloads (append_assoc xs ps qs)

grown_then : (a b c : Trace) (ps qs : List (List ℕ)) → b ≡ grown a ps → c ≡ grown b qs → c ≡ grown a (ps ++ qs)
grown_then a b c ps qs g h = h ∙ (ap (λ (x : Trace). grown x qs) g ∙ grown_twice a ps qs)

-- ---- nothing

pub carries_nothing : (w v : WireState) → v ≡ w → Carries w v [] []
carries_nothing w v same =
    subst (λ (x : WireState). Carries w x [] []) (sym same) (record { sends = sym (grown_none w.sent); receives = sym (grown_none w.received); faults = omega arith })

pub same_wire : (w v : WireState) → Carries w v [] [] → v.failed ≡ w.failed → v ≡ w
same_wire w v h fine =
    ap (λ (told : Trace). record { sent = told; received = v.received; failed = v.failed }) (h.sends ∙ grown_none w.sent)
    ∙ (ap (λ (told : Trace). record { sent = w.sent; received = told; failed = v.failed }) (h.receives ∙ grown_none w.received)
    ∙ ap (λ (n : ℕ). record { sent = w.sent; received = w.received; failed = n }) fine)

-- ---- one step behind another

pub carries_then : (u v w : WireState) (xs ys zs ws : List (List ℕ)) → Carries u v xs ys → Carries v w zs ws → Carries u w (xs ++ zs) (ys ++ ws)
carries_then u v w xs ys zs ws g h = record {
  sends = grown_then u.sent v.sent w.sent xs zs g.sends h.sends;
  receives = grown_then u.received v.received w.received ys ws g.receives h.receives;
  faults = let p = g.faults in let q = h.faults in omega arith;
}

-- ---- a payload comes

-- a payload that isn't answered
pub none_sent : (s t : LiveState) (w : WireState) (payload : List ℕ) → Meets s payload t [] → AnswersOne payload s t w w
none_sent s t w payload meets = record { answers = []; carried = carries_nothing w w refl; fine = refl; meets = meets }

-- it is met, and its answer is sent, if it has one
pub meets_payload : (s t : LiveState) (u v w : WireState) (payload : List ℕ) → Carries u v [] (payload ∷ []) → v.failed ≡ u.failed → AnswersOne payload s t v w → MeetsPayload payload s t u w
meets_payload s t u v w payload heard fine sends =
    record { answers = sends.answers; carried = carries_then u v w [] (payload ∷ []) sends.answers [] heard sends.carried; fine = sends.fine ∙ fine; meets = sends.meets }

-- or it isn't sent
pub misses_answer : (s t : LiveState) (u v w : WireState) (payload : List ℕ) → Carries u v [] (payload ∷ []) → v.failed ≡ u.failed → KeepsAnswer payload s t v w → MissesAnswer s t u w
misses_answer s t u v w payload heard fine keeps = record {
  payload = payload;
  answer = keeps.answer;
  carried = carries_then u v w [] (payload ∷ []) [] [] heard keeps.carried;
  fault = ap (λ (n : ℕ). nat_lt n w.failed || (n == max_failed)) (sym fine) ∙ keeps.fault;
  meets = keeps.meets;
}

-- by how the answer went
pub some_met : {E : Type 0} (r : Result Unit E) (s t : LiveState) (u v w : WireState) (payload : List ℕ) (before after : Option ℕ) → Carries u v [] (payload ∷ []) → v.failed ≡ u.failed → after ≡ one_less_frame before
    → OnOk r (AnswersOne payload s t v w) → OnOk r (MeetsSome s t u w before after)
some_met {E} (Ok done) s t u v w payload before after heard fine less sends = inr (payload, meets_payload s t u v w payload heard fine sends, less)
some_met {E} (Err e) s t u v w payload before after heard fine less sends = tt

pub fault_met : {E : Type 0} (r : Result Unit E) (s t : LiveState) (u v w : WireState) (payload : List ℕ) → Carries u v [] (payload ∷ []) → v.failed ≡ u.failed → OnErr r (KeepsAnswer payload s t v w)
    → OnErr r (MeetsFault s t u w)
fault_met {E} (Ok done) s t u v w payload heard fine keeps = tt
fault_met {E} (Err e) s t u v w payload heard fine keeps = inr (misses_answer s t u v w payload heard fine keeps)
