-- A payload more, noted.
use Rattle.std.proofs.Common.{ℕ, ◌≡◌, refl, sym, ap, subst, List, [], ◌∷◌, ◌++◌, map, Bool, true, false, if◌then◌else◌}
use Rattle.std.proofs.lemmas.List.{append-nil, map-append}
use Rattle.ec_capture.specs.Captures.{Captured}
use Rattle.ec_capture.specs.Recordings.{Notes, Recording}
use Rattle.ec_capture.proofs.Noting.{notes_nothing, notes_then}
use Rattle.ec_wire.specs.Wires.{Carries, Nothing, Number, Payloads, Trace, WireState, grown}
use Rattle.ec_wire.specs.declared.tap.Side.{Side}
use Rattle.ec_wire.specs.Taps.{Carried, IsTapped, IsTraceOf, received_of, captured_of, sent_of}

sent_by : (is_sent : Bool) (p : List ℕ) (xs ys zs : List (List ℕ)) → xs ≡ ys ++ zs → (if is_sent then p ∷ xs else xs) ≡ (if is_sent then p ∷ ys else ys) ++ zs
sent_by true p xs ys zs same = ap (λ (ps : List (List ℕ)). p ∷ ps) same
sent_by false p xs ys zs same = same

received_by : (is_sent : Bool) (p : List ℕ) (xs ys zs : List (List ℕ)) → xs ≡ ys ++ zs → (if is_sent then xs else p ∷ xs) ≡ (if is_sent then ys else p ∷ ys) ++ zs
received_by true p xs ys zs same = same
received_by false p xs ys zs same = ap (λ (ps : List (List ℕ)). p ∷ ps) same

sent-append : (cs ds : List Carried) → sent_of (cs ++ ds) ≡ sent_of cs ++ sent_of ds
sent-append [] ds = refl
sent-append (c ∷ cs) ds = sent_by c.is_sent c.payload (sent_of (cs ++ ds)) (sent_of cs) (sent_of ds) (sent-append cs ds)

received-append : (cs ds : List Carried) → received_of (cs ++ ds) ≡ received_of cs ++ received_of ds
received-append [] ds = refl
received-append (c ∷ cs) ds = received_by c.is_sent c.payload (received_of (cs ++ ds)) (received_of cs) (received_of ds) (received-append cs ds)

tells_grown : (old : Trace) (ps qs : List (List ℕ)) → IsTraceOf old ps → IsTraceOf (grown old qs) (ps ++ qs)
tells_grown Nothing ps qs told = tt
tells_grown (Number n) ps qs told = tt
tells_grown (Payloads xs) ps qs told = ap (λ (l : List (List ℕ)). l ++ qs) told

tells_more : (old new : Trace) (ps qs : List (List ℕ)) → IsTraceOf old ps → new ≡ grown old qs → IsTraceOf new (ps ++ qs)
tells_more old new ps qs told is = subst (λ (x : Trace). IsTraceOf x (ps ++ qs)) (sym is) (tells_grown old ps qs told)

-- before anything was carried
pub tapped_new : (side : Side) (w : WireState) (r : Recording) → IsTraceOf w.sent [] → IsTraceOf w.received [] → IsTapped side w r
tapped_new side w r sent received = record {
  carried = [];
  sent = sent;
  received = received;
  begun = r;
  notes = notes_nothing r;
}

-- a payload more was carried, and noted
pub tapped_more : (side : Side) (w v : WireState) (r s : Recording) (c : Carried) → IsTapped side w r → Carries w v (sent_of (c ∷ [])) (received_of (c ∷ [])) → Notes (captured_of side c ∷ []) r s
    → IsTapped side v s
tapped_more side w v r s c t carries notes = record {
  carried = t.carried ++ c ∷ [];
  sent = subst (λ (ps : List (List ℕ)). IsTraceOf v.sent ps) (sym (sent-append t.carried (c ∷ []))) (tells_more w.sent v.sent (sent_of t.carried) (sent_of (c ∷ [])) t.sent carries.sends);
  received = subst (λ (ps : List (List ℕ)). IsTraceOf v.received ps) (sym (received-append t.carried (c ∷ []))) (tells_more w.received v.received (received_of t.carried) (received_of (c ∷ [])) t.received carries.receives);
  begun = t.begun;
  notes = subst (λ (ss : List Captured). Notes ss t.begun s) (sym (map-append (captured_of side) t.carried (c ∷ []))) (notes_then (map (captured_of side) t.carried) (captured_of side c ∷ []) t.begun r s t.notes notes);
}

-- nothing was carried
pub tapped_lost : (side : Side) (w v : WireState) (r : Recording) → IsTapped side w r → Carries w v [] [] → IsTapped side v r
tapped_lost side w v r t carries = record {
  carried = t.carried;
  sent = subst (λ (ps : List (List ℕ)). IsTraceOf v.sent ps) (append-nil (sent_of t.carried)) (tells_more w.sent v.sent (sent_of t.carried) [] t.sent carries.sends);
  received = subst (λ (ps : List (List ℕ)). IsTraceOf v.received ps) (append-nil (received_of t.carried)) (tells_more w.received v.received (received_of t.carried) [] t.received carries.receives);
  begun = t.begun;
  notes = t.notes;
}
