-- What a wire has received stays received.
use Rattle.std.proofs.Common.{ℕ, ◌+◌, ◌≤◌, ◌≡◌, ◌++◌, List, [], ◌∷◌, Result, Ok, Err, IfOk, refl, sym, ap, subst, ◌∙◌, arith}
use Rattle.std.proofs.lemmas.List.{append-nil, append_assoc, length-append}
use Rattle.std.proofs.lemmas.List.Elements.{Contains-append_left, Contains-append_right}
use Rattle.ec_start.specs.declared.action.Action.TheVariants.{CountSlaves}
use Rattle.ec_wire.specs.Wires.{Trace, Nothing, Number, Payloads, WireState, Carries, grown}
use Rattle.ec_scan.specs.Lines.{HasCome, IsAnswered, Keeps, LineState, WasCounted}

grown_none : (t : Trace) → grown t [] ≡ t
grown_none Nothing = refl
grown_none (Number n) = ap Number (omega arith)
grown_none (Payloads told) = ap Payloads (append-nil told)

grown_twice : (t : Trace) (a b : List (List ℕ)) → grown (grown t a) b ≡ grown t (a ++ b)
grown_twice Nothing a b = refl
grown_twice (Number n) a b = let e = length-append a b in ap Number (omega (arith, e))
grown_twice (Payloads told) a b = ap Payloads (append_assoc told a b)

-- nothing came; a call was made; and one thing after the other
pub kept : (w : WireState) → Keeps w w
kept w = record { more = []; receives = sym (grown_none w.received) }

pub kept_by : (v w : WireState) (sent got : List (List ℕ)) → Carries v w sent got → Keeps v w
kept_by v w sent got c = record { more = got; receives = c.receives }

pub kept_on : (u v w : WireState) → Keeps u v → Keeps v w → Keeps u w
kept_on u v w h k = record {
  more = h.more ++ k.more;
  receives = k.receives ∙ ap (λ (t : Trace). grown t k.more) h.receives ∙ grown_twice u.received h.more k.more;
}

-- a call behind others, and others behind a call
pub kept_then : (u v x w y : WireState) (sent got : List (List ℕ)) → Keeps u v → x ≡ v → Carries x w sent got → y ≡ w → Keeps u y
kept_then u v x w y sent got h same c is =
    subst (λ (z : WireState). Keeps u z) (sym is) (kept_on u v w h (kept_by v w sent got (subst (λ (z : WireState). Carries z w sent got) same c)))

pub kept_first : (u x w y : WireState) (sent got : List (List ℕ)) → x ≡ u → Carries x w sent got → Keeps w y → Keeps u y
kept_first u x w y sent got same c k = kept_on u w y (kept_by u w sent got (subst (λ (z : WireState). Carries z w sent got) same c)) k

-- ---- the count of the slaves

come_before : (t : Trace) (more : List (List ℕ)) (p : List ℕ) → HasCome t p → HasCome (grown t more) p
come_before Nothing more p h = tt
come_before (Number n) more p h = omega (arith, h)
come_before (Payloads told) more p h = Contains-append_left told more p h

come_last : (t : Trace) (p : List ℕ) → HasCome (grown t (p ∷ [])) p
come_last Nothing p = tt
come_last (Number n) p = omega arith
come_last (Payloads told) p = Contains-append_right told (p ∷ []) p (0, omega arith, refl)

counted_now : (s t : LineState) (count : ℕ) → IsAnswered CountSlaves s t count → WasCounted 0 t count
counted_now s t count h =
    let heard = h.heard in
    let next = h.next in
    record {
      payload = heard.payload;
      number = s.number;
      part = heard.part;
      came = subst (λ (r : Trace). HasCome r heard.payload) (sym heard.came.receives) (come_last heard.before.received heard.payload);
      answer = heard.answer;
      counted = heard.counted;
      sent = omega (arith, next);
      last = omega (arith, next);
    }

pub counted_as : (s t : LineState) (n count : ℕ) → IsAnswered CountSlaves s t n → n ≡ count → WasCounted 0 t count
counted_as s t n count h is = subst (WasCounted 0 t) is (counted_now s t n h)

-- a frame more was sent at most
still_counted : (s t : LineState) (count : ℕ) → WasCounted 0 s count → s.number ≤ t.number → t.number ≤ s.number + 1 → Keeps s.wire t.wire → WasCounted 1 t count
still_counted s t count h forward one k =
    let sent = h.sent in
    let last = h.last in
    record {
      payload = h.payload;
      number = h.number;
      part = h.part;
      came = subst (λ (r : Trace). HasCome r h.payload) (sym k.receives) (come_before s.wire.received k.more h.payload h.came);
      answer = h.answer;
      counted = h.counted;
      sent = omega (arith, sent, forward);
      last = omega (arith, last, one);
    }

pub if_still_counted : {A E : Type 0} (s t : LineState) (r : Result A E) (f : A → ℕ) → IfOk r (λ x. WasCounted 0 s (f x))
    → s.number ≤ t.number → t.number ≤ s.number + 1 → Keeps s.wire t.wire → IfOk r (λ x. WasCounted 1 t (f x))
if_still_counted s t (Ok x) f h forward one k = still_counted s t (f x) h forward one k
if_still_counted s t (Err e) f h forward one k = tt
