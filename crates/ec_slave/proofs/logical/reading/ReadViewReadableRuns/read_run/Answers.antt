use Rattle.std.proofs.Common.{ℕ, List, ap, ◌+◌, ◌*◌, ◌<◌, ◌≤◌, ◌≡◌, ◌⊎◌, ◌∙◌, sym, subst, arith, None, true, inl, inr, length, ◌||◌, is_some, if◌then◌else◌, unwrap_or}
use Rattle.std.proofs.lemmas.Bool.{cases_lt}
use Rattle.ec_bits.specs.Bits.{bit, within, overlay, any_below}
use Rattle.ec_bits.proofs.AnyLaws.{if_false, within_true, within_below, within_above, any_below-alike}
use Rattle.ec_bits.proofs.BitLaws.{overlay_alike}
use Rattle.ec_bits.proofs.Overlays.{Overlaying, overlaying_none, overlaying_overlay, overlaying_fewer, overlaying_end, counted_none, counted_part, counted_fewer, counted_end}
use Rattle.ec_fmmu.specs.Apart.{run_visible}
use Rattle.ec_slave.specs.ReadViews.{view_bit}
use Rattle.ec_slave.proofs.Memory.GovernorRuns.{run_part}
use Rattle.ec_slave.proofs.logical.reading.ReadViewReadableRuns.read_run.Goals as goal

pub loop-done-init : goal.loop-done-init
loop-done-init c =
    let s = c.args.self.now in
    let to = c.args.to in
    let f = run_visible (view_bit s.memory.now s.managers.now s.readable.now) c.args.physical to c.args.count in
    let nothing : (i : ℕ) → i < to + 0 → f i ≡ None = λ i d. if_false _ _ _ (within_below to c.args.count i (omega arith)) in
    record {
      inside = omega arith;
      bits = overlaying_none c.args.bytes.now f _ nothing;
      any = counted_none f _ _ nothing;
    }

pub loop-done-preserved : goal.loop-done-preserved
loop-done-preserved c =
    let s = c.args.self.now in
    let to = c.args.to in
    let done = c.loop-done.done in
    let n = c.args.count in
    let q = c.args.physical in
    let m = c.count_alike-alike.result in
    let visible = view_bit s.memory.now s.managers.now s.readable.now in
    let f = run_visible visible q to n in
    let p = λ (i : ℕ). within (to + done) m i in
    let before = λ (i : ℕ). i < to + done in
    let after = λ (i : ℕ). i < to + (done + m) in
    let inside = c.count_alike-alike.ensures.inside.1 in
    let test = c.loop-done-test.true in
    let fits : done + m ≤ n = omega (arith, inside, test) in
    let part = run_part visible q to n done m fits in
    let more : (i : ℕ) → after i → (p i ≡ true) ⊎ before i
    = λ i d. elim (cases_lt i (to + done)) [
      | inl l ↦ inr l
      | inr h ↦ inl (within_true (to + done) m i h (omega arith))
    ] in
    let long : length c.loop-done.bytes ≡ length c.args.bytes.now = c.loop-done.auto.bytes in
    let bits : c.read_alike-any.new.bytes ≡ overlay c.loop-done.bytes (λ i. if p i then f i else None)
    = c.read_alike-any.ensures.bits ∙ overlay_alike c.loop-done.bytes _ (λ i. if p i then f i else None) (λ i l. ap (λ o. unwrap_or o (bit c.loop-done.bytes i)) (part i)) in
    let any : c.read_alike-any.result ≡ any_below (8 * length c.args.bytes.now) (λ i. is_some (if p i then f i else None))
    = c.read_alike-any.ensures.any ∙ (ap (λ (k : ℕ). any_below (8 * k) (λ i. is_some (run_visible visible (q + done) (to + done) m i))) long
    ∙ any_below-alike (8 * length c.args.bytes.now) (λ i. is_some (run_visible visible (q + done) (to + done) m i)) (λ i. is_some (if p i then f i else None)) (λ i l. ap is_some (part i))) in
    record {
      inside = fits;
      bits = subst (λ (xs : List ℕ). Overlaying c.args.bytes.now f after xs) (sym bits)
          (overlaying_fewer c.args.bytes.now f (λ i. (p i ≡ true) ⊎ before i) after _
          (overlaying_overlay c.args.bytes.now f before c.loop-done.bytes p c.loop-done.invariant.bits)
          (λ i l d. more i d));
      any = counted_fewer f (8 * length c.args.bytes.now) (λ i. (p i ≡ true) ⊎ before i) after (c.loop-done.any || c.read_alike-any.result)
          (counted_part f (8 * length c.args.bytes.now) before p c.loop-done.any c.read_alike-any.result c.loop-done.invariant.any any) more;
    }

pub returns-clause-bits : goal.returns-clause-bits
returns-clause-bits c =
    let s = c.args.self.now in
    let to = c.args.to in
    let f = run_visible (view_bit s.memory.now s.managers.now s.readable.now) c.args.physical to c.args.count in
    let test = c.loop-done-test.false in
    overlaying_end c.args.bytes.now f (λ i. i < to + c.loop-done.done) c.loop-done.bytes c.loop-done.invariant.bits
    (λ i l. elim (cases_lt i (to + c.loop-done.done)) [
      | inl h ↦ inr h
      | inr h ↦ inl (if_false _ _ _ (within_above to c.args.count i (omega (arith, test))))
    ])

pub returns-clause-any : goal.returns-clause-any
returns-clause-any c =
    let s = c.args.self.now in
    let to = c.args.to in
    let f = run_visible (view_bit s.memory.now s.managers.now s.readable.now) c.args.physical to c.args.count in
    let test = c.loop-done-test.false in
    counted_end f (8 * length c.args.bytes.now) (λ i. i < to + c.loop-done.done) c.loop-done.any c.loop-done.invariant.any
    (λ i l. elim (cases_lt i (to + c.loop-done.done)) [
      | inl h ↦ inr h
      | inr h ↦ inl (if_false _ _ _ (within_above to c.args.count i (omega (arith, test))))
    ])
