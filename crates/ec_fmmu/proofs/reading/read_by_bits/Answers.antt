use Rattle.std.proofs.Common.{ℕ, List, ap, ◌+◌, ◌-◌, ◌*◌, ◌<◌, ◌≡◌, ◌∙◌, sym, subst, arith, None, Bool, inl, inr, length, ◌||◌}
use Rattle.std.proofs.lemmas.Bool.{cases_lt}
use Rattle.ec_bits.proofs.AnyLaws.{if_true, if_false, within_true, within_below, within_above}
use Rattle.ec_bits.proofs.Overlays.{Overlaying, overlaying_none, overlaying_next, overlaying_end, Counted, counted_none, counted_next, counted_end}
use Rattle.ec_fmmu.specs.Apart.{run_visible}
use Rattle.ec_fmmu.proofs.reading.read_by_bits.Goals as goal

pub loop-k-init : goal.loop-k-init
loop-k-init g c =
    let to = c.args.to in
    let f = run_visible (g.M.ReadableBits.visible c.args.memory.now) c.args.physical to c.args.count in
    let nothing : (i : ℕ) → i < to + 0 → f i ≡ None = λ i d. if_false _ _ _ (within_below to c.args.count i (omega arith)) in
    record {
      bits = overlaying_none c.args.bytes.now f _ nothing;
      any = counted_none f _ _ nothing;
    }

pub loop-k-preserved : goal.loop-k-preserved
loop-k-preserved g c =
    let to = c.args.to in
    let k = c.loop-k.k in
    let n = c.args.count in
    let visible = g.M.ReadableBits.visible c.args.memory.now in
    let f = run_visible visible c.args.physical to n in
    let at : c.args.physical + (to + k - to) ≡ c.args.physical + k = omega arith in
    let update : f (to + k) ≡ c.visible_bit-update.result
    = if_true _ _ _ (within_true to n (to + k) (omega arith) (omega arith)) ∙ (ap visible at ∙ sym c.visible_bit-update.ensures) in
    let next : to + (k + 1) ≡ to + k + 1 = omega arith in
    let inside : to + k < 8 * length c.args.bytes.now = omega arith in
    record {
      bits = subst (λ (xs : List ℕ). Overlaying c.args.bytes.now f (λ i. i < to + (k + 1)) xs) (sym c.overwrite-any.ensures.written)
          (overlaying_next c.args.bytes.now f c.loop-k.bytes (to + k) (to + (k + 1)) c.visible_bit-update.result c.loop-k.invariant.bits inside update next);
      any = subst (λ (b : Bool). Counted f (8 * length c.args.bytes.now) (λ i. i < to + (k + 1)) (c.loop-k.any || b)) (sym c.overwrite-any.ensures.updated)
          (counted_next f (8 * length c.args.bytes.now) (to + k) (to + (k + 1)) c.loop-k.any c.visible_bit-update.result c.loop-k.invariant.any inside update next);
    }

pub returns-clause-bits : goal.returns-clause-bits
returns-clause-bits g c =
    let to = c.args.to in
    let k = c.loop-k.k in
    let f = run_visible (g.M.ReadableBits.visible c.args.memory.now) c.args.physical to c.args.count in
    overlaying_end c.args.bytes.now f (λ i. i < to + k) c.loop-k.bytes c.loop-k.invariant.bits
    (λ i l. elim (cases_lt i (to + k)) [
      | inl h ↦ inr h
      | inr h ↦ inl (if_false _ _ _ (within_above to c.args.count i (omega arith)))
    ])

pub returns-clause-any : goal.returns-clause-any
returns-clause-any g c =
    let to = c.args.to in
    let k = c.loop-k.k in
    let f = run_visible (g.M.ReadableBits.visible c.args.memory.now) c.args.physical to c.args.count in
    counted_end f (8 * length c.args.bytes.now) (λ i. i < to + k) c.loop-k.any c.loop-k.invariant.any
    (λ i l. elim (cases_lt i (to + k)) [
      | inl h ↦ inr h
      | inr h ↦ inl (if_false _ _ _ (within_above to c.args.count i (omega arith)))
    ])
