use Rattle.std.proofs.Common.{ℕ, List, ap, ◌+◌, ◌*◌, ◌≡◌, ◌⊎◌, ◌∙◌, sym, subst, arith, None, inl, inr, length, true, if◌then◌else◌, get_or, ◌||◌, is_some}
use Rattle.std.proofs.lemmas.Bool.{cases_Bool}
use Rattle.ec_bits.specs.Bits.{any_below}
use Rattle.ec_bits.proofs.Overlays.{Overlaying, overlaying_none, overlaying_end, overlaying_overlay, overlaying_fewer, counted_none, counted_part, counted_fewer, counted_end}
use Rattle.ec_regs.specs.Fmmus.{no_fmmu}
use Rattle.ec_fmmu.specs.Applied.{read_updates}
use Rattle.ec_fmmu.specs.Ranges.{reads_to}
use Rattle.ec_fmmu.proofs.RangeLaws.{passed, none_passed, one_more_passed, nothing_read}
use Rattle.ec_fmmu.proofs.reading.apply_read.Goals as goal

pub loop-index-init : goal.loop-index-init
loop-index-init g c =
    record {
      bits = overlaying_none _ _ _ (λ i d. absurd (none_passed c.args.fmmus.now (λ f. reads_to f (c.args.from + i)) d));
      any = counted_none _ _ _ (λ i d. absurd (none_passed c.args.fmmus.now (λ f. reads_to f (c.args.from + i)) d));
    }

pub loop-index-preserved : goal.loop-index-preserved
loop-index-preserved g c =
    let fs = c.args.fmmus.now in
    let from = c.args.from in
    let n = c.loop-index.index in
    let f = read_updates fs (g.M.ReadableBits.visible c.args.memory.now) from in
    let bits = 8 * length c.args.bytes.now in
    let p = λ (i : ℕ). reads_to (get_or fs n no_fmmu) (from + i) in
    let before = λ (i : ℕ). passed n fs (λ f. reads_to f (from + i)) ≡ true in
    let after = λ (i : ℕ). passed (n + 1) fs (λ f. reads_to f (from + i)) ≡ true in
    let more : (i : ℕ) → after i → (p i ≡ true) ⊎ before i
    = λ i d. elim (one_more_passed n fs (λ f. reads_to f (from + i)) d) [
      | inl h ↦ inl h
      | inr h ↦ inr h
    ] in
    let same : length c.loop-index.bytes ≡ length c.args.bytes.now = c.loop-index.auto.bytes in
    let any : c.read_fmmu-any.result ≡ any_below bits (λ i. is_some (if p i then f i else None))
    = c.read_fmmu-any.ensures.any ∙ ap (λ (n : ℕ). any_below (8 * n) (λ i. is_some (if p i then f i else None))) same in
    record {
      bits = subst (λ (xs : List ℕ). Overlaying c.args.bytes.now f after xs) (sym c.read_fmmu-any.ensures.bits)
          (overlaying_fewer c.args.bytes.now f (λ i. (p i ≡ true) ⊎ before i) after _
          (overlaying_overlay c.args.bytes.now f before c.loop-index.bytes p c.loop-index.invariant.bits)
          (λ i l d. more i d));
      any = counted_fewer f bits (λ i. (p i ≡ true) ⊎ before i) after (c.loop-index.any || c.read_fmmu-any.result)
          (counted_part f bits before p (c.loop-index.any) (c.read_fmmu-any.result) c.loop-index.invariant.any any) more;
    }

pub returns-clause-bits : goal.returns-clause-bits
returns-clause-bits g c =
    let fs = c.args.fmmus.now in
    let from = c.args.from in
    let n = c.loop-index.index in
    let visible = g.M.ReadableBits.visible c.args.memory.now in
    overlaying_end c.args.bytes.now (read_updates fs visible from) (λ i. passed n fs (λ f. reads_to f (from + i)) ≡ true) c.loop-index.bytes c.loop-index.invariant.bits
    (λ i l. elim (cases_Bool (passed n fs (λ f. reads_to f (from + i)))) [
      | inl t ↦ inr t
      | inr f ↦ inl (nothing_read fs visible from i n (λ j l. c.read_end-index-end.ensures.behind j (omega (arith, l))) f)
    ])

pub returns-clause-any : goal.returns-clause-any
returns-clause-any g c =
    let fs = c.args.fmmus.now in
    let from = c.args.from in
    let n = c.loop-index.index in
    let visible = g.M.ReadableBits.visible c.args.memory.now in
    counted_end (read_updates fs visible from) (8 * length c.args.bytes.now) (λ i. passed n fs (λ f. reads_to f (from + i)) ≡ true) (c.loop-index.any) c.loop-index.invariant.any
    (λ i l. elim (cases_Bool (passed n fs (λ f. reads_to f (from + i)))) [
      | inl t ↦ inr t
      | inr f ↦ inl (nothing_read fs visible from i n (λ j l. c.read_end-index-end.ensures.behind j (omega (arith, l))) f)
    ])
