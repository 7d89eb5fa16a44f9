use Rattle.std.proofs.Common.{ℕ, ap, ◌+◌, ◌-◌, ◌*◌, ◌<◌, ◌≡◌, ◌∙◌, sym, Option, Bool, None, option_and_then, length, unwrap_or, is_some, max, min}
use Rattle.ec_bits.specs.Bits.{bit}
use Rattle.ec_bits.proofs.BitLaws.{overlay_own, overlay_alike}
use Rattle.ec_bits.proofs.AnyLaws.{any_below_none, any_below-alike}
use Rattle.ec_fmmu.specs.Alone.{run_mapped}
use Rattle.ec_fmmu.specs.Apart.{run_visible}
use Rattle.ec_fmmu.proofs.AloneLaws.{run_tells, run_empty}
use Rattle.ec_fmmu.proofs.reading.read_alone.Goals as goal

pub returns-then-end-first-clause-any : goal.returns-then-end-first-clause-any
returns-then-end-first-clause-any g c =
    let visible = g.M.ReadableBits.visible c.args.memory.now in
    let from = c.args.from in
    let xs = c.args.bytes.now in
    let bits = 8 * length xs in
    let logical = c.args.run.logical in
    let physical = c.args.run.physical in
    let n = c.args.run.count in
    let first = c.max.result - from in
    let end = c.min-end.result in
    let a : first ≡ max logical from - from = ap (λ (m : ℕ). m - from) c.max.ensures in
    let b : end ≡ min (max (logical + n) from - from) bits = c.min-end.ensures ∙ ap (λ (m : ℕ). min (m - from) bits) c.max-2.ensures in
    let update = λ (i : ℕ). option_and_then visible (run_mapped logical physical n (from + i)) in
    let same : (i : ℕ) → i < bits → update i ≡ run_visible visible (physical + (from + first - logical)) first (end - first) i
    = λ i l. run_tells visible from i logical physical n bits first end a b l in
    let none : (i : ℕ) → i < bits → update i ≡ None
    = λ i l. same i l ∙ run_empty visible (physical + (from + first - logical)) first end i c.if-end-first.true in
    sym (any_below_none bits (λ i. is_some (update i)) (λ i l. ap is_some (none i l)))

pub returns-then-end-first-clause-bits : goal.returns-then-end-first-clause-bits
returns-then-end-first-clause-bits g c =
    let visible = g.M.ReadableBits.visible c.args.memory.now in
    let from = c.args.from in
    let xs = c.args.bytes.now in
    let bits = 8 * length xs in
    let logical = c.args.run.logical in
    let physical = c.args.run.physical in
    let n = c.args.run.count in
    let first = c.max.result - from in
    let end = c.min-end.result in
    let a : first ≡ max logical from - from = ap (λ (m : ℕ). m - from) c.max.ensures in
    let b : end ≡ min (max (logical + n) from - from) bits = c.min-end.ensures ∙ ap (λ (m : ℕ). min (m - from) bits) c.max-2.ensures in
    let update = λ (i : ℕ). option_and_then visible (run_mapped logical physical n (from + i)) in
    let same : (i : ℕ) → i < bits → update i ≡ run_visible visible (physical + (from + first - logical)) first (end - first) i
    = λ i l. run_tells visible from i logical physical n bits first end a b l in
    let none : (i : ℕ) → i < bits → update i ≡ None
    = λ i l. same i l ∙ run_empty visible (physical + (from + first - logical)) first end i c.if-end-first.true in
    sym (overlay_own xs update (λ i l. ap (λ (o : Option Bool). unwrap_or o (bit xs i)) (none i l)))

pub returns-clause-any : goal.returns-clause-any
returns-clause-any g c =
    let visible = g.M.ReadableBits.visible c.args.memory.now in
    let from = c.args.from in
    let xs = c.args.bytes.now in
    let bits = 8 * length xs in
    let logical = c.args.run.logical in
    let physical = c.args.run.physical in
    let n = c.args.run.count in
    let first = c.max.result - from in
    let end = c.min-end.result in
    let a : first ≡ max logical from - from = ap (λ (m : ℕ). m - from) c.max.ensures in
    let b : end ≡ min (max (logical + n) from - from) bits = c.min-end.ensures ∙ ap (λ (m : ℕ). min (m - from) bits) c.max-2.ensures in
    let update = λ (i : ℕ). option_and_then visible (run_mapped logical physical n (from + i)) in
    let same : (i : ℕ) → i < bits → update i ≡ run_visible visible (physical + (from + first - logical)) first (end - first) i
    = λ i l. run_tells visible from i logical physical n bits first end a b l in
    c.read_run.ensures.any
    ∙ any_below-alike bits (λ i. is_some (run_visible visible (physical + (from + first - logical)) first (end - first) i)) (λ i. is_some (update i))
    (λ i l. ap is_some (sym (same i l)))

pub returns-clause-bits : goal.returns-clause-bits
returns-clause-bits g c =
    let visible = g.M.ReadableBits.visible c.args.memory.now in
    let from = c.args.from in
    let xs = c.args.bytes.now in
    let bits = 8 * length xs in
    let logical = c.args.run.logical in
    let physical = c.args.run.physical in
    let n = c.args.run.count in
    let first = c.max.result - from in
    let end = c.min-end.result in
    let a : first ≡ max logical from - from = ap (λ (m : ℕ). m - from) c.max.ensures in
    let b : end ≡ min (max (logical + n) from - from) bits = c.min-end.ensures ∙ ap (λ (m : ℕ). min (m - from) bits) c.max-2.ensures in
    let update = λ (i : ℕ). option_and_then visible (run_mapped logical physical n (from + i)) in
    let same : (i : ℕ) → i < bits → update i ≡ run_visible visible (physical + (from + first - logical)) first (end - first) i
    = λ i l. run_tells visible from i logical physical n bits first end a b l in
    c.read_run.ensures.bits
    ∙ overlay_alike xs (run_visible visible (physical + (from + first - logical)) first (end - first)) update
    (λ i l. ap (λ (o : Option Bool). unwrap_or o (bit xs i)) (sym (same i l)))
