use Rattle.std.proofs.Common.{ℕ, ap, ◌+◌, ◌*◌, ◌≡◌, ◌∙◌, sym, Option, Bool, None, option_and_then, length, get_or, unwrap_or, is_some}
use Rattle.ec_bits.specs.Bits.{bit}
use Rattle.ec_bits.proofs.BitLaws.{overlay_own, overlay_alike}
use Rattle.ec_bits.proofs.AnyLaws.{if_false, any_below_none, any_below-alike}
use Rattle.ec_regs.specs.Fmmus.{no_fmmu}
use Rattle.ec_fmmu.specs.Alone.{run_mapped}
use Rattle.ec_fmmu.specs.Ranges.{range_read_updates}
use Rattle.ec_fmmu.proofs.AloneLaws.{alone_told}
use Rattle.ec_fmmu.proofs.RangeLaws.{range_idle}
use Rattle.ec_fmmu.proofs.reading.read_fmmu.Goals as goal

pub returns-in-Closed-clause-any : goal.returns-in-Closed-clause-any
returns-in-Closed-clause-any g c =
    let fs = c.args.fmmus.now in
    let k = c.args.index in
    let visible = g.M.ReadableBits.visible c.args.memory.now in
    let from = c.args.from in
    let xs = c.args.bytes.now in
    let f = get_or fs k no_fmmu in
    let update = range_read_updates f fs visible from in
    let none : (i : ℕ) → update i ≡ None = λ i. if_false _ _ _ (range_idle f (from + i) c.in-Closed.ensures.mode) in
    sym (any_below_none (8 * length xs) (λ i. is_some (update i)) (λ i l. ap is_some (none i)))

pub returns-in-Closed-clause-bits : goal.returns-in-Closed-clause-bits
returns-in-Closed-clause-bits g c =
    let fs = c.args.fmmus.now in
    let k = c.args.index in
    let visible = g.M.ReadableBits.visible c.args.memory.now in
    let from = c.args.from in
    let xs = c.args.bytes.now in
    let f = get_or fs k no_fmmu in
    let update = range_read_updates f fs visible from in
    let none : (i : ℕ) → update i ≡ None = λ i. if_false _ _ _ (range_idle f (from + i) c.in-Closed.ensures.mode) in
    sym (overlay_own xs update (λ i l. ap (λ (o : Option Bool). unwrap_or o (bit xs i)) (none i)))

pub returns-in-Alone-clause-any : goal.returns-in-Alone-clause-any
returns-in-Alone-clause-any g c =
    let fs = c.args.fmmus.now in
    let k = c.args.index in
    let visible = g.M.ReadableBits.visible c.args.memory.now in
    let from = c.args.from in
    let xs = c.args.bytes.now in
    let f = get_or fs k no_fmmu in
    let update = range_read_updates f fs visible from in
    let w = c.in-Alone.ensures.mode in
    let logical = c.in-Alone.run'.logical in
    let physical = c.in-Alone.run'.physical in
    let n = c.in-Alone.run'.count in
    let by = λ (i : ℕ). option_and_then visible (run_mapped logical physical n (from + i)) in
    let same : (i : ℕ) → by i ≡ update i = λ i. sym (alone_told fs k visible from i logical physical n c.in-Alone.ensures.there w.goes w.alone w.pairs) in
    c.read_alone.ensures.any ∙ any_below-alike (8 * length xs) (λ i. is_some (by i)) (λ i. is_some (update i)) (λ i l. ap is_some (same i))

pub returns-in-Alone-clause-bits : goal.returns-in-Alone-clause-bits
returns-in-Alone-clause-bits g c =
    let fs = c.args.fmmus.now in
    let k = c.args.index in
    let visible = g.M.ReadableBits.visible c.args.memory.now in
    let from = c.args.from in
    let xs = c.args.bytes.now in
    let f = get_or fs k no_fmmu in
    let update = range_read_updates f fs visible from in
    let w = c.in-Alone.ensures.mode in
    let logical = c.in-Alone.run'.logical in
    let physical = c.in-Alone.run'.physical in
    let n = c.in-Alone.run'.count in
    let by = λ (i : ℕ). option_and_then visible (run_mapped logical physical n (from + i)) in
    let same : (i : ℕ) → by i ≡ update i = λ i. sym (alone_told fs k visible from i logical physical n c.in-Alone.ensures.there w.goes w.alone w.pairs) in
    c.read_alone.ensures.bits ∙ overlay_alike xs by update (λ i l. ap (λ (o : Option Bool). unwrap_or o (bit xs i)) (same i))
