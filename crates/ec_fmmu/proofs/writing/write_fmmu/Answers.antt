use Rattle.std.proofs.Common.{ℕ, ap, ◌+◌, ◌*◌, ◌≡◌, ◌∙◌, sym, Option, Bool, None, length, get_or, unwrap_or, is_some}
use Rattle.ec_bits.specs.Bits.{bit}
use Rattle.ec_bits.proofs.BitLaws.{overlay_own, overlay_alike}
use Rattle.ec_bits.proofs.AnyLaws.{if_false, any_below_none, any_below-alike}
use Rattle.ec_regs.specs.Fmmus.{no_fmmu}
use Rattle.ec_fmmu.specs.Alone.{brought_by, run_unmapped}
use Rattle.ec_fmmu.specs.Ranges.{range_write_updates}
use Rattle.ec_fmmu.proofs.AloneWriting.{alone_brings}
use Rattle.ec_fmmu.proofs.RangeLaws.{writes_idle}
use Rattle.ec_fmmu.proofs.writing.write_fmmu.Goals as goal

pub returns-in-Closed-clause-any : goal.returns-in-Closed-clause-any
returns-in-Closed-clause-any g c =
    let fs = c.args.fmmus.now in
    let place = c.args.index in
    let allowed = g.A.WritableBytes.allowed c.args.rights.now in
    let from = c.args.from in
    let bytes = c.args.bytes.now in
    let origin = c.args.origin in
    let xs = c.args.window.now in
    let f = get_or fs place no_fmmu in
    let update = range_write_updates f fs allowed from bytes origin in
    let none : (k : ℕ) → update k ≡ None = λ k. if_false _ _ _ (writes_idle f from (8 * length bytes) (origin + k) c.in-Closed.ensures.mode) in
    sym (any_below_none (8 * length xs) (λ k. is_some (update k)) (λ k l. ap is_some (none k)))

pub returns-in-Closed-clause-bits : goal.returns-in-Closed-clause-bits
returns-in-Closed-clause-bits g c =
    let fs = c.args.fmmus.now in
    let place = c.args.index in
    let allowed = g.A.WritableBytes.allowed c.args.rights.now in
    let from = c.args.from in
    let bytes = c.args.bytes.now in
    let origin = c.args.origin in
    let xs = c.args.window.now in
    let f = get_or fs place no_fmmu in
    let update = range_write_updates f fs allowed from bytes origin in
    let none : (k : ℕ) → update k ≡ None = λ k. if_false _ _ _ (writes_idle f from (8 * length bytes) (origin + k) c.in-Closed.ensures.mode) in
    sym (overlay_own xs update (λ k l. ap (λ (o : Option Bool). unwrap_or o (bit xs k)) (none k)))

pub returns-in-Alone-clause-any : goal.returns-in-Alone-clause-any
returns-in-Alone-clause-any g c =
    let fs = c.args.fmmus.now in
    let place = c.args.index in
    let allowed = g.A.WritableBytes.allowed c.args.rights.now in
    let from = c.args.from in
    let bytes = c.args.bytes.now in
    let origin = c.args.origin in
    let xs = c.args.window.now in
    let f = get_or fs place no_fmmu in
    let update = range_write_updates f fs allowed from bytes origin in
    let w = c.in-Alone.ensures.mode in
    let logical = c.in-Alone.run'.logical in
    let physical = c.in-Alone.run'.physical in
    let n = c.in-Alone.run'.count in
    let by = λ (k : ℕ). brought_by allowed from bytes (origin + k) (run_unmapped logical physical n (origin + k)) in
    let same : (k : ℕ) → by k ≡ update k = λ k. sym (alone_brings fs place allowed from bytes (origin + k) logical physical n c.in-Alone.ensures.there w.goes w.alone w.pairs) in
    c.write_alone.ensures.any ∙ any_below-alike (8 * length xs) (λ k. is_some (by k)) (λ k. is_some (update k)) (λ k l. ap is_some (same k))

pub returns-in-Alone-clause-bits : goal.returns-in-Alone-clause-bits
returns-in-Alone-clause-bits g c =
    let fs = c.args.fmmus.now in
    let place = c.args.index in
    let allowed = g.A.WritableBytes.allowed c.args.rights.now in
    let from = c.args.from in
    let bytes = c.args.bytes.now in
    let origin = c.args.origin in
    let xs = c.args.window.now in
    let f = get_or fs place no_fmmu in
    let update = range_write_updates f fs allowed from bytes origin in
    let w = c.in-Alone.ensures.mode in
    let logical = c.in-Alone.run'.logical in
    let physical = c.in-Alone.run'.physical in
    let n = c.in-Alone.run'.count in
    let by = λ (k : ℕ). brought_by allowed from bytes (origin + k) (run_unmapped logical physical n (origin + k)) in
    let same : (k : ℕ) → by k ≡ update k = λ k. sym (alone_brings fs place allowed from bytes (origin + k) logical physical n c.in-Alone.ensures.there w.goes w.alone w.pairs) in
    c.write_alone.ensures.bits ∙ overlay_alike xs by update (λ k l. ap (λ (o : Option Bool). unwrap_or o (bit xs k)) (same k))
