use Rattle.std.proofs.Common.{ℕ, ap, ◌+◌, ◌-◌, ◌*◌, ◌<◌, ◌≡◌, ◌∙◌, sym, arith, Option, Bool, None, length, unwrap_or, is_some, max, min}
use Rattle.ec_bits.specs.Bits.{bit, overlay, any_below}
use Rattle.ec_bits.proofs.BitLaws.{overlay_own, overlay_alike}
use Rattle.ec_bits.proofs.AnyLaws.{any_below_none, any_below-alike}
use Rattle.ec_fmmu.specs.Alone.{brought_by, run_unmapped, run_written}
use Rattle.ec_fmmu.proofs.AloneWriting.{run_brings, nothing_brought}
use Rattle.ec_fmmu.proofs.writing.write_alone.Goals as goal

pub returns-then-end-first-clause-any : goal.returns-then-end-first-clause-any
returns-then-end-first-clause-any g c =
    let allowed = g.A.WritableBytes.allowed c.args.rights.now in
    let from = c.args.from in
    let bytes = c.args.bytes.now in
    let origin = c.args.origin in
    let xs = c.args.window.now in
    let bits = 8 * length xs in
    let logical = c.args.run.logical in
    let physical = c.args.run.physical in
    let n = c.args.run.count in
    let first = c.max-first.result in
    let end = c.min-end.result in
    let a : first ≡ max (from - logical) (origin - physical) = omega arith in
    let b : end ≡ min (min (from + 8 * length bytes - logical) (origin + bits - physical)) n = omega arith in
    let to = physical + first - origin in
    let at = logical + first - from in
    let update = λ (k : ℕ). brought_by allowed from bytes (origin + k) (run_unmapped logical physical n (origin + k)) in
    let same : (k : ℕ) → k < bits → update k ≡ run_written allowed (physical + first) bytes at to (end - first) k
    = λ k l. run_brings allowed from bytes origin bits k logical physical n first end l a b in
    let none : (k : ℕ) → k < bits → update k ≡ None
    = λ k l. same k l ∙ nothing_brought allowed (physical + first) bytes at to first end k c.if-end-first.true in
    sym (any_below_none bits (λ k. is_some (update k)) (λ k l. ap is_some (none k l)))

pub returns-then-end-first-clause-bits : goal.returns-then-end-first-clause-bits
returns-then-end-first-clause-bits g c =
    let allowed = g.A.WritableBytes.allowed c.args.rights.now in
    let from = c.args.from in
    let bytes = c.args.bytes.now in
    let origin = c.args.origin in
    let xs = c.args.window.now in
    let bits = 8 * length xs in
    let logical = c.args.run.logical in
    let physical = c.args.run.physical in
    let n = c.args.run.count in
    let first = c.max-first.result in
    let end = c.min-end.result in
    let a : first ≡ max (from - logical) (origin - physical) = omega arith in
    let b : end ≡ min (min (from + 8 * length bytes - logical) (origin + bits - physical)) n = omega arith in
    let to = physical + first - origin in
    let at = logical + first - from in
    let update = λ (k : ℕ). brought_by allowed from bytes (origin + k) (run_unmapped logical physical n (origin + k)) in
    let same : (k : ℕ) → k < bits → update k ≡ run_written allowed (physical + first) bytes at to (end - first) k
    = λ k l. run_brings allowed from bytes origin bits k logical physical n first end l a b in
    let none : (k : ℕ) → k < bits → update k ≡ None
    = λ k l. same k l ∙ nothing_brought allowed (physical + first) bytes at to first end k c.if-end-first.true in
    sym (overlay_own xs update (λ k l. ap (λ (o : Option Bool). unwrap_or o (bit xs k)) (none k l)))

pub returns-clause-any : goal.returns-clause-any
returns-clause-any g c =
    let allowed = g.A.WritableBytes.allowed c.args.rights.now in
    let from = c.args.from in
    let bytes = c.args.bytes.now in
    let origin = c.args.origin in
    let xs = c.args.window.now in
    let bits = 8 * length xs in
    let logical = c.args.run.logical in
    let physical = c.args.run.physical in
    let n = c.args.run.count in
    let first = c.max-first.result in
    let end = c.min-end.result in
    let a : first ≡ max (from - logical) (origin - physical) = omega arith in
    let b : end ≡ min (min (from + 8 * length bytes - logical) (origin + bits - physical)) n = omega arith in
    let to = physical + first - origin in
    let at = logical + first - from in
    let update = λ (k : ℕ). brought_by allowed from bytes (origin + k) (run_unmapped logical physical n (origin + k)) in
    let same : (k : ℕ) → k < bits → update k ≡ run_written allowed (physical + first) bytes at to (end - first) k
    = λ k l. run_brings allowed from bytes origin bits k logical physical n first end l a b in
    let here : c.from-3.result ≡ origin = c.from-3.ensures in
    c.write_run.ensures.any
    ∙ (ap (λ (m : ℕ). any_below bits (λ k. is_some (run_written allowed (physical + first) bytes at (physical + first - m) (end - first) k))) here
    ∙ any_below-alike bits (λ k. is_some (run_written allowed (physical + first) bytes at to (end - first) k)) (λ k. is_some (update k))
    (λ k l. ap is_some (sym (same k l))))

pub returns-clause-bits : goal.returns-clause-bits
returns-clause-bits g c =
    let allowed = g.A.WritableBytes.allowed c.args.rights.now in
    let from = c.args.from in
    let bytes = c.args.bytes.now in
    let origin = c.args.origin in
    let xs = c.args.window.now in
    let bits = 8 * length xs in
    let logical = c.args.run.logical in
    let physical = c.args.run.physical in
    let n = c.args.run.count in
    let first = c.max-first.result in
    let end = c.min-end.result in
    let a : first ≡ max (from - logical) (origin - physical) = omega arith in
    let b : end ≡ min (min (from + 8 * length bytes - logical) (origin + bits - physical)) n = omega arith in
    let to = physical + first - origin in
    let at = logical + first - from in
    let update = λ (k : ℕ). brought_by allowed from bytes (origin + k) (run_unmapped logical physical n (origin + k)) in
    let same : (k : ℕ) → k < bits → update k ≡ run_written allowed (physical + first) bytes at to (end - first) k
    = λ k l. run_brings allowed from bytes origin bits k logical physical n first end l a b in
    let here : c.from-3.result ≡ origin = c.from-3.ensures in
    c.write_run.ensures.bits
    ∙ (ap (λ (m : ℕ). overlay xs (run_written allowed (physical + first) bytes at (physical + first - m) (end - first))) here
    ∙ overlay_alike xs (run_written allowed (physical + first) bytes at to (end - first)) update
    (λ k l. ap (λ (o : Option Bool). unwrap_or o (bit xs k)) (sym (same k l))))
