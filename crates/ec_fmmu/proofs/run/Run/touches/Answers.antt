use Rattle.std.proofs.Common.{ℕ, ◌+◌, ◌-◌, ◌*◌, sym, arith, max}
use Rattle.ec_fmmu.proofs.ModeLaws.{run_touched, run_untouched}
use Rattle.ec_fmmu.proofs.run.Run.touches.Goals as goal

pub returns-then-end-first : goal.returns-then-end-first
returns-then-end-first c = sym (run_untouched c.args.self.now c.args.from c.args.bits c.args.address (λ l a b d e at. omega arith))

pub returns-then-byte-low : goal.returns-then-byte-low
returns-then-byte-low c = sym (run_untouched c.args.self.now c.args.from c.args.bits c.args.address (λ l a b d e at. omega arith))

pub returns-then-high-byte : goal.returns-then-high-byte
returns-then-high-byte c = sym (run_untouched c.args.self.now c.args.from c.args.bits c.args.address (λ l a b d e at. omega arith))

pub returns : goal.returns
returns c =
    let r = c.args.self.now in
    let q : ℕ = max (r.physical + (c.max-first.result - r.logical)) (8 * c.args.address) in
    sym (run_touched r c.args.from c.args.bits c.args.address (r.logical + (q - r.physical)) (omega arith) (omega arith) (omega arith) (omega arith) (omega arith))
