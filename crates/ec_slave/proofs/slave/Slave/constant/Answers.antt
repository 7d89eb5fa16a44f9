use Rattle.std.proofs.Common.{ℕ, ◌≡◌, ◌≢◌, ◌∙◌, true, ap, sym, arith, rules}
use Rattle.ec_bits.specs.Bits.{within}
use Rattle.ec_bits.proofs.AnyLaws.{within_parts}
use Rattle.ec_device.specs.Hardware.{fmmu_count}
use Rattle.ec_device.specs.Types.{SlaveKind}
use Rattle.ec_slave.specs.State.{SlaveState}
use Rattle.ec_slave.specs.Physical.{register_byte}
use Rattle.ec_slave.proofs.slave.Slave.constant.Goals as goal

pub returns-in-4 : goal.returns-in-4
unfolding register_byte
returns-in-4 c = rw c.in-4.is (c.fmmu_count.ensures.value ∙ ap (λ (k : SlaveKind). fmmu_count k.hardware) (c.kind.ensures ∙ ap (λ (x : SlaveState). x.kind) c.self.view_is))

-- the one of three that is left
left : (s : SlaveState) (a : ℕ) → within 4 3 a ≡ true → a ≢ 4 → a ≢ 6 → 4 ≡ register_byte s a
unfolding register_byte
left s a h x y =
    let p = within_parts 4 3 a h in
    let low = p.0 in
    let high = p.1 in
    let e : a ≡ 5 = omega (arith, low, high, x, y) in
    sym (ap (register_byte s) e)

pub returns-in_default : goal.returns-in_default
returns-in_default c = left c.args.self.now c.args.address c.requires (search rules) (search rules)
