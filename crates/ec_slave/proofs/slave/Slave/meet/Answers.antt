use Rattle.std.proofs.Common.{◌≡◌, ◌∙◌, ◌*◌, ap, sym, subst, length, ℕ, arith}
use Rattle.ec_slave.specs.State.{Met, SlaveState}
use Rattle.ec_slave.specs.LogicalLaws.{Misses}
use Rattle.ec_slave.specs.Meeting.{meets}
use Rattle.ec_slave.specs.Carried.{carrying}
use Rattle.ec_slave.proofs.Commands.Columns.{missed}
use Rattle.ec_slave.proofs.slave.Slave.meet.Goals as goal

pub returns-then-misses : goal.returns-then-misses
returns-then-misses c =
    let s : SlaveState = c.args.self.now in
    let d = carrying c.args.command c.args.carried c.args.bytes.now in
    let from : c.from-logical.result ≡ c.args.carried.address = c.from-logical.ensures in
    let h : Misses s (record { from = 8 * c.args.carried.address; bits = 8 * length c.args.bytes.now })
    = subst (λ (n : ℕ). Misses s (record { from = 8 * n; bits = 8 * length c.args.bytes.now })) from c.if-misses.ensures in
    let e : meets s d ≡ record { slave = s; datagram = d } = missed s d (sym c.requires.kind ∙ c.if-mapped.true) h (omega arith) in
    record { slave = ap (λ (m : Met). m.slave) (sym e); datagram = ap (λ (m : Met). m.datagram) (sym e) }
