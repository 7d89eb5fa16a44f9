use Rattle.std.proofs.Common.{◌+◌, ◌*◌, ◌&&◌, ◌∙◌, Bool, nat_lt, sym, ap}
use Rattle.std.specs.Int.{from_bool}
use Rattle.ec_bits.proofs.AnyLaws.{if_true, if_false}
use Rattle.ec_slave.specs.Roles.{is_reading}
use Rattle.ec_slave.specs.Mapped.{weight}
use Rattle.ec_slave.proofs.logical.exchange.exchange_memory.Goals as goal
use Rattle.ec_slave.proofs.logical.exchange.exchange_memory.Goals.{then-writes, else-writes, then-reads, else-reads}

pub returns-clause-memory : goal.returns-clause-memory
returns-clause-memory c = elim c.if-writes.branch [
  | then-writes w ↦ w.memory-is ∙ (w.put_outputs.ensures ∙ sym (if_true _ _ _ (sym c.writes-writes.ensures ∙ w.if-writes.true)))
  | else-writes w ↦ w.memory-is ∙ sym (if_false _ _ _ (sym c.writes-writes.ensures ∙ w.if-writes.false))
]

pub returns-clause-bytes : goal.returns-clause-bytes
returns-clause-bytes c = elim c.if-reads.branch [
  | then-reads w ↦ w.bytes-is ∙ (w.get_inputs.ensures ∙ sym (if_true _ _ _ (sym c.reads-reads.ensures ∙ w.if-reads.true)))
  | else-reads w ↦ w.bytes-is ∙ sym (if_false _ _ _ (sym c.reads-reads.ensures ∙ w.if-reads.false))
]

pub returns-clause-added : goal.returns-clause-added
returns-clause-added c =
    let outs = c.args.mapped.now.outs in
    let ins = c.args.mapped.now.ins in
    c.count.ensures
    ∙ (ap (λ (b : Bool). from_bool (b && nat_lt 0 ins) + weight c.args.role * from_bool (c.writes-writes.result && nat_lt 0 outs)) c.reads-reads.ensures
    ∙ ap (λ (b : Bool). from_bool (is_reading c.args.role && nat_lt 0 ins) + weight c.args.role * from_bool (b && nat_lt 0 outs)) c.writes-writes.ensures)
