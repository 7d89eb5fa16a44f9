use Rattle.std.proofs.Common.{◌≡◌, ◌∙◌, List, length, ap, subst, arith}
use Rattle.ec_fmmu.specs.declared.area.MappedArea.{MappedArea}
use Rattle.ec_sync.specs.SyncManager.{SyncManager}
use Rattle.ec_slave.specs.State.{SlaveState}
use Rattle.ec_slave.specs.Usual.{LiesFree}
use Rattle.ec_slave.proofs.slave.Slave.access_unheld.Goals as goal

pub exchange_plain-requires : goal.exchange_plain-requires
exchange_plain-requires c =
    let m : MappedArea = c.args.mapped.now in
    let managers = ap (λ (x : SlaveState). x.managers) c.self.view_is in
    let same : c.deref.result.now ≡ c.args.self.now.managers = c.deref.ensures.value ∙ managers in
    record {
      small = c.requires.small;
      plain = record {
        room = subst (λ (x : SlaveState). length x.memory ≡ 0x3000) c.self.view_is c.self.invariant.room;
        four = subst (λ (ms : List SyncManager). length ms ≡ 4) managers c.self.invariant.four;
        reads = c.requires.mapped.reads;
        writes = c.requires.mapped.writes;
        ins_free = subst (λ (ms : List SyncManager). LiesFree ms m.in_start m.ins) same c.if-is_plain.ensures.ins;
        outs_free = subst (λ (ms : List SyncManager). LiesFree ms m.out_start m.outs) same c.if-is_plain.ensures.outs;
        apart = c.if-is_plain.ensures.apart;
      };
      spans = c.requires.spans;
    }

pub is_plain-requires : goal.is_plain-requires
is_plain-requires c =
    let outs = c.requires.mapped.small_outs in
    let ins = c.requires.mapped.small_ins in
    record { outs = omega (arith, outs); ins = omega (arith, ins) }

pub returns-then-is_plain-clause-slave : goal.returns-then-is_plain-clause-slave
returns-then-is_plain-clause-slave c = c.exchange_plain.ensures.slave

pub returns-then-is_plain-clause-bytes : goal.returns-then-is_plain-clause-bytes
returns-then-is_plain-clause-bytes c = c.exchange_plain.ensures.bytes

pub returns-then-is_plain-clause-added : goal.returns-then-is_plain-clause-added
returns-then-is_plain-clause-added c = c.exchange_plain.ensures.added

pub returns-clause-slave : goal.returns-clause-slave
returns-clause-slave c = c.access_any_bits.ensures.slave

pub returns-clause-bytes : goal.returns-clause-bytes
returns-clause-bytes c = c.access_any_bits.ensures.bytes

pub returns-clause-added : goal.returns-clause-added
returns-clause-added c = c.access_any_bits.ensures.added
