use Rattle.std.proofs.Common.{ℕ, ◌≡◌, ◌+◌, ◌*◌, ◌∙◌, ◌&&◌, ◌++◌, List, length, take, drop, set, nat_lt, if◌then◌else◌, sym, ap, subst, arith}
use Rattle.std.specs.Int.{from_bool}
use Rattle.ec_bits.specs.Bits.{bytes_of_bits}
use Rattle.ec_fmmu.specs.Applied.{LogicalSpan}
use Rattle.ec_fmmu.specs.Areas.{Area, area}
use Rattle.ec_sync.specs.SyncManager.{SyncManager, may_read, may_write}
use Rattle.ec_slave.specs.State.{SlaveState, MetBytes, manager_at, with_memory}
use Rattle.ec_slave.specs.Roles.{is_reading, is_writing}
use Rattle.ec_slave.specs.Mapped.{at_bits, weight}
use Rattle.ec_slave.specs.Exchange.{IsBufferAt, inputs_into, outputs_from, takes, with_published}
use Rattle.ec_slave.proofs.LogicalAccess.ExchangeLaw.{exchange_placed}
use Rattle.ec_slave.proofs.LogicalAccess.ExchangedFrom.{take_front}
use Rattle.ec_slave.proofs.LogicalAccess.SlaveExchanged.{slave_exchanged}
use Rattle.ec_slave.proofs.slave.Slave.exchange_area.Goals as goal

pub returns-clause-slave : goal.returns-clause-slave
returns-clause-slave c =
    let s : SlaveState = c.args.self.now in
    let a : Area = area c.args.mapped.now in
    let bytes : List ℕ = c.args.bytes.now in
    let p : LogicalSpan = at_bits c.args.from bytes in
    let role = c.args.role in
    let out : List ℕ = outputs_from a p bytes in
    let met : List SyncManager = c.exchange_values.new.managers in
    let own = c.deref_mut.ensures.value in
    let ok = c.self.inside.managers.ok in
    let long = c.exchange_values.auto.managers in
    let all : List SyncManager = take c.self.inside.managers.len (met ++ drop (length met) c.self.inside.managers.items) in
    let front : all ≡ met = take_front met _ c.self.inside.managers.len (omega (arith, ap length own, ok, long)) in
    let managers = own ∙ ap (λ (x : SlaveState). x.managers) c.self.view_is in
    ap (λ (x : SlaveState). with_memory x x.memory all) c.self.view_is
    ∙ (ap (with_memory s s.memory) (front ∙ (c.exchange_values.ensures.managers
    ∙ ap (λ (ms : List SyncManager). if is_writing role && (nat_lt 0 a.outs && may_write (manager_at ms 2)) then set ms 2 (with_published (manager_at ms 2) out) else ms) managers))
    ∙ (slave_exchanged s (is_writing role && takes s a) (set s.managers 2 (with_published (manager_at s.managers 2) out))
    ∙ sym (ap (λ (m : MetBytes). m.slave) (exchange_placed (is_reading role) (is_writing role) (weight role) s a p bytes c.requires.mapped c.requires.spans))))

pub returns-clause-bytes : goal.returns-clause-bytes
returns-clause-bytes c =
    let s : SlaveState = c.args.self.now in
    let a : Area = area c.args.mapped.now in
    let bytes : List ℕ = c.args.bytes.now in
    let p : LogicalSpan = at_bits c.args.from bytes in
    let role = c.args.role in
    let managers = c.deref_mut.ensures.value ∙ ap (λ (x : SlaveState). x.managers) c.self.view_is in
    c.exchange_values.ensures.bytes
    ∙ (ap (λ (ms : List SyncManager). if is_reading role && (nat_lt 0 a.ins && may_read (manager_at ms 3)) then inputs_into a p (manager_at ms 3).buffer.published bytes else bytes) managers
    ∙ sym (ap (λ (m : MetBytes). m.bytes) (exchange_placed (is_reading role) (is_writing role) (weight role) s a p bytes c.requires.mapped c.requires.spans)))

pub returns-clause-added : goal.returns-clause-added
returns-clause-added c =
    let s : SlaveState = c.args.self.now in
    let a : Area = area c.args.mapped.now in
    let bytes : List ℕ = c.args.bytes.now in
    let p : LogicalSpan = at_bits c.args.from bytes in
    let role = c.args.role in
    let managers = c.deref_mut.ensures.value ∙ ap (λ (x : SlaveState). x.managers) c.self.view_is in
    c.exchange_values.ensures.added
    ∙ (ap (λ (ms : List SyncManager). from_bool (is_reading role && (nat_lt 0 a.ins && may_read (manager_at ms 3)))
    + weight role * from_bool (is_writing role && (nat_lt 0 a.outs && may_write (manager_at ms 2)))) managers
    ∙ sym (ap (λ (m : MetBytes). m.added) (exchange_placed (is_reading role) (is_writing role) (weight role) s a p bytes c.requires.mapped c.requires.spans)))

pub invariant_of-self : goal.invariant_of-self
invariant_of-self c =
    let met : List SyncManager = c.exchange_values.new.managers in
    let own = c.deref_mut.ensures.value in
    let ok = c.self.inside.managers.ok in
    let long = c.exchange_values.auto.managers in
    record {
      room = c.self.invariant.room;
      four = ap length (take_front met _ c.self.inside.managers.len (omega (arith, ap length own, ok, long))) ∙ (long ∙ (ap length own ∙ c.self.invariant.four));
      decoded = c.self.invariant.decoded;
      image = c.self.invariant.image;
    }

pub exchange_values-requires : goal.exchange_values-requires
exchange_values-requires c =
    let a : Area = area c.args.mapped.now in
    let own = c.deref_mut.ensures.value in
    let managers = own ∙ ap (λ (x : SlaveState). x.managers) c.self.view_is in
    record {
      small = c.requires.small;
      four = ap length own ∙ c.self.invariant.four;
      outs = λ h. subst (λ (ms : List SyncManager). IsBufferAt (manager_at ms 2).settings a.out_start (bytes_of_bits a.outs)) (sym managers) (c.requires.mapped.out_buffer h);
      ins = λ h. subst (λ (ms : List SyncManager). IsBufferAt (manager_at ms 3).settings a.in_start (bytes_of_bits a.ins)) (sym managers) (c.requires.mapped.in_buffer h);
      spans = c.requires.spans;
    }
