use Rattle.std.proofs.Common.{[], ◌≡◌, ◌*◌, ◌++◌, length, take, drop, arith, List, ℕ, ap, ◌∙◌, sym, true}
use Rattle.ec_bits.specs.Bits.{overlay}
use Rattle.ec_regs.specs.declared.fmmu.FmmuSettings.{FmmuSettings}
use Rattle.ec_sync.specs.SyncManager.{SyncManager}
use Rattle.ec_fmmu.specs.Applied.{LogicalSpan}
use Rattle.ec_slave.specs.State.{SlaveState, fmmus, fmmus_of, with_memory}
use Rattle.ec_slave.specs.Logical.{logical_managers, plain_bit}
use Rattle.ec_slave.proofs.LogicalAccess.ExchangedFrom.{take_front}
use Rattle.ec_slave.proofs.LogicalAccess.SlaveWritten.{slave_written, decoded-mapped, some_found}
use Rattle.ec_slave.proofs.slave.Slave.write_bits.Goals as goal

pub invariant_of-self : goal.invariant_of-self
invariant_of-self c =
    let old : List ℕ = c.deref_mut.result.now in
    let new : List ℕ = c.write_logical-in_memory.new.memory in
    let p : LogicalSpan = record { from = c.args.from; bits = 8 * length c.args.bytes.now } in
    let own = c.deref_mut.ensures.value in
    let ok = c.self.inside.memory.ok in
    let long = c.write_logical-in_memory.auto.memory in
    let front : take c.self.inside.memory.len (new ++ drop (length new) c.self.inside.memory.items) ≡ new
    = take_front new _ c.self.inside.memory.len (omega (arith, ap length own, ok, long)) in
    record {
      room = ap length front ∙ (long ∙ (ap length own ∙ c.self.invariant.room));
      four = ap length (take_front c.access_managers-in_manager.new.managers _ c.self.inside.managers.len (let own_2 = c.deref_mut-2.ensures.value in let ok_2 = c.self.inside.managers.ok in let long_2 = c.access_managers-in_manager.auto.managers in omega (arith, ap length own_2, ok_2, long_2)))
          ∙ (c.access_managers-in_manager.auto.managers ∙ (ap length c.deref_mut-2.ensures.value ∙ c.self.invariant.four));
      decoded = c.self.invariant.decoded ∙ (ap (fmmus_of c.self.inside.dictionary.kind.hardware) (sym own)
          ∙ (decoded-mapped c.self.inside.dictionary.kind.hardware c.deref.result.now c.self.inside.fmmus p c.args.bytes.now old
          ∙ ap (fmmus_of c.self.inside.dictionary.kind.hardware) (sym (front ∙ c.write_logical-in_memory.ensures.memory))));
      image = c.self.invariant.image;
    }

pub returns-clause-slave : goal.returns-clause-slave
returns-clause-slave c =
    let s : SlaveState = c.args.self.now in
    let p : LogicalSpan = record { from = c.args.from; bits = 8 * length c.args.bytes.now } in
    let fs : List FmmuSettings = c.self.inside.fmmus in
    let memory = ap (λ (x : SlaveState). x.memory) c.self.view_is in
    let managers = ap (λ (x : SlaveState). x.managers) c.self.view_is in
    let new : List ℕ = c.write_logical-in_memory.new.memory in
    let own = c.deref_mut.ensures.value in
    let ok = c.self.inside.memory.ok in
    let long = c.write_logical-in_memory.auto.memory in
    let front : take c.self.inside.memory.len (new ++ drop (length new) c.self.inside.memory.items) ≡ new
    = take_front new _ c.self.inside.memory.len (omega (arith, ap length own, ok, long)) in
    let met : List SyncManager = c.access_managers-in_manager.new.managers in
    let own_2 = c.deref_mut-2.ensures.value in
    let ok_2 = c.self.inside.managers.ok in
    let long_2 = c.access_managers-in_manager.auto.managers in
    let front_2 : take c.self.inside.managers.len (met ++ drop (length met) c.self.inside.managers.items) ≡ met
    = take_front met _ c.self.inside.managers.len (omega (arith, ap length own_2, ok_2, long_2)) in
    ap (λ (x : SlaveState). with_memory x (take c.self.inside.memory.len (new ++ drop (length new) c.self.inside.memory.items))
    (take c.self.inside.managers.len (met ++ drop (length met) c.self.inside.managers.items))) c.self.view_is
    ∙ slave_written s c.args.reading _ _ fs p c.args.bytes.now
    (front ∙ (c.write_logical-in_memory.ensures.memory
    ∙ (ap (λ (xs : List ℕ). overlay xs (plain_bit c.deref.result.now fs p c.args.bytes.now)) (own ∙ memory)
    ∙ ap (λ (ms : List SyncManager). overlay s.memory (plain_bit ms fs p c.args.bytes.now)) (c.deref.ensures.value ∙ managers))))
    (c.self.invariant.decoded ∙ ap fmmus c.self.view_is)
    (front_2 ∙ (c.access_managers-in_manager.ensures.after ∙ ap (λ (ms : List SyncManager). logical_managers [] c.args.reading true fs p c.args.bytes.now ms) (own_2 ∙ managers)))

pub returns-clause-some : goal.returns-clause-some
returns-clause-some c =
    let s : SlaveState = c.args.self.now in
    let p : LogicalSpan = record { from = c.args.from; bits = 8 * length c.args.bytes.now } in
    let fs : List FmmuSettings = c.self.inside.fmmus in
    let b : List ℕ = c.args.bytes.now in
    let memory = ap (λ (x : SlaveState). x.memory) c.self.view_is in
    let managers = ap (λ (x : SlaveState). x.managers) c.self.view_is in
    let own_2 = c.deref_mut-2.ensures.value in
    some_found s.managers c.deref.result.now c.deref_mut-2.result.now fs _ p b _ _ c.write_logical-in_memory.ensures.any (c.deref.ensures.value ∙ managers)
    c.access_managers-in_manager.ensures.any (own_2 ∙ managers) (c.self.invariant.decoded ∙ ap fmmus c.self.view_is)
