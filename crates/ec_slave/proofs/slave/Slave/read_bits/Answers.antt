use Rattle.std.proofs.Common.{[], ◌≡◌, ◌*◌, ◌++◌, length, take, drop, arith, List, ℕ, ap, ◌∙◌, true, false}
use Rattle.ec_bits.proofs.BitLaws.{length-overlay}
use Rattle.ec_regs.specs.declared.fmmu.FmmuSettings.{FmmuSettings}
use Rattle.ec_sync.specs.SyncManager.{SyncManager}
use Rattle.ec_fmmu.specs.Applied.{LogicalSpan}
use Rattle.ec_slave.specs.State.{SlaveState, fmmus, with_memory}
use Rattle.ec_slave.specs.Logical.{logical_managers}
use Rattle.ec_slave.proofs.LogicalAccess.ExchangedFrom.{take_front}
use Rattle.ec_slave.proofs.LogicalAccess.SlaveWritten.{slave_read}
use Rattle.ec_slave.proofs.slave.Slave.read_bits.Goals as goal

pub returns-clause-slave : goal.returns-clause-slave
returns-clause-slave c =
    let s : SlaveState = c.args.self.now in
    let new : List SyncManager = c.access_managers.new.managers in
    let fs : List FmmuSettings = c.self.inside.fmmus in
    let ok = c.self.inside.managers.ok in
    let own = c.deref_mut.ensures.value in
    let long = c.access_managers.auto.managers in
    let memory = ap (λ (x : SlaveState). x.memory) c.self.view_is in
    let managers = ap (λ (x : SlaveState). x.managers) c.self.view_is in
    let front : take c.self.inside.managers.len (new ++ drop (length new) c.self.inside.managers.items) ≡ new
    = take_front new _ c.self.inside.managers.len (omega (arith, ap length own, ok, long)) in
    let same : length c.read_logical-is_read.new.bytes ≡ length c.args.bytes.now = ap length c.read_logical-is_read.ensures.bits ∙ length-overlay c.args.bytes.now _ in
    let p : LogicalSpan = record { from = c.args.from; bits = 8 * length c.args.bytes.now } in
    let q : LogicalSpan = record { from = c.args.from; bits = 8 * length c.read_logical-is_read.new.bytes } in
    let place : q ≡ p = ap (λ (n : ℕ). record { from = c.args.from; bits = 8 * n }) same in
    ap (λ (x : SlaveState). with_memory x c.self.inside.memory.items (take c.self.inside.managers.len (new ++ drop (length new) c.self.inside.managers.items))) c.self.view_is
    ∙ slave_read s _ _ fs p q c.args.bytes.now c.read_logical-is_read.new.bytes memory (c.self.invariant.decoded ∙ ap fmmus c.self.view_is) place
    (front ∙ (c.access_managers.ensures.after ∙ ap (λ (ms : List SyncManager). logical_managers [] true false fs q c.read_logical-is_read.new.bytes ms) (own ∙ managers)))

pub invariant_of-self : goal.invariant_of-self
invariant_of-self c =
    let met : List SyncManager = c.access_managers.new.managers in
    let own = c.deref_mut.ensures.value in
    let ok = c.self.inside.managers.ok in
    let long = c.access_managers.auto.managers in
    record {
      room = c.self.invariant.room;
      four = ap length (take_front met _ c.self.inside.managers.len (omega (arith, ap length own, ok, long))) ∙ (long ∙ (ap length own ∙ c.self.invariant.four));
      decoded = c.self.invariant.decoded;
      image = c.self.invariant.image;
    }
