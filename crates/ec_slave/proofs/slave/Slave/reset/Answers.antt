use Rattle.std.proofs.Common.{◌≡◌, ◌∙◌, ap, length, arith, List, replicate, rules}
use Rattle.ec_device.specs.Types.{SlaveKind}
use Rattle.ec_dl.specs.DataLink.{new_data_link}
use Rattle.ec_sii.specs.Port.{idle_port}
use Rattle.ec_sync.specs.SyncManager.{SyncManager}
use Rattle.ec_slave.specs.State.{SlaveState, power_on}
use Rattle.ec_slave.proofs.Always.PowerOn.{reset-as-new}
use Rattle.ec_slave.proofs.LogicalAccess.ExchangedFrom.{take_front}
use Rattle.ec_slave.proofs.slave.Slave.reset.Goals as goal

pub returns : goal.returns
unfolding Rattle.ec_slave.specs.State.memory_length
returns c =
    let ok = c.self.inside.memory.ok in
    let managers_ok = c.self.inside.managers.ok in
    let room = c.self.invariant.room in
    let four = c.self.invariant.four in
    let managers : List SyncManager = c.reset_managers.new.managers in
    let whole : c.self.inside.memory.len ≡ 12288 = omega (arith, ok, room) in
    reset-as-new c.self.inside.dictionary c.reset-3.new.self _ _ _ _ _
    c.reset-3.ensures
    (c.fill.ensures.items (λ y e. e) ∙ ap (λ n. replicate n 0) whole)
    (take_front managers _ c.self.inside.managers.len (omega (arith, managers_ok, four, ap length c.reset_managers.ensures)) ∙ c.reset_managers.ensures)
    c.reset.ensures
    (c.reset-2.ensures ∙ ap idle_port c.self.invariant.image)
    (c.new-self-inside.ensures ∙ ap new_data_link (c.face.ensures.value ∙ ap (λ (k : SlaveKind). k.face) c.kind-2.ensures))
    ∙ ap (λ (s : SlaveState). power_on s.kind s.identity) c.self.view_is

pub invariant_of-self : goal.invariant_of-self
invariant_of-self c = search rules
