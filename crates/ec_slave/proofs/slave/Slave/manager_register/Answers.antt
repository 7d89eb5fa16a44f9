use Rattle.std.proofs.Common.{ℕ, ◌-◌, ◌/◌, ◌%◌, ◌≡◌, ◌∙◌, ap, arith}
use Rattle.ec_device.specs.Hardware.{manager_place}
use Rattle.ec_device.specs.Types.{SlaveKind}
use Rattle.ec_sync.specs.SyncManager.{SyncManager}
use Rattle.ec_sync.specs.Governing.{manager_byte}
use Rattle.ec_slave.specs.State.{SlaveState, manager_at}
use Rattle.ec_slave.specs.Physical.{as_shown, numbered_byte}
use Rattle.ec_slave.proofs.AppAccess.Bytes.{indexed}
use Rattle.ec_slave.proofs.slave.Slave.manager_register.Goals as goal

pub returns : goal.returns
returns c =
    let s : SlaveState = c.args.self.now in
    let a : ℕ = c.args.address in
    let four = c.self.invariant.four in
    let few = c.manager_place.ensures.few in
    let kind : c.kind-kind.result.now ≡ s.kind = c.kind-kind.ensures ∙ ap (λ (x : SlaveState). x.kind) c.self.view_is in
    let own = indexed c.self.inside.managers.items s.managers c.manager_place.result c.index.result.now (omega (arith, four, few)) c.index.ensures (ap (λ (x : SlaveState). x.managers) c.self.view_is) in
    c.register_of.ensures
    ∙ (ap (λ (m : SyncManager). manager_byte (as_shown c.kind-kind.result.now.hardware m) (a % 8)) own
    ∙ (ap (λ (n : ℕ). manager_byte (as_shown c.kind-kind.result.now.hardware (manager_at s.managers n)) (a % 8)) c.manager_place.ensures.value
    ∙ ap (λ (k : SlaveKind). numbered_byte k.hardware s.managers ((a - 2048) / 8) (a % 8)) kind))
