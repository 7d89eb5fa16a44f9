use Rattle.std.proofs.Common.{ℕ, ◌≡◌, ◌∙◌, Option, ap, arith}
use Rattle.std.specs.Option.{option_copied}
use Rattle.ec_device.specs.declared.hardware.Hardware.{Hardware}
use Rattle.ec_device.specs.Types.{SlaveKind}
use Rattle.ec_sync.specs.SyncManager.{SyncManager}
use Rattle.ec_al.specs.declared.state.State.{State}
use Rattle.ec_slave.specs.State.{SlaveState, manager_at}
use Rattle.ec_slave.specs.Checking.{control_word}
use Rattle.ec_slave.specs.Serving.{awaits_by}
use Rattle.ec_slave.proofs.AppAccess.Bytes.{indexed}
use Rattle.ec_slave.proofs.slave.Slave.is_awaiting.Goals as goal

pub returns : goal.returns
returns c =
    let s : SlaveState = c.args.self.now in
    let o : Option Hardware = s.kind.hardware in
    let four = c.self.invariant.four in
    let kind : c.kind.result.now ≡ s.kind = c.kind.ensures ∙ ap (λ (x : SlaveState). x.kind) c.self.view_is in
    let here : c.index.result.now ≡ manager_at s.managers 2
    = indexed c.self.inside.managers.items s.managers 2 c.index.result.now (omega (arith, four)) c.index.ensures (ap (λ (x : SlaveState). x.managers) c.self.view_is) in
    let hardware : option_copied c.hardware-hardware.result ≡ o = c.hardware-hardware.ensures.value ∙ ap (λ (k : SlaveKind). k.hardware) kind in
    let state : c.state.result ≡ s.al.state = c.state.ensures ∙ ap (λ (x : SlaveState). x.al.state) c.self.view_is in
    let awaited : c.is_awaited-is_awaited.result ≡ (manager_at s.managers 2).awaited = c.is_awaited-is_awaited.ensures ∙ ap (λ (m : SyncManager). m.awaited) here in
    c.awaits_outputs.ensures
    ∙ (ap (λ (x : Option Hardware). awaits_by x c.state.result c.args.control c.is_awaited-is_awaited.result) hardware
    ∙ (ap (λ (x : State). awaits_by o x c.args.control c.is_awaited-is_awaited.result) state
    ∙ (ap (λ (n : ℕ). awaits_by o s.al.state n c.is_awaited-is_awaited.result) c.requires
    ∙ ap (awaits_by o s.al.state (control_word s)) awaited)))
