use Rattle.std.proofs.Common.{ℕ, ◌<◌, ◌≡◌, ◌∙◌, ◌&&◌, not, Bool, true, false, Option, None, Some, List, length, slice_set, nat_lt, if◌then◌else◌, refl, ap, arith}
use Rattle.std.proofs.lemmas.List.{set-get_or}
use Rattle.std.specs.Option.{option_copied}
use Rattle.ec_device.specs.declared.hardware.Hardware.{Hardware}
use Rattle.ec_device.specs.Types.{SlaveKind}
use Rattle.ec_device.specs.Objects.{bits_assigned}
use Rattle.ec_sync.specs.SyncManager.{SyncManager, awaiting, no_manager}
use Rattle.ec_al.specs.declared.state.State.{State}
use Rattle.ec_coe.specs.Objects.{assigned}
use Rattle.ec_slave.specs.State.{SlaveState, manager_at}
use Rattle.ec_slave.specs.Application.{with_manager}
use Rattle.ec_slave.specs.Serving.{awaited_by, awaited_if, has_outputs, is_safeop, outputs_awaited}
use Rattle.ec_slave.proofs.AppAccess.Bytes.{indexed}
use Rattle.ec_slave.proofs.slave.Slave.await_outputs.Goals as goal

-- manager 2 is set to what it awaits, and otherwise left
outputs-set : (o : Option Hardware) (outputs : Bool) (old new : State) (ms : List SyncManager)
    → slice_set ms 2 (awaited_if (awaited_by o outputs old new) (manager_at ms 2)) ≡ outputs_awaited o outputs old new ms
outputs-set None outputs old new ms = set-get_or ms 2 no_manager
outputs-set (Some h) outputs old new ms = by (is_safeop new && not (is_safeop old))
  where
    by : (b : Bool) → slice_set ms 2 (awaited_if (if b then Some (h.has_firmware && outputs) else None) (manager_at ms 2)) ≡ (if b then slice_set ms 2 (awaiting (manager_at ms 2) (h.has_firmware && outputs)) else ms)
    by true = refl
    by false = set-get_or ms 2 no_manager

pub returns : goal.returns
returns c =
    let s : SlaveState = c.args.self.now in
    let o : Option Hardware = s.kind.hardware in
    let old : State = c.args.old in
    let four : 2 < length c.self.inside.managers.items = omega (arith, c.self.invariant.four) in
    let here : c.index_mut.result.now ≡ manager_at s.managers 2 = indexed _ s.managers 2 _ four c.index_mut.ensures.value (ap (λ (x : SlaveState). x.managers) c.self.view_is) in
    let kind : c.kind.result.now ≡ s.kind = c.kind.ensures ∙ ap (λ (x : SlaveState). x.kind) c.self.view_is in
    let hardware : option_copied c.hardware-hardware.result ≡ o = c.hardware-hardware.ensures.value ∙ ap (λ (k : SlaveKind). k.hardware) kind in
    let bits : c.output_bits-has_outputs.result ≡ bits_assigned s.kind.outputs (assigned s.outs)
    = c.output_bits-has_outputs.ensures.value ∙ ap (λ (x : SlaveState). bits_assigned x.kind.outputs (assigned x.outs)) c.self.view_is in
    let new : c.state.result ≡ s.al.state = c.state.ensures ∙ ap (λ (x : SlaveState). x.al.state) c.self.view_is in
    let told : c.awaited_by-is_awaited.result ≡ awaited_by o (has_outputs s) old s.al.state
    = c.awaited_by-is_awaited.ensures
    ∙ (ap (λ (x : Option Hardware). awaited_by x (nat_lt 0 c.output_bits-has_outputs.result) old c.state.result) hardware
    ∙ (ap (λ (n : ℕ). awaited_by o (nat_lt 0 n) old c.state.result) bits
    ∙ ap (awaited_by o (has_outputs s) old) new)) in
    ap (λ (x : SlaveState). with_manager x 2 c.await_if.new.manager) c.self.view_is
    ∙ ap (λ (ms : List SyncManager). record s { managers = ms }) (ap (slice_set s.managers 2)
    (c.await_if.ensures ∙ (ap (awaited_if c.awaited_by-is_awaited.result) here ∙ ap (λ (b : Option Bool). awaited_if b (manager_at s.managers 2)) told))
    ∙ outputs-set o (has_outputs s) old s.al.state s.managers)
