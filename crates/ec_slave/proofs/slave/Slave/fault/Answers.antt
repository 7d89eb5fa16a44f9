use Rattle.std.proofs.Common.{◌≡◌, ◌<◌, ◌∙◌, true, length, slice_set, ap, sym, arith, rules}
use Rattle.ec_al.specs.Al.{Al, is_operational}
use Rattle.ec_al.specs.Al as al
use Rattle.ec_al.specs.declared.state.State.TheVariants.{Op}
use Rattle.ec_slave.specs.State.{SlaveState, manager_at}
use Rattle.ec_slave.specs.Serving.{has_outputs, outputs_awaited}
use Rattle.ec_slave.specs.Faulting.{locked_empty}
use Rattle.ec_slave.proofs.AppAccess.Bytes.{indexed}
use Rattle.ec_slave.proofs.FirmwareRuns.StepParts.{faulted-by}
use Rattle.ec_slave.proofs.slave.Slave.fault.Goals as goal

pub returns-clause-after : goal.returns-clause-after
returns-clause-after c =
    let s : SlaveState = c.args.self.now in
    let four : 2 < length c.self.inside.managers.items = omega (arith, c.self.invariant.four) in
    let managers = ap (λ (x : SlaveState). x.managers) c.self.view_is in
    let here : c.index_mut.result.now ≡ manager_at s.managers 2 = indexed _ s.managers 2 _ four c.index_mut.ensures.value managers in
    let own = ap (λ (x : SlaveState). x.al) c.self.view_is in
    let running : is_operational s.al.state ≡ true = sym (ap (λ (x : Al). is_operational x.state) own) ∙ ap is_operational (c.fault.ensures.taken.0 c.if-not-fault.false) in
    c.await_outputs.ensures
    ∙ (ap (λ (x : SlaveState). record x { al = c.fault.new.self; managers = outputs_awaited x.kind.hardware (has_outputs x) Op c.fault.new.self.state (slice_set x.managers 2 c.lock.new.manager) }) c.self.view_is
    ∙ faulted-by s c.fault.new.self c.lock.new.manager running (c.fault.ensures.state ∙ ap al.faulted own) (c.lock.ensures ∙ ap locked_empty here))

pub returns-then-not-fault-clause-taken : goal.returns-then-not-fault-clause-taken
returns-then-not-fault-clause-taken c = search rules
