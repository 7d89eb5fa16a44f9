use Rattle.std.proofs.Common.{◌∙◌, sym, ap, subst, rules}
use Rattle.ec_frame.specs.Building.{bare_payload}
use Rattle.ec_frame.specs.Frame.{IsFrame}
use Rattle.ec_start.specs.declared.action.Action.{Action}
use Rattle.ec_start.specs.Actions.{frame_of}
use Rattle.ec_start.specs.Running.{StartState, action_of, is_ended}
use Rattle.ec_start.proofs.startup.Startup.next.Goals as goal

pub action-requires : goal.action-requires
action-requires c = ap (λ (t : StartState). is_ended t.phase) (sym c.self.view_is) ∙ ap is_ended c.in-Idle.is

pub returns-clause-written : goal.returns-clause-written
returns-clause-written c =
    let i = c.self.inside in
    λ e. subst (λ (n : _). IsFrame c.write_frame.new.frame.items (bare_payload (frame_of (action_of c.args.self.now) n))) (ap (λ (s : StartState). s.next) c.self.view_is)
    (subst (λ (a : Action). IsFrame c.write_frame.new.frame.items (bare_payload (frame_of a i.next))) c.action.ensures.value c.write_frame.ensures)

pub invariant_of-self-2 : goal.invariant_of-self-2
invariant_of-self-2 c = search rules

pub returns-clause-state : goal.returns-clause-state
returns-clause-state c = search rules
