use Rattle.std.proofs.Common.{◌∙◌, sym, ap}
use Rattle.ec_start.specs.declared.action.Action.{Action}
use Rattle.ec_start.specs.HeldPlans.{plan_in}
use Rattle.ec_start.specs.Feeding.{feeds_of}
use Rattle.ec_start.specs.Running.{StartState, action_of, with_identity, is_sent}
use Rattle.ec_start.proofs.Startups.{action_is, sent_runs, shown_else, shown_fed}
use Rattle.ec_start.proofs.startup.Startup.with_identity.Goals as goal

pub returns-in-AwaitWord : goal.returns-in-AwaitWord
returns-in-AwaitWord c =
    let i = c.self.inside in
    let s : StartState = record { plan = (plan_in i.held).slaves; feeds = feeds_of (plan_in i.held); next = i.next; place = i.place; fed = i.fed; polls = i.polls; seen = i.seen; heard = i.heard; phase = i.phase } in
    let runs = sent_runs i.phase (ap (λ (t : StartState). is_sent t.phase) c.self.view_is ∙ c.requires) in
    let is = action_is (plan_in i.held).slaves i.place i.step (c.self.invariant.at_step runs) in
    c.with_word.ensures ∙ (sym (ap (λ (a : Action). with_identity s a c.args.value) (is ∙ c.in-AwaitWord.is)) ∙ (sym (shown_fed s c.args.value) ∙ ap (λ (t : StartState). with_identity t (action_of t) c.args.value) c.self.view_is))

pub returns-in_default : goal.returns-in_default
returns-in_default c =
    let i = c.self.inside in
    let s : StartState = record { plan = (plan_in i.held).slaves; feeds = feeds_of (plan_in i.held); next = i.next; place = i.place; fed = i.fed; polls = i.polls; seen = i.seen; heard = i.heard; phase = i.phase } in
    let runs = sent_runs i.phase (ap (λ (t : StartState). is_sent t.phase) c.self.view_is ∙ c.requires) in
    let is = action_is (plan_in i.held).slaves i.place i.step (c.self.invariant.at_step runs) in
    sym (shown_else s i.step.action c.args.value (λ k which e. c.in_default.not-AwaitWord k which e))
    ∙ (sym (ap (λ (a : Action). with_identity s a c.args.value) is) ∙ (sym (shown_fed s c.args.value) ∙ ap (λ (t : StartState). with_identity t (action_of t) c.args.value) c.self.view_is))
