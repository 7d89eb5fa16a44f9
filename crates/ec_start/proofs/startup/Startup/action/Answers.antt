use Rattle.std.proofs.Common.{◌≡◌, ◌∙◌, Some, None, sym, ap, slice_get, true, false}
use Rattle.ec_link.specs.Plan.{PlanState}
use Rattle.ec_start.specs.HeldPlans.{plan_in}
use Rattle.ec_start.specs.Feeding.{feeds_of}
use Rattle.ec_start.specs.Running.{StartState, step_of, is_fed, action_of, is_ended}
use Rattle.ec_start.proofs.Startups.{action_is, own_action, fed_action}
use Rattle.ec_start.proofs.startup.Startup.action.Goals as goal

pub returns-then-not-is_fed-clause-value : goal.returns-then-not-is_fed-clause-value
returns-then-not-is_fed-clause-value c =
    let i = c.self.inside in
    let s : StartState = record { plan = (plan_in i.held).slaves; feeds = feeds_of (plan_in i.held); next = i.next; place = i.place; fed = i.fed; polls = i.polls; seen = i.seen; heard = i.heard; phase = i.phase } in
    let runs = ap (λ (t : StartState). is_ended t.phase) c.self.view_is ∙ c.requires in
    let is : step_of s ≡ i.step.action = action_is (plan_in i.held).slaves i.place i.step (c.self.invariant.at_step runs) in
    sym (own_action s (ap is_fed is ∙ (sym c.is_fed.ensures ∙ c.if-not-is_fed.true)) ∙ is) ∙ ap action_of c.self.view_is

pub returns-in-Some-clause-value : goal.returns-in-Some-clause-value
returns-in-Some-clause-value c =
    let i = c.self.inside in
    let s : StartState = record { plan = (plan_in i.held).slaves; feeds = feeds_of (plan_in i.held); next = i.next; place = i.place; fed = i.fed; polls = i.polls; seen = i.seen; heard = i.heard; phase = i.phase } in
    let runs = ap (λ (t : StartState). is_ended t.phase) c.self.view_is ∙ c.requires in
    let is : step_of s ≡ i.step.action = action_is (plan_in i.held).slaves i.place i.step (c.self.invariant.at_step runs) in
    let next : slice_get s.feeds s.fed ≡ Some c.in-Some.feed = sym (c.in-Some.ensures.value ∙ ap (λ (p : PlanState). slice_get (feeds_of p) i.fed) c.plan.ensures) in
    sym (fed_action s (Some c.in-Some.feed) (ap is_fed is ∙ (sym c.is_fed.ensures ∙ c.if-not-is_fed.false)) next) ∙ ap action_of c.self.view_is

pub returns-in-None-clause-value : goal.returns-in-None-clause-value
returns-in-None-clause-value c =
    let i = c.self.inside in
    let s : StartState = record { plan = (plan_in i.held).slaves; feeds = feeds_of (plan_in i.held); next = i.next; place = i.place; fed = i.fed; polls = i.polls; seen = i.seen; heard = i.heard; phase = i.phase } in
    let runs = ap (λ (t : StartState). is_ended t.phase) c.self.view_is ∙ c.requires in
    let is : step_of s ≡ i.step.action = action_is (plan_in i.held).slaves i.place i.step (c.self.invariant.at_step runs) in
    let next : slice_get s.feeds s.fed ≡ None = sym (c.in-None.ensures.value ∙ ap (λ (p : PlanState). slice_get (feeds_of p) i.fed) c.plan.ensures) in
    sym (fed_action s None (ap is_fed is ∙ (sym c.is_fed.ensures ∙ c.if-not-is_fed.false)) next ∙ is) ∙ ap action_of c.self.view_is

pub returns-then-not-is_fed-clause-doable : goal.returns-then-not-is_fed-clause-doable
returns-then-not-is_fed-clause-doable c = (c.self.invariant.at_step (ap (λ (t : StartState). is_ended t.phase) c.self.view_is ∙ c.requires)).doable

pub returns-in-Some-clause-doable : goal.returns-in-Some-clause-doable
returns-in-Some-clause-doable c = c.in-Some.ensures.few

pub returns-in-None-clause-doable : goal.returns-in-None-clause-doable
returns-in-None-clause-doable c = (c.self.invariant.at_step (ap (λ (t : StartState). is_ended t.phase) c.self.view_is ∙ c.requires)).doable
