use Rattle.std.proofs.Common.{◌≡◌, ◌+◌, ◌≤◌, ◌∙◌, All, List, [], length, sym, ap, arith, subst, Bool, true, false, if◌then◌else◌}
use Rattle.ec_link.specs.Plan.{PlanState}
use Rattle.ec_link.specs.declared.settings.SlavePlan.{SlavePlan}
use Rattle.ec_start.specs.declared.phase.Phase.TheVariants.{Idle, Ready}
use Rattle.ec_start.specs.Ahead.{IsSettled, ahead}
use Rattle.ec_start.specs.HeldPlans.{plan_in}
use Rattle.ec_start.specs.Feeding.{feeds_of}
use Rattle.ec_start.specs.Planned.{HasFewAssigned}
use Rattle.ec_start.specs.Running.{StartState, is_sent, advanced}
use Rattle.ec_start.proofs.Startups.{sent_runs, advances, ends}
use Rattle.ec_start.proofs.startup.Startup.advance.Goals as goal

pub overflow_add-self : goal.overflow_add-self
overflow_add-self c =
    let was_sent = ap (λ (t : StartState). is_sent t.phase) c.self.view_is ∙ c.requires in
    let less = c.self.invariant.sent was_sent in
    let fits = c.self.invariant.fits in
    omega (arith, less, fits)

pub overflow_add-cursor : goal.overflow_add-cursor
overflow_add-cursor c =
    let was_sent = ap (λ (t : StartState). is_sent t.phase) c.self.view_is ∙ c.requires in
    let less = c.self.invariant.sent was_sent in
    let small = (c.self.invariant.at_step (sent_runs c.self.inside.phase was_sent)).small in
    let fits = c.self.invariant.fits in
    omega (arith, less, small, fits)

pub settle-requires-clause-few : goal.settle-requires-clause-few
settle-requires-clause-few c = subst (λ (ps : List SlavePlan). length ps ≤ 64) (sym c.slaves.ensures.value) c.slaves.ensures.planned.few

pub settle-requires-clause-assigned : goal.settle-requires-clause-assigned
settle-requires-clause-assigned c = subst (All HasFewAssigned) (sym (c.slaves.ensures.value ∙ ap (λ (p : PlanState). p.slaves) c.plan.ensures)) c.self.invariant.assigned

pub invariant_of-self : goal.invariant_of-self
invariant_of-self c =
    let i = c.self.inside in
    let inv = c.self.invariant in
    let was_sent = ap (λ (t : StartState). is_sent t.phase) c.self.view_is ∙ c.requires in
    let less = inv.sent was_sent in
    let same : c.slaves.result.now ≡ (plan_in i.held).slaves = c.slaves.ensures.value ∙ ap (λ (p : PlanState). p.slaves) c.plan.ensures in
    let settled = subst (λ (ps : List SlavePlan). IsSettled ps (record i.step.cursor { place = i.step.cursor.place + 1 }) c.in-Some.step) same c.in-Some.ensures in
    let g = advances (plan_in i.held).slaves i.place i.step c.in-Some.step (inv.at_step (sent_runs i.phase was_sent)) settled in
    record { assigned = inv.assigned; numbers = omega (arith, less); fed_numbers = omega arith; fits = inv.fits; sent = λ e. absurd (let f : false ≡ true = e in cc); fed_sent = λ e. absurd (let f : false ≡ true = e in cc); polls_left = omega arith; at_step = λ e. g.at_step }

pub returns-in-Some : goal.returns-in-Some
returns-in-Some c =
    let i = c.self.inside in
    let inv = c.self.invariant in
    let was_sent = ap (λ (t : StartState). is_sent t.phase) c.self.view_is ∙ c.requires in
    let same : c.slaves.result.now ≡ (plan_in i.held).slaves = c.slaves.ensures.value ∙ ap (λ (p : PlanState). p.slaves) c.plan.ensures in
    let settled = subst (λ (ps : List SlavePlan). IsSettled ps (record i.step.cursor { place = i.step.cursor.place + 1 }) c.in-Some.step) same c.in-Some.ensures in
    let g = advances (plan_in i.held).slaves i.place i.step c.in-Some.step (inv.at_step (sent_runs i.phase was_sent)) settled in
    let shown : Bool → StartState = λ b. record { plan = (plan_in i.held).slaves; feeds = feeds_of (plan_in i.held); next = i.next; place = i.place + 1; fed = 0; polls = 0; seen = c.args.seen; heard = i.heard; phase = if b then Idle else Ready } in
    ap shown (sym g.more) ∙ ap (λ (t : StartState). advanced t c.args.seen) c.self.view_is

pub returns-in-None : goal.returns-in-None
returns-in-None c =
    let i = c.self.inside in
    let inv = c.self.invariant in
    let was_sent = ap (λ (t : StartState). is_sent t.phase) c.self.view_is ∙ c.requires in
    let same : c.slaves.result.now ≡ (plan_in i.held).slaves = c.slaves.ensures.value ∙ ap (λ (p : PlanState). p.slaves) c.plan.ensures in
    let none = subst (λ (ps : List SlavePlan). ahead ps (record i.step.cursor { place = i.step.cursor.place + 1 }) ≡ []) same c.in-None.ensures in
    let e = ends (plan_in i.held).slaves i.place i.step (inv.at_step (sent_runs i.phase was_sent)) none in
    let shown : Bool → StartState = λ b. record { plan = (plan_in i.held).slaves; feeds = feeds_of (plan_in i.held); next = i.next; place = i.place + 1; fed = 0; polls = 0; seen = c.args.seen; heard = i.heard; phase = if b then Idle else Ready } in
    ap shown (sym e) ∙ ap (λ (t : StartState). advanced t c.args.seen) c.self.view_is
