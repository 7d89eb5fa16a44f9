use Rattle.std.proofs.Common.{◌≡◌, ◌∙◌, List, sym, ap, length, false}
use Rattle.ec_link.specs.Plan.{PlanState}
use Rattle.ec_link.specs.declared.settings.SlavePlan.{SlavePlan}
use Rattle.ec_start.specs.Verdicts.{verdict}
use Rattle.ec_start.specs.HeldPlans.{plan_in}
use Rattle.ec_start.specs.Running.{StartState, is_ended, type_of, judged}
use Rattle.ec_start.specs.Answered.{answered}
use Rattle.ec_start.proofs.Startups.{take_other, take_kept}
use Rattle.ec_start.proofs.Answering.{answer_length}
use Rattle.ec_start.proofs.startup.Startup.take.Goals as goal

pub action-action-requires : goal.action-action-requires
action-action-requires c = ap (λ (t : StartState). is_ended t.phase) (sym c.self.view_is) ∙ ap is_ended c.in-Sent.is

pub returns-in_default-answer_in : goal.returns-in_default-answer_in
returns-in_default-answer_in c =
    let sent = ap (λ (t : StartState). t.phase) (sym c.self.view_is) ∙ c.in-Sent.is in
    take_other c.args.self.now c.args.payload.now c.action-action.result c.in-Sent.number sent (sym c.action-action.ensures.value) c.in_default-answer_in.ensures

pub verdict_on-verdict-requires : goal.verdict_on-verdict-requires
verdict_on-verdict-requires c =
    let at = c.in-Some.ensures in
    ap length (c.read_data.ensures false at.datagram at.good at.there) ∙ answer_length c.args.payload.now c.action-action.result c.in-Sent.number c.in-Some.answer.now at

pub returns : goal.returns
returns c =
    let i = c.self.inside in
    let a = c.action-action.result in
    let at = c.in-Some.ensures in
    let sent = ap (λ (t : StartState). t.phase) (sym c.self.view_is) ∙ c.in-Sent.is in
    let count = c.read_counter.ensures false at.datagram at.good at.there in
    let told = c.read_data.ensures false at.datagram at.good at.there in
    let same : c.slaves.result.now ≡ (plan_in i.held).slaves = c.slaves.ensures.value ∙ ap (λ (p : PlanState). p.slaves) c.plan.ensures in
    take_kept c.args.self.now c.judge.new.self c.args.payload.now a c.in-Sent.number c.in-Some.answer.now c.read_counter.result c.read_data.result.now at sent (sym c.action-action.ensures.value) count told
    (c.judge.ensures ∙ ap (judged c.args.self.now) (c.verdict_on-verdict.ensures
    ∙ (ap (λ (ps : List SlavePlan). verdict (length ps) i.place i.seen (type_of ps) a (answered c.read_counter.result c.read_data.result.now)) same
    ∙ ap (λ (t : StartState). verdict (length t.plan) t.place t.seen (type_of t.plan) a (answered c.read_counter.result c.read_data.result.now)) c.self.view_is)))
