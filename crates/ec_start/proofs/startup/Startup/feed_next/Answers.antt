use Rattle.std.proofs.Common.{◌≡◌, ◌∙◌, ap, arith, true, false}
use Rattle.ec_start.specs.Running.{StartState, is_sent, judged}
use Rattle.ec_start.specs.declared.verdict.Verdict.TheVariants.{Fed}
use Rattle.ec_start.proofs.Startups.{sent_runs}
use Rattle.ec_start.proofs.startup.Startup.feed_next.Goals as goal

pub overflow_add-self : goal.overflow_add-self
overflow_add-self c =
    let was_sent = ap (λ (t : StartState). is_sent t.phase) c.self.view_is ∙ c.requires in
    let less = c.self.invariant.fed_sent was_sent in
    let fits = c.self.invariant.fits in
    omega (arith, less, fits)

pub invariant_of-self : goal.invariant_of-self
invariant_of-self c =
    let i = c.self.inside in
    let inv = c.self.invariant in
    let was_sent = ap (λ (t : StartState). is_sent t.phase) c.self.view_is ∙ c.requires in
    let less = inv.fed_sent was_sent in
    record { assigned = inv.assigned; numbers = inv.numbers; fed_numbers = omega (arith, less); fits = inv.fits; sent = λ e. absurd (let f : false ≡ true = e in cc); fed_sent = λ e. absurd (let f : false ≡ true = e in cc); polls_left = inv.polls_left; at_step = λ e. inv.at_step (sent_runs i.phase was_sent) }

pub returns : goal.returns
returns c = ap (λ (t : StartState). judged t Fed) c.self.view_is
