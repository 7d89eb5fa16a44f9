use Rattle.std.proofs.Common.{◌∙◌, ◌++◌, ℕ, List, ap, string_bytes, sym}
use Rattle.cmd_sim.proofs.SimLemmas.{alone_in, reasoned_in}
use Rattle.cmd_sim.proofs.simulation.Simulation.text_with.Goals as goal

pub returns-then-not-is_reasoned : goal.returns-then-not-is_reasoned
returns-then-not-is_reasoned g c =
    let i = c.self.inside in
    alone_in i.world i.watcher i.table.now i.manner c.args.self.now c.args.number c.args.answer _ c.self.view_is (sym c.is_reasoned.ensures ∙ c.if-not-is_reasoned.true) c.in_ok-text.ensures

pub returns : goal.returns
returns g c =
    let i = c.self.inside in
    reasoned_in i.world i.watcher i.table.now i.manner c.args.self.now c.args.number c.args.answer (string_bytes c.in_ok-text.text) (string_bytes c.in_ok-reason.reason) _ c.self.view_is
    (sym c.is_reasoned.ensures ∙ c.if-not-is_reasoned.false) c.in_ok-text.ensures c.in_ok-reason.ensures.form
    (◌∙◌ {b = string_bytes c.in_ok-text.text ++ c.as_str.result.now} c.in_ok-push_str.ensures.bytes (ap (λ (xs : List ℕ). string_bytes c.in_ok-text.text ++ xs) c.as_str.ensures.value))
