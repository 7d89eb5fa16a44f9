use Rattle.std.proofs.Common.{◌∙◌}
use Rattle.ec_console.specs.Stating.{left_in}
use Rattle.ec_app.proofs.RunLemmas.{owned}
use Rattle.ec_app.proofs.run.run_command.Goals as goal

pub returns-clause-ends : goal.returns-clause-ends
returns-clause-ends g c =
    owned (left_in g.R.Read.remaining) _ _ _ _ c.run_console.new.console.input _ _ _ c.run_console.new.console.output _ c.run_console.new.console.faults _ _ c.run_console.result
    c.new-console.ensures.terminals (c.new-console.ensures.input ∙ c.new.ensures) (c.new-console.ensures.output ∙ c.new-2.ensures) (c.new-console.ensures.faults ∙ c.new-3.ensures) c.run_console.ensures.ends c.run_console.ensures.unprinted
