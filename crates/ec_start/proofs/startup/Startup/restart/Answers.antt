use Rattle.std.proofs.Common.{◌∙◌, ap}
use Rattle.ec_start.specs.Running.{StartState, begun}
use Rattle.ec_start.proofs.startup.Startup.restart.Goals as goal

pub returns : goal.returns
returns c = c.begin_again-2.ensures ∙ ap (λ (s : StartState). begun c.args.self.now.plan c.args.self.now.feeds s.next) c.begin_again.view_is
