use Rattle.std.proofs.Common.{◌∙◌, [], ap, reverse}
use Rattle.ec_script.specs.Stages.{lines_left}
use Rattle.ec_script.proofs.Unrolling.{begins}
use Rattle.ec_script.proofs.script.Script.lines.Goals as goal

pub returns : goal.returns
returns c =
    ap (λ rs. lines_left c.as_slice.result.now 0 (reverse rs)) c.new.ensures
    ∙ (ap (λ ps. lines_left ps 0 []) c.as_slice.ensures.value ∙ (begins c.self.inside.pieces.items ∙ c.self.view_is))
