use Rattle.std.proofs.Common.{◌∙◌}
use Rattle.ec_script.specs.Words.{byte_of}
use Rattle.ec_script.proofs.Numbers.{byte_told}
use Rattle.ec_script.proofs.words.byte_of.Goals as goal

pub returns-in_err-number_of : goal.returns-in_err-number_of
unfolding byte_of
returns-in_err-number_of c = rw (← c.number_of.ensures, c.in_err-number_of.was) c.from_residual.ensures

pub returns : goal.returns
unfolding byte_of
returns c = rw (← c.number_of.ensures, c.in_ok-number_of.was) (c.ok.ensures.value ∙ byte_told _ c.try_from.result c.try_from.ensures)
