use Rattle.std.proofs.Common.{◌∙◌, ap, sym, arith}
use Rattle.ec_start.specs.declared.requests.Seek.TheVariants.{Found}
use Rattle.ec_start.proofs.RequestRuns.{seek_parameter, seek_past_parameters}
use Rattle.ec_start.proofs.requests.parameter_in.Goals as goal

pub returns-then-place-count : goal.returns-then-place-count
returns-then-place-count c = sym (seek_past_parameters c.args.parameters.now c.args.place c.if-place-count.true)

pub returns : goal.returns
returns c = ap Found c.of_parameter.ensures ∙ sym (seek_parameter c.args.parameters.now c.args.place _ (omega (arith, c.if-place-count.false)))
