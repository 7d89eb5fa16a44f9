use Rattle.ec_app.specs.Wrong.{IsAddress}
use Rattle.ec_app.specs.declared.wrong.Wrong.TheVariants.{Bind}
use Rattle.ec_app.proofs.WrongLemmas.{wrong_at}
use Rattle.ec_app.proofs.wrong.wrong_segment.Goals as goal

pub returns-in-Err-clause-wrong : goal.returns-in-Err-clause-wrong
returns-in-Err-clause-wrong c = wrong_at c.args.descriptor (IsAddress c.args.bind.now) Bind c.in-None.is (λ h. c.in-Err.ensures.value h.0 h.1)
