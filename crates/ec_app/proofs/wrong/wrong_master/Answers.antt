use Rattle.ec_app.specs.Wrong.{IsPeer}
use Rattle.ec_app.specs.declared.wrong.Wrong.TheVariants.{To}
use Rattle.ec_app.proofs.WrongLemmas.{wrong_at}
use Rattle.ec_app.proofs.wrong.wrong_master.Goals as goal

pub returns-in-Err-clause-wrong : goal.returns-in-Err-clause-wrong
returns-in-Err-clause-wrong c = wrong_at c.args.descriptor (IsPeer c.args.to.now) To c.in-None.is (λ h. c.in-Err.ensures.value h.0 h.1)
