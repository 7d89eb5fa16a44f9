use Rattle.ec_found.proofs.KeptPdos.{limits_test}
use Rattle.ec_found.proofs.mapped.is_pdo.Goals as goal

pub returns : goal.returns
returns c = limits_test c.args.first c.args.pdo.now c.is_within_limits.result c.is_within_limits.ensures.0 c.is_within_limits.ensures.1
