use Rattle.std.proofs.Common.{sym, subst}
use Rattle.ec_app.specs.Running.{Eprints}
use Rattle.ec_app.proofs.run.exit_status.Goals as goal

pub returns-in-Err : goal.returns-in-Err
returns-in-Err g c = subst (Eprints _ c.eprint_refusal.result) (sym c.in-Err.is) (c.eprint_refusal.ensures.status, c.eprint_refusal.ensures.eprinted)
