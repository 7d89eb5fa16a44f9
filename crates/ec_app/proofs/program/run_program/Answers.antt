use Rattle.std.proofs.Common.{◌∙◌, ap, map, string_bytes}
use Rattle.ec_app.proofs.RunLemmas.{given_ends, given_lost}
use Rattle.ec_app.proofs.program.run_program.Goals as goal

pub returns-in-Ok-collected-clause-ends : goal.returns-in-Ok-collected-clause-ends
returns-in-Ok-collected-clause-ends g c =
    given_ends c.args.given c.in-Ok.given _ _ _ _ _ _ _ _ _ _ c.in-Ok.is (ap (map string_bytes) (c.as_slice.ensures.value ∙ c.in-Ok-collected.ensures)) c.run_console.ensures.ends

pub returns-in-Err-collected-clause-ends : goal.returns-in-Err-collected-clause-ends
returns-in-Err-collected-clause-ends g c =
    given_lost c.args.given c.in-Ok.given _ _ _ _ _ _ c.in-Ok.is (c.eprint_refusal.ensures.status, c.eprint_refusal.ensures.eprinted)
