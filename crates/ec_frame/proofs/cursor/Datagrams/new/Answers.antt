use Rattle.std.proofs.Common.{refl, rules}
use Rattle.ec_frame.proofs.Lending.{first}
use Rattle.ec_frame.proofs.cursor.Datagrams.new.Goals as goal

pub returns-clause-first : goal.returns-clause-first
returns-clause-first c = first c.args.frame.now _ c.requires.0 c.requires.1 refl (search rules)
