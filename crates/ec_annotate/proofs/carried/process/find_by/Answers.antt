use Rattle.std.proofs.Common.{sym, ◌∙◌}
use Rattle.ec_annotate.proofs.Finding.{found_whole}
use Rattle.ec_annotate.proofs.carried.process.find_by.Goals as goal

pub returns-clause-whole : goal.returns-clause-whole
returns-clause-whole c = found_whole c.args.plan.now.parts _ c.args.address c.args.size c.in_ok-part.part (sym c.find_part.ensures.value ∙ c.in_ok-part.was)
