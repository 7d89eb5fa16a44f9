use Rattle.ec_found.proofs.SameTypes.{entries_decide}
use Rattle.ec_found.proofs.same.are_same_entries.Goals as goal

pub returns : goal.returns
returns c = entries_decide c.args.one.now c.args.other.now c.have_same_entries.result c.have_same_entries.ensures
