use Rattle.std.proofs.Common.{arith}
use Rattle.ec_sii.proofs.Lengths.{pdos_few}
use Rattle.ec_sii.proofs.categories.push_pdos.Goals as goal

pub push_category-requires : goal.push_category-requires
push_category-requires c = grind (arith, pdos_few c.args.manager c.args.pdos.now c.requires.few c.requires.short)
