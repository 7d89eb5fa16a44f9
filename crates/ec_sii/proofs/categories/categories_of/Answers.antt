use Rattle.std.proofs.Common.{arith, rules}
use Rattle.ec_sii.proofs.Lengths.{strings_few}
use Rattle.ec_sii.specs.Categories.{categories_of}
use Rattle.ec_sii.proofs.categories.categories_of.Goals as goal

pub push_category-requires : goal.push_category-requires
push_category-requires c = grind (arith, strings_few c.args.name.now c.requires)

pub returns : goal.returns
unfolding categories_of
returns c = search rules
