use Rattle.std.proofs.Common.{◌≡◌, sym, arith}
use Rattle.std.proofs.lemmas.Grind.{common_steps}
use Rattle.std.proofs.lemmas.Slice.Eq.{bytes_eq-Decides}
use Rattle.ec_table.proofs.fields.are_same.Goals as goal

pub returns : goal.returns
returns c =
    let same : c.args.one.now ≡ c.args.other.now = grind (arith, common_steps) in
    sym ((bytes_eq-Decides c.args.one.now c.args.other.now).1 same)
