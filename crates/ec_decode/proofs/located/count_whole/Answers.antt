use Rattle.std.proofs.Common.{List, ℕ, subst, arith}
use Rattle.ec_decode.specs.Standing.{BeginsLong}
use Rattle.ec_decode.proofs.Places.{front_within, whole_some}
use Rattle.ec_decode.proofs.located.count_whole.Goals as goal

pub overflow_add-result : goal.overflow_add-result
overflow_add-result c = let w = (front_within c.args.area.now c.front_of-whole.result c.front_of-whole.ensures).1 in omega (arith, c.well_formed, c.type_inv.area)

pub returns-in-Some : goal.returns-in-Some
returns-in-Some c =
    let len = c.in-Some.field-0 in
    whole_some c.args.area.now c.front_of-whole.result len c.front_of-whole.ensures (subst (λ (xs : List ℕ). BeginsLong xs len) c.split_at.ensures.back c.in-Some.ensures.found)
