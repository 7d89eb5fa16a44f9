-- The part that is found has as many bytes as the datagram.
use Rattle.std.proofs.Common.{◌≡◌, ℕ, ◌==◌, Bool, true, false, List, Some, position, refl, arith}
use Rattle.std.proofs.lemmas.Bool.Decides.{nat_tests}
use Rattle.std.proofs.lemmas.List.Quantifiers.{position-Some}
use Rattle.std.proofs.Math.Bool.{◌&&◌}
use Rattle.ec_link.specs.declared.plan.PartPlan.{PartPlan}
use Rattle.ec_link.specs.Plan.{no_part, part_at}
use Rattle.ec_annotate.specs.Processes.{is_of}

left_true : (a b : Bool) → (a && b) ≡ true → a ≡ true
left_true true b h = refl
left_true false b h = cc

right_true : (a b : Bool) → (a && b) ≡ true → b ≡ true
right_true true b h = h
right_true false b h = cc

is_whole : (split : Bool) (address size : ℕ) (part : PartPlan) → is_of split address size part ≡ true → size ≡ part.bytes
is_whole split address size part h =
    let same : (part.bytes == size) ≡ true = right_true (part.address == address) (part.bytes == size) (left_true _ _ h) in
    grind (arith, nat_tests)

pub found_whole : (parts : List PartPlan) (split : Bool) (address size k : ℕ) → position (is_of split address size) parts ≡ Some k → size ≡ (part_at parts k).bytes
found_whole parts split address size k h =
    is_whole split address size (part_at parts k) (position-Some (is_of split address size) parts k no_part h).1
