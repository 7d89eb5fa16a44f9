use Rattle.std.proofs.lemmas.List.{get_or_default, length-take-le}
use Rattle.std.proofs.lemmas.List.Sums.{count_by-le-length, count_by_more_no, count_by_more_yes}
use Rattle.ec_world.proofs.Words.{ℕ, ◌+◌, ◌<◌, ◌≡◌, ◌∙◌, Bool, true, false, List, Option, None, ap, arith, count_by, from_bool, get_or, is_none, length, sym, take, take_all, Flight}
use Rattle.ec_world.proofs.slots.free_of.Goals as goal

abbrev Slots : Type 0
Slots = List (Option Flight)

-- one slot more
counted : (os : Slots) (i n : ℕ) (b : Bool) → i < length os → b ≡ is_none (get_or os i None) → n ≡ count_by (λ o. is_none o) (take i os)
    → n + from_bool b ≡ count_by (λ o. is_none o) (take (i + 1) os)
counted os i n true l e was = ap (λ (k : ℕ). k + 1) was ∙ sym (count_by_more_yes (λ o. is_none o) os i None l (sym e))
counted os i n false l e was =
    let none : n + 0 ≡ n = omega arith in
    none ∙ (was ∙ sym (count_by_more_no (λ o. is_none o) os i None l (sym e)))

few : (os : Slots) (i n : ℕ) → i < length os → n ≡ count_by (λ o. is_none o) (take i os) → n < length os
few os i n l was =
    let most = count_by-le-length (λ o. is_none o) (take i os) in
    let long = length-take-le i os (omega (arith, l)) in
    omega (arith, l, was, most, long)

one : (b : Bool) (n m : ℕ) → n < m → n + from_bool b < m + 1
one true n m l = omega (arith, l)
one false n m l = omega (arith, l)

pub overflow_add-count : goal.overflow_add-count
overflow_add-count c =
    let f = few c.args.slots.now c.loop-slot.slot-index c.loop-slot.count (omega arith) c.loop-slot.invariant in
    let g = one c.is_free-is_free.result c.loop-slot.count (length c.args.slots.now) f in
    omega (arith, g)

pub loop-slot-preserved : goal.loop-slot-preserved
loop-slot-preserved c =
    let os : Slots = c.args.slots.now in
    let i : ℕ = c.loop-slot.slot-index in
    let l : i < length os = omega arith in
    counted os i c.loop-slot.count c.is_free-is_free.result l
    (c.is_free-is_free.ensures ∙ ap (λ (o : Option Flight). is_none o) (c.slot-item.is ∙ get_or_default os i c.slot-item.result None l)) c.loop-slot.invariant

pub returns : goal.returns
returns c = c.loop-slot.invariant ∙ ap (λ (os : Slots). count_by (λ o. is_none o) os) (take_all c.loop-slot.slot-index c.args.slots.now (omega arith))
