use borrow.Author.Count.{below_more, below_none}
use Rattle.std.proofs.lemmas.List.{get_or_default}
use Rattle.std.proofs.lemmas.List.Sums.{position_or_len_is}
use Rattle.ec_world.proofs.Words.{ℕ, ◌<◌, ◌≤◌, ◌≡◌, ◌∙◌, Bool, true, false, List, Option, Some, None, ap, arith, cond, get_or, is_none, le-ltb, length, lt-ltb, nat_lt, position, position_or_len, sym, Flight}
use Rattle.ec_world.proofs.slots.first_free.Goals as goal

abbrev Slots : Type 0
Slots = List (Option Flight)

item : (os : Slots) (i : ℕ) (o : Option Flight) (b : Bool) → i < length os → o ≡ get_or os i o → b ≡ is_none o → b ≡ is_none (get_or os i None)
item os i o b l is e = e ∙ ap (λ (x : Option Flight). is_none x) (is ∙ get_or_default os i o None l)

first : (os : Slots) (i : ℕ) → i < length os → ((k : ℕ) → k < i → is_none (get_or os k None) ≡ false) → is_none (get_or os i None) ≡ true → Some i ≡ position (λ o. is_none o) os
first os i l before here =
    let e : position_or_len (λ o. is_none o) os ≡ i = position_or_len_is (λ o. is_none o) os i None (omega (arith, l)) before (λ _. here) in
    sym (ap (λ (n : ℕ). cond (nat_lt n (length os)) (Some n) None) e ∙ ap (λ (b : Bool). cond b (Some i) None) (lt-ltb i (length os) l))

none : (os : Slots) (i : ℕ) → length os ≤ i → ((k : ℕ) → k < i → is_none (get_or os k None) ≡ false) → None ≡ position (λ o. is_none o) os
none os i l before =
    let e : position_or_len (λ o. is_none o) os ≡ length os = position_or_len_is (λ o. is_none o) os (length os) None (omega arith) (λ k m. before k (omega (arith, l, m))) (λ m. absurd (omega (arith, m))) in
    sym (ap (λ (n : ℕ). cond (nat_lt n (length os)) (Some n) None) e ∙ ap (λ (b : Bool). cond b (Some (length os)) None) (le-ltb (length os) (length os) (omega arith)))

pub loop-place-init : goal.loop-place-init
loop-place-init c = below_none (λ k. is_none (get_or c.args.slots.now k None) ≡ false)

pub loop-place-preserved : goal.loop-place-preserved
loop-place-preserved c =
    let os : Slots = c.args.slots.now in
    below_more (λ k. is_none (get_or os k None) ≡ false) c.loop-place.place c.loop-place.invariant
    (sym (item os c.loop-place.place c.index-slots-place.result c.is_free.result (omega arith) c.index-slots-place.is c.is_free.ensures) ∙ c.if-is_free.false)

pub returns-then-is_free : goal.returns-then-is_free
returns-then-is_free c =
    let os : Slots = c.args.slots.now in
    first os c.loop-place.place (omega arith) c.loop-place.invariant
    (sym (item os c.loop-place.place c.index-slots-place.result c.is_free.result (omega arith) c.index-slots-place.is c.is_free.ensures) ∙ c.if-is_free.true)

pub returns : goal.returns
returns c = none c.args.slots.now c.loop-place.place (omega arith) c.loop-place.invariant
