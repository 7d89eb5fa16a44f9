-- One link more among those that were seen.
use Rattle.std.proofs.Common.{◌≡◌, ℕ, ◌+◌, ◌<◌, ◌≤◌, ◌||◌, ◌&&◌, not, eqb, Bool, true, false, List, [], ◌∷◌, ◌++◌, length, get_or, take, map, filter, replicate, refl, sym, ap, ◌∙◌, subst, arith, inl, inr, Some, slice_set}
use Rattle.std.specs.List.{list_any}
use Rattle.std.proofs.lemmas.Bool.{cases_eq}
use Rattle.std.proofs.lemmas.Bool.Decides.{nat_tests}
use Rattle.std.proofs.lemmas.List.{take_more, take_all, map-append, get_or-set_same, get_or-set_other, get_or-take, length-replicate, length-take-le, get_or-replicate}
use Rattle.std.proofs.lemmas.List.Folds.{list_any-append}
use Rattle.std.proofs.lemmas.List.Elements.{filter-append}
use Rattle.ec_table.specs.declared.rows.LinkRow.{LinkRow}
use Rattle.ec_table.specs.declared.rows.VariableRow.{VariableRow}
use Rattle.ec_table.specs.Contents.{Contents}
use Rattle.ec_link.specs.declared.faults.VariableUse.{VariableUse}
use Rattle.ec_link.specs.Faults.{unit_of_link, differ, units_of_variable, split_variable}
use Rattle.ec_link.specs.LinkRuns.{is_out}
use Rattle.ec_link.specs.VariableUse.{nothing_used, use_with, use_of, AreUsed}
use Rattle.ec_link.proofs.Basics.{or_false, and_false}

more_seen : (us : List ℕ) (u : ℕ) → use_with (use_of us) u ≡ use_of (us ++ u ∷ [])
more_seen [] u = refl
more_seen (x ∷ xs) u = ap (λ (b : Bool). record { unit = Some x; differs = b }) (sym (list_any-append (λ y. not (eqb y x)) xs (u ∷ []) ∙ ap (λ (b : Bool). list_any (λ y. not (eqb y x)) xs || b) (or_false (not (eqb u x)))))

units_append : (t : Contents) (v : ℕ) (ls : List LinkRow) (l : LinkRow) → units_of_variable t v (ls ++ l ∷ []) ≡ units_of_variable t v ls ++ units_of_variable t v (l ∷ [])
units_append t v ls l = ap (map (unit_of_link t)) (filter-append (λ (k : LinkRow). eqb k.variable v) ls (l ∷ [])) ∙ map-append (unit_of_link t) (filter (λ (k : LinkRow). eqb k.variable v) ls) (filter (λ (k : LinkRow). eqb k.variable v) (l ∷ []))

pub seen_none : (t : Contents) (uses : List VariableUse) → length uses ≡ length t.variables → ((v : ℕ) (d : VariableUse) → v < length uses → get_or uses v d ≡ nothing_used) → AreUsed t [] uses
seen_none t uses many fresh = record { as_many = many; each = λ v d lt. fresh v d (omega (arith, many)) }

here_or_not : (t : Contents) (ls : List LinkRow) (l : LinkRow) (v : ℕ) (us : List ℕ) → us ≡ units_of_variable t v ls → (s : VariableUse) → s ≡ use_of us → l.variable ≡ v → use_with s (unit_of_link t l) ≡ use_of (units_of_variable t v (ls ++ l ∷ []))
here_or_not t ls l v us is s uses same =
    let e : eqb l.variable v ≡ true = grind (arith, nat_tests, same) in
    let one : units_of_variable t v (l ∷ []) ≡ unit_of_link t l ∷ [] = rw e refl in
    ap (λ (x : VariableUse). use_with x (unit_of_link t l)) uses ∙ more_seen us (unit_of_link t l) ∙ ap use_of (sym (units_append t v ls l ∙ ap (λ xs. units_of_variable t v ls ++ xs) one ∙ ap (λ xs. xs ++ unit_of_link t l ∷ []) (sym is)))

append_nothing : (xs : List ℕ) → xs ++ [] ≡ xs
append_nothing [] = refl
append_nothing (x ∷ xs) = ap (λ ys. x ∷ ys) (append_nothing xs)

pub seen_more_at : (t : Contents) (ls : List LinkRow) (l : LinkRow) (old new : List VariableUse) (d : VariableUse) → AreUsed t ls old → l.variable < length t.variables → new ≡ slice_set old l.variable (use_with (get_or old l.variable d) (unit_of_link t l)) → length new ≡ length old → AreUsed t (ls ++ l ∷ []) new
seen_more_at t ls l old new d h there is many = record {
  as_many = many ∙ h.as_many;
  each = λ v e lt. elim (cases_eq l.variable v) [
    | inl same ↦
        ap (λ xs. get_or xs v e) is ∙ ap (λ (k : ℕ). get_or (slice_set old l.variable (use_with (get_or old l.variable d) (unit_of_link t l))) k e) (sym same)
        ∙ get_or-set_same old l.variable (use_with (get_or old l.variable d) (unit_of_link t l)) e (omega (arith, h.as_many))
        ∙ here_or_not t ls l v (units_of_variable t v ls) refl (get_or old l.variable d) (h.each l.variable d there ∙ ap (λ (k : ℕ). use_of (units_of_variable t k ls)) same) same
    | inr other ↦
        let n : eqb l.variable v ≡ false = grind (arith, nat_tests, other) in
        let none : units_of_variable t v (l ∷ []) ≡ [] = rw n refl in
        ap (λ xs. get_or xs v e) is ∙ get_or-set_other old l.variable v (use_with (get_or old l.variable d) (unit_of_link t l)) e (λ q. other (sym q)) ∙ h.each v e lt
        ∙ ap use_of (sym (units_append t v ls l ∙ ap (λ xs. units_of_variable t v ls ++ xs) none ∙ append_nothing (units_of_variable t v ls)))
  ];
}

-- the loop's step
pub seen_step : (t : Contents) (i : ℕ) (l : LinkRow) (old new : List VariableUse) (d : VariableUse) → AreUsed t (take i t.links) old → i < length t.links → l ≡ get_or t.links i l → l.variable < length t.variables
    → new ≡ slice_set old l.variable (use_with (get_or old l.variable d) (unit_of_link t l)) → length new ≡ length old → AreUsed t (take (i + 1) t.links) new
seen_step t i l old new d h lt is there set many =
    subst (λ (ls : List LinkRow). AreUsed t ls new) (sym (take_more t.links i l lt ∙ ap (λ (k : LinkRow). take i t.links ++ k ∷ []) (sym is))) (seen_more_at t (take i t.links) l old new d h there set many)

pub seen_all : (t : Contents) (i : ℕ) (uses : List VariableUse) → AreUsed t (take i t.links) uses → length t.links ≤ i → AreUsed t t.links uses
seen_all t i uses h most = subst (λ (ls : List LinkRow). AreUsed t ls uses) (take_all i t.links most) h

pub seen_at : (t : Contents) (uses : List VariableUse) (v : ℕ) (s : VariableUse) → AreUsed t t.links uses → v < length t.variables → s ≡ get_or uses v s → s.differs ≡ differ (units_of_variable t v t.links)
seen_at t uses v s h lt is = ap (λ (x : VariableUse). x.differs) (is ∙ h.each v s lt)

pub not_split : (t : Contents) (uses : List VariableUse) (v : ℕ) (w : VariableRow) (d : VariableUse) → AreUsed t t.links uses → v < length t.variables → (get_or uses v d).differs ≡ false → split_variable t v w ≡ false
not_split t uses v w d h lt same =
    let e : differ (units_of_variable t v t.links) ≡ false = sym (ap (λ (x : VariableUse). x.differs) (h.each v d lt)) ∙ same in
    ap (λ (b : Bool). not (is_out w.direction) && b) e ∙ and_false (not (is_out w.direction))

pub out_not_split : (t : Contents) (v : ℕ) (w : VariableRow) → is_out w.direction ≡ true → split_variable t v w ≡ false
out_not_split t v w out = ap (λ (b : Bool). not b && differ (units_of_variable t v t.links)) out

pub seen_count : (t : Contents) (uses : List VariableUse) → AreUsed t t.links uses → length uses ≡ length t.variables
seen_count t uses h = h.as_many

pub ruleset seen_read = (seen_at, seen_count)

-- ---- the list that is made first

pub fresh_count : (t : Contents) (n : ℕ) (uses : List VariableUse) (s : VariableUse) → uses ≡ replicate n s → n ≡ length t.variables → length uses ≡ length t.variables
fresh_count t n uses s e is = ap length e ∙ length-replicate n s ∙ is

pub fresh_at : (n : ℕ) (uses : List VariableUse) (s : VariableUse) → uses ≡ replicate n s → s ≡ nothing_used → (v : ℕ) (d : VariableUse) → v < length uses → get_or uses v d ≡ nothing_used
fresh_at n uses s e is v d lt = ap (λ (xs : List VariableUse). get_or xs v d) e ∙ get_or-replicate n v s d (omega (arith, ap length e, length-replicate n s)) ∙ is

pub ruleset fresh_uses = (fresh_count, fresh_at)

-- the first of a few in place
pub few_count : (t : Contents) (n m : ℕ) (room uses : List VariableUse) (s : VariableUse) → room ≡ replicate m s → uses ≡ take n room → n ≤ m → n ≡ length t.variables → length uses ≡ length t.variables
few_count t n m room uses s e f most is = ap length f ∙ length-take-le n room (omega (arith, ap length e, length-replicate m s)) ∙ is

pub few_at : (n m : ℕ) (room uses : List VariableUse) (s : VariableUse) → room ≡ replicate m s → uses ≡ take n room → n ≤ m → s ≡ nothing_used → (v : ℕ) (d : VariableUse) → v < length uses → get_or uses v d ≡ nothing_used
few_at n m room uses s e f most is v d lt =
    let size : length uses ≡ n = ap length f ∙ length-take-le n room (omega (arith, ap length e, length-replicate m s)) in
    ap (λ (xs : List VariableUse). get_or xs v d) (f ∙ ap (take n) e) ∙ get_or-take n (replicate m s) v d (omega arith) ∙ get_or-replicate m v s d (omega arith) ∙ is

pub ruleset fresh_few = (few_count, few_at)
