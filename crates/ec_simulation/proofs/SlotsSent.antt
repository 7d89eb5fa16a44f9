-- Where frames are that were sent.
use Rattle.std.proofs.Common.{◌≡◌, ◌∙◌, ℕ, ◌+◌, ◌≤◌, ◌==◌, ◌&&◌, not, List, [], ◌∷◌, length, replicate, map, max, Bool, true, false, if◌then◌else◌, Option, Some, None, option_map, refl, sym, ap, arith}
use Rattle.std.proofs.lemmas.Bool.Decides.{nat_tests}
use Rattle.std.proofs.lemmas.List.{length-replicate}
use Rattle.ec_cycle.specs.Closing.{nones}
use Rattle.ec_world.specs.Plain.{filled}
use Rattle.ec_world.specs.World.{WorldState, Flight, Begins, Sends, flights_from}
use Rattle.ec_world.proofs.SlotLaws.Filled.{filled-map}
use Rattle.ec_simulation.specs.Events.{lowest_slot, newest_slots, slots_sent}
use Rattle.ec_simulation.specs.Rounds.{greatest, rounds, rounds_found, slots_with}

-- ---- by their numbers alone

abbrev number_in : Option Flight → Option ℕ
number_in o = option_map (λ (f : Flight). f.number) o

abbrev numbers : List (Option Flight) → List (Option ℕ)
numbers slots = map number_in slots

abbrev greatest_of : List (Option ℕ) → ℕ
greatest_of [] = 0
greatest_of (None ∷ os) = greatest_of os
greatest_of (Some n ∷ os) = max n (greatest_of os)

abbrev places_of : ℕ → ℕ → List (Option ℕ) → List ℕ
places_of n k [] = []
places_of n k (None ∷ os) = places_of n (k + 1) os
places_of n k (Some m ∷ os) = if m == n then k ∷ places_of n (k + 1) os else places_of n (k + 1) os

greatest_is : (slots : List (Option Flight)) → greatest slots ≡ greatest_of (numbers slots)
greatest_is [] = refl
greatest_is (None ∷ slots) = greatest_is slots
greatest_is (Some f ∷ slots) = ap (λ n. max f.number n) (greatest_is slots)

places_are : (n k : ℕ) (slots : List (Option Flight)) → slots_with n k slots ≡ places_of n k (numbers slots)
places_are n k [] = refl
places_are n k (None ∷ slots) = places_are n (k + 1) slots
places_are n k (Some f ∷ slots) = ap (λ ks. if f.number == n then k ∷ ks else ks) (places_are n (k + 1) slots)

newest_by : (slots : List (Option Flight)) → newest_slots slots ≡ places_of (greatest_of (numbers slots)) 0 (numbers slots)
newest_by slots = places_are (greatest slots) 0 slots ∙ ap (λ n. places_of n 0 (numbers slots)) (greatest_is slots)

newest_same : (slots others : List (Option Flight)) → numbers slots ≡ numbers others → newest_slots slots ≡ newest_slots others
newest_same slots others e = newest_by slots ∙ (ap (λ ns. places_of (greatest_of ns) 0 ns) e ∙ sym (newest_by others))

flights_numbers : (number k : ℕ) (fs gs : List (List ℕ)) → length fs ≡ length gs
    → map (λ (f : Flight). f.number) (flights_from number k fs) ≡ map (λ (f : Flight). f.number) (flights_from number k gs)
flights_numbers number k [] [] e = refl
flights_numbers number k [] (g ∷ gs) e = absurd (omega arith)
flights_numbers number k (f ∷ fs) [] e = absurd (omega arith)
flights_numbers number k (f ∷ fs) (g ∷ gs) e = ap (λ ns. number ∷ ns) (flights_numbers number (k + 1) fs gs (omega arith))

numbers_filled : (number : ℕ) (fs gs : List (List ℕ)) (slots : List (Option Flight)) → length fs ≡ length gs
    → numbers (filled (flights_from number 0 fs) slots) ≡ numbers (filled (flights_from number 0 gs) slots)
numbers_filled number fs gs slots e =
    filled-map (λ (f : Flight). f.number) (flights_from number 0 fs) slots
    ∙ (ap (λ ns. filled ns (numbers slots)) (flights_numbers number 0 fs gs e) ∙ sym (filled-map (λ (f : Flight). f.number) (flights_from number 0 gs) slots))

sent_as : (number count : ℕ) (fs : List (List ℕ)) (slots : List (Option Flight)) → length fs ≡ count
    → newest_slots (filled (flights_from number 0 fs) slots) ≡ newest_slots (slots_sent count number slots)
sent_as number count fs slots e =
    newest_same _ _ (numbers_filled number fs (replicate count []) slots (e ∙ sym (length-replicate count [])))

-- ---- a cycle has begun

pub cycle_found : (old mid : WorldState) → Begins old mid
    → rounds_found false mid ≡ rounds (length old.slaves) false (newest_slots (slots_sent (length old.master.plan.parts) old.master.next old.slots))
cycle_found old mid p =
    let slaves : length mid.slaves ≡ length old.slaves = ap (λ (w : WorldState). length w.slaves) p.is in
    let slots : newest_slots mid.slots ≡ newest_slots (filled (flights_from old.master.next 0 p.cycle.frames) old.slots) = ap (λ (w : WorldState). newest_slots w.slots) p.is in
    ap (λ n. rounds n false (newest_slots mid.slots)) slaves
    ∙ ap (λ ks. rounds (length old.slaves) false ks) (slots ∙ sent_as old.master.next (length old.master.plan.parts) p.cycle.frames old.slots p.master.count)

-- ---- a frame of a start-up was sent

pub nones_most : {X : Type 0} (os : List (Option X)) → nones os ≤ length os
nones_most [] = omega arith
nones_most (None ∷ os) = let h : nones os ≤ length os = nones_most os in omega arith
nones_most (Some x ∷ os) = let h : nones os ≤ length os = nones_most os in omega arith

pub not_full : {X : Type 0} (x : X) (os : List (Option X)) → nones (Some x ∷ os) ≡ length (Some x ∷ os) → ⊥
not_full x os e = let h : nones os ≤ length os = nones_most os in omega arith

rest_free : {X : Type 0} (os : List (Option X)) → nones (None ∷ os) ≡ length (None ∷ os) → nones os ≡ length os
rest_free os e = omega arith

none_newest : (slots : List (Option Flight)) → nones slots ≡ length slots → greatest slots ≡ 0
none_newest [] e = refl
none_newest (None ∷ slots) e = none_newest slots (rest_free slots e)
none_newest (Some f ∷ slots) e = absurd (not_full f slots e)

pub none_with : (n k : ℕ) (slots : List (Option Flight)) → nones slots ≡ length slots → slots_with n k slots ≡ []
none_with n k [] e = refl
none_with n k (None ∷ slots) e = none_with n (k + 1) slots (rest_free slots e)
none_with n k (Some f ∷ slots) e = absurd (not_full f slots e)

pub filled_none : {X : Type 0} (os : List (Option X)) → filled [] os ≡ os
filled_none [] = refl
filled_none (o ∷ os) = refl

is_itself : (n m : ℕ) → m ≡ 0 → (n == max n m) ≡ true
is_itself n m e = let same : max n m ≡ n = omega arith in rw same (grind (arith, nat_tests))

-- the frame is the newest, and alone
alone : (f : Flight) (slots : List (Option Flight)) → nones slots ≡ length slots → newest_slots (Some f ∷ slots) ≡ 0 ∷ []
alone f slots e =
    let n = max f.number (greatest slots) in
    let here : (f.number == n) ≡ true = is_itself f.number (greatest slots) (none_newest slots e) in
    ap (λ ks. if f.number == n then 0 ∷ ks else ks) (none_with n (0 + 1) slots e) ∙ ap (λ b. if b then 0 ∷ [] else []) here

sent_lowest : (f : Flight) (slots : List (Option Flight)) → nones slots ≡ length slots → newest_slots (filled (f ∷ []) slots) ≡ lowest_slot slots
sent_lowest f [] e = refl
sent_lowest f (None ∷ slots) e = ap (λ os. newest_slots (Some f ∷ os)) (filled_none slots) ∙ alone f slots (rest_free slots e)
sent_lowest f (Some g ∷ slots) e = absurd (not_full g slots e)

pub turn_found : (old mid : WorldState) → Sends old mid → nones old.slots ≡ length old.slots
    → rounds_found true mid ≡ rounds (length old.slaves) true (lowest_slot old.slots)
turn_found old mid p free =
    let slaves : length mid.slaves ≡ length old.slaves = ap (λ (w : WorldState). length w.slaves) p.is in
    let slots = ap (λ (w : WorldState). newest_slots w.slots) p.is in
    ap (λ n. rounds n true (newest_slots mid.slots)) slaves
    ∙ ap (λ ks. rounds (length old.slaves) true ks) (slots ∙ sent_lowest _ old.slots free)

-- it was, where all slots were free
and_first : (a b : Bool) → (a && b) ≡ true → a ≡ true
and_first true b h = refl
and_first false b h = h

same_number : (m n : ℕ) → (m == n) ≡ true → m ≡ n
same_number m n h = grind (arith, nat_tests)

pub starts_free : (up waits : Bool) (m n : ℕ) (more : Bool) → (not up && (not waits && ((m == n) && more))) ≡ true → m ≡ n
starts_free true waits m n more h = cc
starts_free false true m n more h = cc
starts_free false false m n more h = same_number m n (and_first (m == n) more h)
