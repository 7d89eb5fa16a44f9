-- The newest frames go round, slot after slot.
use Rattle.std.proofs.Common.{◌≡◌, ◌∙◌, ℕ, zero, suc, ◌+◌, ◌<◌, ◌≤◌, List, [], ◌∷◌, ◌++◌, length, replicate, get_or, drop, set, Bool, true, false, if◌then◌else◌, Option, Some, None, refl, sym, ap, subst, append_assoc, append-nil, max, unwrap_or, option_map, arith}
use Rattle.std.proofs.lemmas.List.{drop_all, at_drop_more, get_or-drop, drop-set-lt}
use Rattle.ec_world.specs.declared.event.Event.{Event}
use Rattle.ec_world.specs.declared.event.Event.TheVariants.{Pass, Return, Serve}
use Rattle.ec_world.specs.NewWorld.{servings}
use Rattle.ec_world.specs.World.{WorldState, Flight, IsStep, ByStart, Passes, Returns, StartReturns, awaits}
use Rattle.ec_script.specs.declared.output.LineOutput.{LineOutput}
use Rattle.ec_script.specs.declared.output.LineOutput.TheVariants.{Nothing}
use Rattle.ec_simulation.specs.Rounds.{greatest, has_number, round_events, rounds, slots_with}
use Rattle.ec_script.specs.Outputs.{is_done}
use Rattle.ec_simulation.specs.Work.{MakesAll, Onward}
use Rattle.ec_simulation.proofs.Making.{nonempty, stopped, then_on}

-- ---- the greatest number

greater : (m : ℕ) (slot : Option Flight) (slots : List (Option Flight))
    → max (max m (unwrap_or (option_map (λ (f : Flight). f.number) slot) 0)) (greatest slots) ≡ max m (greatest (slot ∷ slots))
greater m None slots = let g = greatest slots in omega arith
greater m (Some f) slots = let g = greatest slots in omega arith

pub newer : (slots : List (Option Flight)) (i m : ℕ) (o : Option ℕ) (whole : ℕ) → i < length slots → o ≡ option_map (λ (f : Flight). f.number) (get_or slots i None)
    → max m (greatest (drop i slots)) ≡ whole → max (max m (unwrap_or o 0)) (greatest (drop (i + 1) slots)) ≡ whole
newer slots i m o whole lt is h =
    ap (λ p. max (max m (unwrap_or p 0)) (greatest (drop (i + 1) slots))) is
    ∙ (greater m (get_or slots i None) (drop (i + 1) slots) ∙ (sym (at_drop_more (λ os. max m (greatest os)) slots i None lt) ∙ h))

pub newest_found : (slots : List (Option Flight)) (i m whole : ℕ) → length slots ≤ i → max m (greatest (drop i slots)) ≡ whole → m ≡ whole
newest_found slots i m whole le h =
    let e : max m (greatest (drop i slots)) ≡ max m 0 = ap (λ os. max m (greatest os)) (drop_all i slots le) in
    let z : max m 0 ≡ m = omega arith in
    sym (sym h ∙ (e ∙ z))

-- ---- what a round leaves alone

-- an event of the round of the frame in slot k
abbrev pub Touches : ℕ → Event → Type 0
Touches k (Pass j) = j ≡ k
Touches k (Return j) = j ≡ k
Touches k (Serve s) = Unit {0}
Touches k e = ⊥

abbrev AllTouch : ℕ → List Event → Type 0
AllTouch k [] = Unit {0}
AllTouch k (e ∷ es) = Touches k e × AllTouch k es

touch-append : (k : ℕ) (xs ys : List Event) → AllTouch k xs → AllTouch k ys → AllTouch k (xs ++ ys)
touch-append k [] ys h g = g
touch-append k (x ∷ xs) ys h g = (h.0, touch-append k xs ys h.1 g)

passes_touch : (k n : ℕ) → AllTouch k (replicate n (Pass k))
passes_touch k zero = tt
passes_touch k (suc n) = (refl, passes_touch k n)

servings_touch : (k s n : ℕ) → AllTouch k (servings s n)
servings_touch k s zero = tt
servings_touch k s (suc n) = (tt, servings_touch k (s + 1) n)

if_touch : (k n : ℕ) (serving : Bool) → AllTouch k (if serving then servings 0 n else [])
if_touch k n true = servings_touch k 0 n
if_touch k n false = tt

round_touches : (n : ℕ) (serving : Bool) (k : ℕ) → AllTouch k (round_events n serving k)
round_touches n serving k =
    touch-append k (replicate n (Pass k)) _ (passes_touch k n) (touch-append k (if serving then servings 0 n else []) (Return k ∷ []) (if_touch k n serving) (refl, tt))

-- slots behind one that is set
behind : (xs ys : List (Option Flight)) (j k : ℕ) (o : Option Flight) → ys ≡ set xs j o → j ≡ k → drop (k + 1) ys ≡ drop (k + 1) xs
behind xs ys j k o is same =
    let lt : j < k + 1 = omega (arith, same) in
    ap (drop (k + 1)) is ∙ drop-set-lt (k + 1) xs j o lt

returned : (b : Bool) (old : WorldState) (j : ℕ) (new : WorldState) → ByStart b (StartReturns old j new) (Returns old j new) → new.slots ≡ set old.slots j None
returned true old j new h = ap (λ w. w.slots) h.is
returned false old j new h = ap (λ w. w.slots) h.is

made_behind : (k : ℕ) (e : Event) (old new : WorldState) → Touches k e → IsStep old e new true → drop (k + 1) new.slots ≡ drop (k + 1) old.slots
made_behind k (Pass j) old new t h = let p : Passes old j new = h.happens refl in behind old.slots new.slots j k _ (ap (λ w. w.slots) p.is) t
made_behind k (Return j) old new t h = behind old.slots new.slots j k None (returned (awaits old.start) old j new (h.happens refl)) t
made_behind k (Serve s) old new t h = ap (λ w. drop (k + 1) w.slots) (h.happens refl)
made_behind k e old new t h = absurd t

step_behind : (k : ℕ) (e : Event) (old new : WorldState) (made : Bool) → Touches k e → IsStep old e new made → drop (k + 1) new.slots ≡ drop (k + 1) old.slots
step_behind k e old new true t h = made_behind k e old new t h
step_behind k e old new false t h = ap (λ w. drop (k + 1) w.slots) (h.refused refl)

onward_behind : {X : Type 0} (b : Bool) (k : ℕ) (first new : WorldState) (word told : LineOutput) → Onward b X ((new ≡ first) × (word ≡ told))
    → (X → drop (k + 1) new.slots ≡ drop (k + 1) first.slots) → drop (k + 1) new.slots ≡ drop (k + 1) first.slots
onward_behind true k first new word told h f = f h
onward_behind false k first new word told h f = ap (λ w. drop (k + 1) w.slots) h.0

all_behind : (k : ℕ) (es : List Event) (old new : WorldState) (word : LineOutput) → AllTouch k es → MakesAll es old new word → drop (k + 1) new.slots ≡ drop (k + 1) old.slots
all_behind k [] old new word t h = ap (λ w. drop (k + 1) w.slots) h.0
all_behind k (e ∷ []) old new word t h = step_behind k e old new h.made t.0 h.step
all_behind k (e ∷ f ∷ es) old new word t h =
    onward_behind (is_done h.told) k h.mid new word h.told h.goes_on (λ x. all_behind k (f ∷ es) h.mid new word t.1 x) ∙ step_behind k e old h.mid h.begins.made t.0 h.begins.step

-- ---- slot after slot

-- the frames in the slots below i went round, and those from i on are where they were
pub record AreGone (n : ℕ) (serving : Bool) (number : ℕ) (old : WorldState) (i : ℕ) (now : WorldState) (word : LineOutput) : Type 0 where
  pub gone : List Event
  pub went : MakesAll gone old now word
  pub going : is_done word ≡ true
  pub ahead : gone ++ rounds n serving (slots_with number i (drop i old.slots)) ≡ rounds n serving (slots_with number 0 old.slots)
  pub kept : drop i now.slots ≡ drop i old.slots

pub none_gone : (n : ℕ) (serving : Bool) (number : ℕ) (old : WorldState) → AreGone n serving number old 0 old Nothing
none_gone n serving number old = record { gone = []; went = (refl, refl); going = refl; ahead = refl; kept = refl }

drop_one : (i : ℕ) (xs : List (Option Flight)) → drop 1 (drop i xs) ≡ drop (i + 1) xs
drop_one zero xs = refl
drop_one (suc i) [] = let e : suc i + 1 ≡ suc (i + 1) = omega arith in rw e refl
drop_one (suc i) (x ∷ xs) = let e : suc i + 1 ≡ suc (i + 1) = omega arith in rw e (drop_one i xs)

next_same : (i : ℕ) (xs ys : List (Option Flight)) → drop i xs ≡ drop i ys → drop (i + 1) xs ≡ drop (i + 1) ys
next_same i xs ys h = sym (drop_one i xs) ∙ (ap (drop 1) h ∙ drop_one i ys)

same_at : (i : ℕ) (xs ys : List (Option Flight)) → drop i xs ≡ drop i ys → get_or xs i None ≡ get_or ys i None
same_at i xs ys h =
    let z : i + 0 ≡ i = omega arith in
    let at : get_or xs (i + 0) None ≡ get_or ys (i + 0) None = sym (get_or-drop i xs 0 None) ∙ (ap (λ os. get_or os 0 None) h ∙ get_or-drop i ys 0 None) in
    subst (λ k. get_or xs k None ≡ get_or ys k None) z at

found : (number i : ℕ) (slots : List (Option Flight)) → i < length slots
    → slots_with number i (drop i slots) ≡ (if has_number number (get_or slots i None) then i ∷ slots_with number (i + 1) (drop (i + 1) slots) else slots_with number (i + 1) (drop (i + 1) slots))
found number i slots lt = at_drop_more (λ os. slots_with number i os) slots i None lt

found_as : (number i : ℕ) (slots : List (Option Flight)) (b : Bool) → i < length slots → has_number number (get_or slots i None) ≡ b
    → slots_with number i (drop i slots) ≡ (if b then i ∷ slots_with number (i + 1) (drop (i + 1) slots) else slots_with number (i + 1) (drop (i + 1) slots))
found_as number i slots b lt is =
    found number i slots lt ∙ ap (λ c. if c then i ∷ slots_with number (i + 1) (drop (i + 1) slots) else slots_with number (i + 1) (drop (i + 1) slots)) is

module _ (n : ℕ) (serving : Bool) (number : ℕ) (old : WorldState) (i : ℕ) (now : WorldState) (told : LineOutput) (h : AreGone n serving number old i now told) where
  held_before : (b : Bool) → has_number number (get_or now.slots i None) ≡ b → has_number number (get_or old.slots i None) ≡ b
  held_before b is = ap (has_number number) (sym (same_at i now.slots old.slots h.kept)) ∙ is

  pub passed_over : i < length old.slots → has_number number (get_or now.slots i None) ≡ false → AreGone n serving number old (i + 1) now told
  passed_over lt is = record {
    gone = h.gone;
    went = h.went;
    going = h.going;
    ahead = ap (λ ks. h.gone ++ rounds n serving ks) (sym (found_as number i old.slots false lt (held_before false is))) ∙ h.ahead;
    kept = next_same i now.slots old.slots h.kept;
  }

  split : i < length old.slots → has_number number (get_or now.slots i None) ≡ true
      → (h.gone ++ round_events n serving i) ++ rounds n serving (slots_with number (i + 1) (drop (i + 1) old.slots)) ≡ rounds n serving (slots_with number 0 old.slots)
  split lt is =
      append_assoc h.gone (round_events n serving i) _
      ∙ (ap (λ ks. h.gone ++ rounds n serving ks) (sym (found_as number i old.slots true lt (held_before true is))) ∙ h.ahead)

  round_nonempty : 0 < length (round_events n serving i)
  round_nonempty = subst (λ (es : List Event). 0 < length es) (append_assoc (replicate n (Pass i)) (if serving then servings 0 n else []) (Return i ∷ []))
      (nonempty (replicate n (Pass i) ++ (if serving then servings 0 n else [])) (Return i) [])

  went_too : (new : WorldState) (word : LineOutput) → MakesAll (round_events n serving i) now new word → MakesAll (h.gone ++ round_events n serving i) old new word
  went_too new word round = then_on h.gone (round_events n serving i) old now new told word round_nonempty h.went h.going round

  pub gone_on : (new : WorldState) (word : LineOutput) → i < length old.slots → has_number number (get_or now.slots i None) ≡ true
      → MakesAll (round_events n serving i) now new word → is_done word ≡ true → AreGone n serving number old (i + 1) new word
  gone_on new word lt is round done = record {
    gone = h.gone ++ round_events n serving i;
    went = went_too new word round;
    going = done;
    ahead = split lt is;
    kept = all_behind i (round_events n serving i) now new word (round_touches n serving i) round ∙ next_same i now.slots old.slots h.kept;
  }

  pub gone_wrong : (new : WorldState) (word : LineOutput) → i < length old.slots → has_number number (get_or now.slots i None) ≡ true
      → MakesAll (round_events n serving i) now new word → is_done word ≡ false → MakesAll (rounds n serving (slots_with number 0 old.slots)) old new word
  gone_wrong new word lt is round stop =
      subst (λ es. MakesAll es old new word) (split lt is)
      (stopped (h.gone ++ round_events n serving i) (rounds n serving (slots_with number (i + 1) (drop (i + 1) old.slots))) old new word (went_too new word round) stop)

  pub all_gone : length old.slots ≤ i → MakesAll (rounds n serving (slots_with number 0 old.slots)) old now told
  all_gone le =
      let none : slots_with number i (drop i old.slots) ≡ [] = ap (λ os. slots_with number i os) (drop_all i old.slots le) in
      let same : h.gone ≡ rounds n serving (slots_with number 0 old.slots) = sym (append-nil h.gone) ∙ (ap (λ ks. h.gone ++ rounds n serving ks) (sym none) ∙ h.ahead) in
      subst (λ es. MakesAll es old now told) same h.went
