-- A cycle of the plain machine that nothing disturbs: each of its frames goes round, one after another.
use Rattle.ec_world.proofs.Words.{ℕ, zero, suc, ◌+◌, ◌<◌, ◌≤◌, ◌≡◌, nat_lt, Bool, true, false, Option, Some, None, refl, sym, ◌∙◌, ap, subst, arith, List, [], ◌∷◌, ◌++◌, length, get_or, set, replicate, is_some, if◌then◌else◌, option_map, unwrap_or, length-set, list_all, and_parts, and_from, lt-ltb, le-ltb, eq-eqb, length_push, map-set, length-append, if_true, if_false, Meaning, Event, Pass, Return, Progress, Plain, PlainFrame, Cycle, step, run, frame_at, plain_slave, moved, keeping, filled, new_frames, with_note, met_note, progress_of, all_progress, is_older, lets_by, may_pass, may_return, round_of, rounds_of, none_some, some_same, list_all-append, filled-none, met_slave}
use Rattle.ec_world.proofs.Runs.SnapshotsLaw.{run_joins, keeping_number}

-- ---- slots

abbrev pub Slots : Type 0
Slots = List (Option Progress)

abbrev pub at_way : (n j i : ℕ) → Progress
at_way n j i = record { number = n; part = j; passed = i }

abbrev pub empty : ℕ → Slots
empty z = replicate z None

-- new frames of so many parts from k on
abbrev pub fresh : (n k count : ℕ) → Slots
fresh n k zero = []
fresh n k (suc count) = Some (at_way n k 0) ∷ fresh n (k + 1) count

at_gap : (j : ℕ) (x : Option Progress) (tail : Slots) → get_or (empty j ++ (x ∷ tail)) j None ≡ x
at_gap zero x tail = refl
at_gap (suc j) x tail = at_gap j x tail

set_gap : (j : ℕ) (x y : Option Progress) (tail : Slots) → set (empty j ++ (x ∷ tail)) j y ≡ empty j ++ (y ∷ tail)
set_gap zero x y tail = refl
set_gap (suc j) x y tail = ap (λ (os : Slots). None ∷ os) (set_gap j x y tail)

gap_more : (j : ℕ) (tail : Slots) → empty j ++ (None ∷ tail) ≡ empty (j + 1) ++ tail
gap_more zero tail = let e : 1 ≡ 0 + 1 = omega arith in ap (λ (k : ℕ). empty k ++ tail) e
gap_more (suc j) tail = let e : suc (j + 1) ≡ suc j + 1 = omega arith in ap (λ (os : Slots). None ∷ os) (gap_more j tail) ∙ ap (λ (k : ℕ). empty k ++ tail) e

-- ---- no older frame is in the way

not_older : (n j i k l : ℕ) → j ≤ k → is_older (at_way n k l) (at_way n j i) ≡ false
not_older n j i k l le =
    rw (le-ltb n n (omega arith), eq-eqb n n refl, le-ltb k j le) refl

lets_one : (n j i k l : ℕ) → j ≤ k → lets_by (at_way n j i) (Some (at_way n k l)) ≡ true
lets_one n j i k l le = if_false _ _ _ (not_older n j i k l le)

lets_empty : (f : Progress) (z : ℕ) → list_all (lets_by f) (empty z) ≡ true
lets_empty f zero = refl
lets_empty f (suc z) = lets_empty f z

pub lets_fresh : (n j i k count z : ℕ) → j ≤ k → list_all (lets_by (at_way n j i)) (fresh n k count ++ empty z) ≡ true
lets_fresh n j i k zero z le = lets_empty (at_way n j i) z
lets_fresh n j i k (suc count) z le = and_from _ _ (lets_one n j i k 0 le) (lets_fresh n j i (k + 1) count z (omega (arith, le)))

may_go : (N n j i : ℕ) (tail : Slots) → i < N → list_all (lets_by (at_way n j i)) tail ≡ true → may_pass N (empty j ++ (Some (at_way n j i) ∷ tail)) (Some (at_way n j i)) ≡ true
may_go N n j i tail few young =
    and_from (nat_lt i N) _ (lt-ltb i N few) (list_all-append (lets_by (at_way n j i)) (empty j) (Some (at_way n j i) ∷ tail)
    ∙ and_from _ _ (lets_empty (at_way n j i) j) (and_from _ _ (lets_one n j i j i (omega arith)) young))

-- ---- the frame of part j on its way, those of earlier parts back

pub record Going (N n j i : ℕ) (tail : Slots) (p : Plain) : Type 0 where
  pub slots : all_progress p.slots ≡ empty j ++ (Some (at_way n j i) ∷ tail)
  pub cycle : Cycle
  pub is_open : p.cycle ≡ Some cycle
  pub number_is : cycle.number ≡ n
  pub count : length p.slaves ≡ N

-- the slots from part j on, and nothing on its way before
pub record Between (N n j count z : ℕ) (p : Plain) : Type 0 where
  pub slots : all_progress p.slots ≡ empty j ++ (fresh n j count ++ empty z)
  pub cycle : Cycle
  pub is_open : p.cycle ≡ Some cycle
  pub number_is : cycle.number ≡ n
  pub count_is : length p.slaves ≡ N

pub get_mapped : (xs : List (Option PlainFrame)) (j : ℕ) → get_or (all_progress xs) j None ≡ option_map progress_of (get_or xs j None)
get_mapped [] j = refl
get_mapped (x ∷ xs) zero = refl
get_mapped (x ∷ xs) (suc j) = get_mapped xs j

mapped_some : (o : Option PlainFrame) (f : Progress) → option_map progress_of o ≡ Some f → (g : PlainFrame) × ((o ≡ Some g) × (progress_of g ≡ f))
mapped_some None f e = absurd (none_some f e)
mapped_some (Some g) f e = (g, (refl, some_same (progress_of g) f e))

frame_there : (N n j i : ℕ) (tail : Slots) (p : Plain) → Going N n j i tail p → (g : PlainFrame) × ((frame_at p j ≡ Some g) × (progress_of g ≡ at_way n j i))
frame_there N n j i tail p h =
    mapped_some (frame_at p j) (at_way n j i) (sym (get_mapped p.slots j) ∙ (ap (λ (os : Slots). get_or os j None) h.slots ∙ at_gap j (Some (at_way n j i)) tail))

pub record Goes (m : Meaning) (p : Plain) (e : Event) (Then : Plain → Type 0) : Type 0 where
  pub next : Plain
  pub made : step m p e ≡ Some next
  pub after : Then next

pass_goes : (m : Meaning) (N n j i : ℕ) (tail : Slots) (p : Plain) → Going N n j i tail p → i < N → list_all (lets_by (at_way n j i)) tail ≡ true → Goes m p (Pass j) (Going N n j (i + 1) tail)
pass_goes m N n j i tail p h few young =
    let r = frame_there N n j i tail p h in
    let g = r.0 in
    let t = length g.notes in
    let note = met_note m t g (plain_slave p t) in
    let can : may_pass (length p.slaves) (all_progress p.slots) (option_map progress_of (frame_at p j)) ≡ true
    = ap (λ (k : ℕ). may_pass k (all_progress p.slots) (option_map progress_of (frame_at p j))) h.count
    ∙ (ap (λ (os : Slots). may_pass N os (option_map progress_of (frame_at p j))) h.slots
    ∙ (ap (λ o. may_pass N (empty j ++ (Some (at_way n j i) ∷ tail)) (option_map progress_of o)) r.1.0
    ∙ (ap (λ (f : Progress). may_pass N (empty j ++ (Some (at_way n j i) ∷ tail)) (Some f)) r.1.1 ∙ may_go N n j i tail few young))) in
    let on : progress_of (with_note g note) ≡ at_way n j (i + 1)
    = ap (λ (k : ℕ). record { number = g.number; part = g.part; passed = k }) (length_push g.notes note)
    ∙ ap (λ (f : Progress). record { number = f.number; part = f.part; passed = f.passed + 1 }) r.1.1 in
    let slots : all_progress (moved m p j g).slots ≡ empty j ++ (Some (at_way n j (i + 1)) ∷ tail)
    = map-set (λ o. option_map progress_of o) p.slots j (Some (with_note g note))
    ∙ (ap (λ (os : Slots). set os j (Some (progress_of (with_note g note)))) h.slots
    ∙ (set_gap j (Some (at_way n j i)) (Some (progress_of (with_note g note))) tail
    ∙ ap (λ (f : Progress). empty j ++ (Some f ∷ tail)) on)) in
    record {
      next = moved m p j g;
      made = if_true _ _ _ can ∙ ap (option_map (moved m p j)) r.1.0;
      after = search (h, slots, length-set p.slaves t (met_slave m t g (plain_slave p t)) ∙ h.count);
    }

return_goes : (m : Meaning) (N n j count z : ℕ) (p : Plain) → Going N n j N (fresh n (j + 1) count ++ empty z) p → Goes m p (Return j) (Between N n (j + 1) count z)
return_goes m N n j count z p h =
    let tail = fresh n (j + 1) count ++ empty z in
    let r = frame_there N n j N tail p h in
    let g = r.0 in
    let can : may_return (length p.slaves) (option_map progress_of (frame_at p j)) ≡ true
    = ap (λ o. may_return (length p.slaves) (option_map progress_of o)) r.1.0
    ∙ (ap (λ (f : Progress). may_return (length p.slaves) (Some f)) r.1.1 ∙ eq-eqb N (length p.slaves) (sym h.count)) in
    record {
      next = record p { cycle = option_map (keeping g) p.cycle; slots = set p.slots j None };
      made = if_true _ _ _ can ∙ ap (option_map (λ f. record p { cycle = option_map (keeping f) p.cycle; slots = set p.slots j None })) r.1.0;
      after = record {
        slots = map-set (λ o. option_map progress_of o) p.slots j None ∙ (ap (λ (os : Slots). set os j None) h.slots ∙ (set_gap j (Some (at_way n j N)) None tail ∙ gap_more j tail));
        cycle = keeping g h.cycle;
        is_open = ap (option_map (keeping g)) h.is_open;
        number_is = keeping_number g h.cycle ∙ h.number_is;
        count_is = h.count;
      };
    }

-- ---- runs

pub run_made : (m : Meaning) (p : Plain) (xs ys : List Event) → (run m p (xs ++ ys)).made ≡ (run m p xs).made + (run m (run m p xs).plain ys).made
run_made m p [] ys = let z : (k : ℕ) → k ≡ 0 + k = λ k. omega arith in z (run m p ys).made
run_made m p (x ∷ xs) ys = let e = run_made m (unwrap_or (step m p x) p) xs ys in omega (arith, e)

-- all of these events are made
pub record AllMade (m : Meaning) (p : Plain) (es : List Event) (Then : Plain → Type 0) : Type 0 where
  pub made : (run m p es).made ≡ length es
  pub after : Then (run m p es).plain

pub first_made : (m : Meaning) (p : Plain) (e : Event) (es : List Event) (R Then : Plain → Type 0) (g : Goes m p e R) → AllMade m g.next es Then → AllMade m p (e ∷ es) Then
first_made m p e es R Then g a =
    let one : unwrap_or (step m p e) p ≡ g.next = ap (λ o. unwrap_or o p) g.made in
    let yes : ◌≡◌ {A = ℕ} (if is_some (step m p e) then 1 else 0) 1 = ap (λ o. if is_some o then 1 else 0) g.made in
    let rest : (run m (unwrap_or (step m p e) p) es).made ≡ length es = ap (λ (x : Plain). (run m x es).made) one ∙ a.made in
    record { made = omega (arith, yes, rest); after = subst (λ (x : Plain). Then (run m x es).plain) (sym one) a.after }

pub both_made : (m : Meaning) (p : Plain) (xs ys : List Event) (R Then : Plain → Type 0) (a : AllMade m p xs R) → AllMade m (run m p xs).plain ys Then → AllMade m p (xs ++ ys) Then
both_made m p xs ys R Then a b =
    record { made = omega (arith, run_made m p xs ys, length-append xs ys, a.made, b.made); after = subst Then (sym (run_joins m p xs ys)) b.after }

passes_go : (m : Meaning) (N n j count z : ℕ) (d i : ℕ) (p : Plain) → i + d ≡ N → Going N n j i (fresh n (j + 1) count ++ empty z) p → AllMade m p (replicate d (Pass j)) (Going N n j N (fresh n (j + 1) count ++ empty z))
passes_go m N n j count z zero i p e h = record { made = refl; after = subst (λ (k : ℕ). Going N n j k (fresh n (j + 1) count ++ empty z) p) (omega (arith, e)) h }
passes_go m N n j count z (suc d) i p e h =
    let g = pass_goes m N n j i (fresh n (j + 1) count ++ empty z) p h (omega (arith, e)) (lets_fresh n j i (j + 1) count z (omega arith)) in
    first_made m p (Pass j) (replicate d (Pass j)) (Going N n j (i + 1) (fresh n (j + 1) count ++ empty z)) (Going N n j N (fresh n (j + 1) count ++ empty z)) g
    (passes_go m N n j count z d (i + 1) g.next (omega (arith, e)) g.after)

round_goes : (m : Meaning) (N n j count z : ℕ) (p : Plain) → Between N n j (suc count) z p → AllMade m p (round_of N j) (Between N n (j + 1) count z)
round_goes m N n j count z p h =
    let tail = fresh n (j + 1) count ++ empty z in
    let begin : Going N n j 0 tail p = record { slots = h.slots; cycle = h.cycle; is_open = h.is_open; number_is = h.number_is; count = h.count_is } in
    let a = passes_go m N n j count z N 0 p (omega arith) begin in
    let r = return_goes m N n j count z (run m p (replicate N (Pass j))).plain a.after in
    both_made m p (replicate N (Pass j)) (Return j ∷ []) (Going N n j N tail) (Between N n (j + 1) count z) a
    (first_made m (run m p (replicate N (Pass j))).plain (Return j) [] (Between N n (j + 1) count z) (Between N n (j + 1) count z) r (record { made = refl; after = r.after }))

pub rounds_go : (m : Meaning) (N n z : ℕ) (count j : ℕ) (p : Plain) → Between N n j count z p → AllMade m p (rounds_of N j count) (Between N n (j + count) 0 z)
rounds_go m N n z zero j p h = record { made = refl; after = subst (λ (k : ℕ). Between N n k 0 z p) (omega arith) h }
rounds_go m N n z (suc count) j p h =
    let a = round_goes m N n j count z p h in
    let q = (run m p (round_of N j)).plain in
    let b = rounds_go m N n z count (j + 1) q a.after in
    let same : j + 1 + count ≡ j + suc count = omega arith in
    both_made m p (round_of N j) (rounds_of N (j + 1) count) (Between N n (j + 1) count z) (Between N n (j + suc count) 0 z) a
    (record { made = b.made; after = subst (λ (k : ℕ). Between N n k 0 z (run m q (rounds_of N (j + 1) count)).plain) same b.after })

-- ---- the beginning

pub filled_fresh : (n k z y : ℕ) (image us : List ℕ) (os : List (Option PlainFrame)) → os ≡ replicate y None → y ≡ length us + z → all_progress (filled (new_frames n image k us) os) ≡ fresh n k (length us) ++ empty z
filled_fresh n k z y image us os is size = ap (λ xs. all_progress (filled (new_frames n image k us) xs)) is ∙ go k us y size
  where
    empty_map : (x : ℕ) → (let none : Option PlainFrame = None in all_progress (replicate x none)) ≡ empty x
    empty_map zero = refl
    empty_map (suc x) = ap (λ (xs : Slots). None ∷ xs) (empty_map x)

    go : (k : ℕ) (us : List ℕ) (x : ℕ) → x ≡ length us + z → (let none : Option PlainFrame = None in all_progress (filled (new_frames n image k us) (replicate x none))) ≡ fresh n k (length us) ++ empty z
    go k [] x e = let same : x ≡ z = omega (arith, e) in ap (λ (os : List (Option PlainFrame)). all_progress os) (filled-none (replicate x None)) ∙ (empty_map x ∙ ap empty same)
    go k (u ∷ us) zero e = absurd (omega (arith, e))
    go k (u ∷ us) (suc x) e = ap (λ (xs : Slots). Some (at_way n k 0) ∷ xs) (go (k + 1) us x (omega (arith, e)))

-- ---- its events disturb nothing

abbrev pub is_round : Event → Bool
is_round (Pass k) = true
is_round (Return k) = true
is_round e = false

passes_round : (n k : ℕ) → list_all is_round (replicate n (Pass k)) ≡ true
passes_round zero k = refl
passes_round (suc n) k = passes_round n k

pub rounds_round : (n k count : ℕ) → list_all is_round (rounds_of n k count) ≡ true
rounds_round n k zero = refl
rounds_round n k (suc count) = list_all-append is_round (round_of n k) (rounds_of n (k + 1) count)
    ∙ and_from (list_all is_round (round_of n k)) _ (list_all-append is_round (replicate n (Pass k)) (Return k ∷ []) ∙ and_from _ _ (passes_round n k) refl) (rounds_round n (k + 1) count)

pub round_there : (xs ys : List Event) (e : Event) → list_all is_round (xs ++ (e ∷ ys)) ≡ true → (list_all is_round xs ≡ true) × (is_round e ≡ true)
round_there xs ys e h =
    let b = and_parts (list_all is_round xs) (list_all is_round (e ∷ ys)) (sym (list_all-append is_round xs (e ∷ ys)) ∙ h) in
    (b.0, (and_parts (is_round e) (list_all is_round ys) b.1).0)
