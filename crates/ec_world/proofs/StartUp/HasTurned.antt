-- Turns of a start-up that nothing disturbs, in any order of the slaves' firmware steps behind the frame.
use Rattle.ec_world.proofs.Words.{ℕ, zero, suc, ◌+◌, ◌<◌, ◌≡◌, nat_lt, Bool, true, false, if◌then◌else◌, None, refl, sym, ◌∙◌, ap, subst, arith, List, [], ◌∷◌, ◌++◌, length, get_or, set, map, replicate, length-set, ◌-◌, ◌≤◌, cond, take, Option, Some, is_none, option_map, position, lt-ltb, true≢false, le-ltb, ltb-true, ltb-false, length-replicate, Datagram, IsDatagram, SlaveState, slave_met, datagram_met, served, MasterState, datagram_of, StartState, action_of, sending, taken, Carried, all_passed, all_met, BringupRising as Rising, turned, Event, StartNext, Pass, Return, Serve, WorldState, no_slave, slave_of, ready_with, IsStep, with_slave, can_happen, Flight, flight_progress, flights_progress, IsRun, IsRest, NewWorldPasses as Passes, NewWorldReturns as Returns, Serves, Ends, IsTurn, rising_of, count_by, fold, position_or_len, Progress, nones, AreInUse, clearance_behind, length-append, length_push, append_assoc, append-nil, nones-all, all_none}
use Rattle.ec_world.proofs.StartUp.TurnEvents.{InSlot, one-past, send-one, return-one, Sending, rising-by}
use Rattle.ec_world.proofs.SlotLaws.Filled.{nones_counted}

-- ---- the slaves that the frame has passed: those that are marked have served since

abbrev mixed : List Bool → List SlaveState → List SlaveState
mixed [] ss = []
mixed (b ∷ bs) [] = []
mixed (b ∷ bs) (s ∷ ss) = (if b then served s else s) ∷ mixed bs ss

mixed_length : (bs : List Bool) (ss : List SlaveState) → length bs ≡ length ss → length (mixed bs ss) ≡ length ss
mixed_length [] [] e = refl
mixed_length (b ∷ bs) (s ∷ ss) e = ap (λ (n : ℕ). suc n) (mixed_length bs ss (omega (arith, e)))
mixed_length _ _ e = absurd (omega (arith, e))

mixed_push : (bs : List Bool) (ss : List SlaveState) (s : SlaveState) → length bs ≡ length ss → mixed (bs ++ (false ∷ [])) (ss ++ (s ∷ [])) ≡ mixed bs ss ++ (s ∷ [])
mixed_push [] [] s e = refl
mixed_push (b ∷ bs) (x ∷ ss) s e = ap (λ (xs : List SlaveState). (if b then served x else x) ∷ xs) (mixed_push bs ss s (omega (arith, e)))
mixed_push _ _ s e = absurd (omega (arith, e))

mixed_all : (ss : List SlaveState) → mixed (replicate (length ss) true) ss ≡ map served ss
mixed_all [] = refl
mixed_all (s ∷ ss) = ap (λ (xs : List SlaveState). served s ∷ xs) (mixed_all ss)

marked_below : (bs : List Bool) (s : ℕ) → get_or bs s true ≡ false → s < length bs
marked_below [] s h = absurd (true≢false h)
marked_below (b ∷ bs) zero h = omega arith
marked_below (b ∷ bs) (suc s) h = let l = marked_below bs s h in omega (arith, l)

mixed_set : (bs : List Bool) (ss tail : List SlaveState) (s : ℕ) → length bs ≡ length ss → get_or bs s true ≡ false
    → set (mixed bs ss ++ tail) s (served (get_or (mixed bs ss ++ tail) s no_slave)) ≡ mixed (set bs s true) ss ++ tail
mixed_set [] ss tail s e h = absurd (true≢false h)
mixed_set (b ∷ bs) [] tail s e h = absurd (omega (arith, e))
mixed_set (false ∷ bs) (x ∷ ss) tail zero e h = refl
mixed_set (true ∷ bs) (x ∷ ss) tail zero e h = absurd (true≢false h)
mixed_set (b ∷ bs) (x ∷ ss) tail (suc s) e h = ap (λ (xs : List SlaveState). (if b then served x else x) ∷ xs) (mixed_set bs ss tail s (omega (arith, e)) h)

-- ---- events as far as they can be made

abbrev pub Onward : Bool → Type 0 → Type 0 → Type 0
Onward true x y = x
Onward false x y = y

-- `all` says whether each was made; it ends at the first that wasn't
abbrev pub Goes : List Event → WorldState → WorldState → Bool → Type 0
Goes [] old new all = (new ≡ old) × (all ≡ true)
Goes (e ∷ es) old new all = (mid : WorldState) × (one : Bool) × IsStep old e mid one × Onward one (Goes es mid new all) ((new ≡ mid) × (all ≡ false))

pub onward : {X : Type 0} (Y : Type 0) (one : Bool) → one ≡ true → Onward one X Y → X
onward Y true e h = h
onward Y false e h = absurd (true≢false (sym e))

-- a run is one such, if each was
record RunGoes (es : List Event) (w v : WorldState) (made : ℕ) : Type 0 where
  new : WorldState
  all : Bool
  goes : Goes es w new all
  whole : all ≡ true → (new ≡ v) × (made ≡ length es)

more_goes : (e : Event) (es : List Event) (w mid v : WorldState) (one : Bool) (rest made : ℕ) → IsStep w e mid one → made ≡ (if one then 1 else 0) + rest → RunGoes es mid v rest → RunGoes (e ∷ es) w v made
more_goes e es w mid v true rest made step sum r =
    record { new = r.new; all = r.all; goes = (mid, true, step, r.goes); whole = λ a. ((r.whole a).0, let n = (r.whole a).1 in omega (arith, sum, n)) }
more_goes e es w mid v false rest made step sum r = record { new = mid; all = false; goes = (mid, false, step, (refl, refl)); whole = λ a. absurd (true≢false (sym a)) }

run_goes : (es : List Event) (w v : WorldState) (made : ℕ) → IsRun w es v made → RunGoes es w v made
run_goes [] w v made h = record { new = v; all = true; goes = (h.0, refl); whole = λ a. (refl, h.1) }
run_goes (e ∷ es) w v made h = more_goes e es w h.0 v h.1 h.2 made h.3 h.5 (run_goes es h.0 v h.2 h.4)

-- ---- a firmware step

record OneServed (m : WorldState) (s : ℕ) (u : WorldState) (one : Bool) : Type 0 where
  made : one ≡ true
  is : u ≡ with_slave m s (served (slave_of m s))

one_served : (m : WorldState) (s : ℕ) (u : WorldState) (one : Bool) (marks : List Bool) (pre tail : List SlaveState) → length marks ≡ length pre → get_or marks s true ≡ false
    → m.slaves ≡ mixed marks pre ++ tail → IsStep m (Serve s) u one → OneServed m s u one
one_served m s u one marks pre tail many free slaves step =
    let inside : s < length (mixed marks pre ++ tail) = omega (arith, marked_below marks s free, mixed_length marks pre many, length-append (mixed marks pre) tail, many) in
    let can : can_happen m (Serve s) ≡ true = ap (λ (xs : List SlaveState). nat_lt s (length xs)) slaves ∙ lt-ltb s (length (mixed marks pre ++ tail)) inside in
    record { made = step.can ∙ can; is = step.happens (step.can ∙ can) }

now_served : (m : WorldState) (s : ℕ) (marks : List Bool) (pre tail : List SlaveState) → length marks ≡ length pre → get_or marks s true ≡ false
    → m.slaves ≡ mixed marks pre ++ tail → (with_slave m s (served (slave_of m s))).slaves ≡ mixed (set marks s true) pre ++ tail
now_served m s marks pre tail many free slaves = ap (λ (xs : List SlaveState). set xs s (served (get_or xs s no_slave))) slaves ∙ mixed_set marks pre tail s many free

-- ---- a turn

-- its datagram as it is sent
abbrev first : StartState → Datagram
first s = datagram_of (action_of s) s.next

-- the frame, of a start-up in this state, has passed some slaves
record Under (n : ℕ) (w : WorldState) (s : StartState) (m : WorldState) (marks : List Bool) (pre tail : List SlaveState) (d : Datagram) : Type 0 where
  start : m.start ≡ sending s
  marked : length marks ≡ length pre
  slaves : m.slaves ≡ mixed marks pre ++ tail
  slot : InSlot n m (record { number = s.next; passed = length pre; datagram = d })
  ends : all_passed tail d ≡ all_passed w.slaves (first s)
  met : pre ++ all_met tail d ≡ all_met w.slaves (first s)
  many : length pre + length tail ≡ length w.slaves
  master : m.master ≡ w.master

-- and it is back
record Back (n : ℕ) (w : WorldState) (s : StartState) (m : WorldState) (marks : List Bool) (pre : List SlaveState) : Type 0 where
  start : m.start ≡ taken (sending s) (all_passed w.slaves (first s))
  marked : length marks ≡ length pre
  slaves : m.slaves ≡ mixed marks pre ++ []
  met : pre ≡ all_met w.slaves (first s)
  slots : m.slots ≡ None ∷ replicate n None
  master : m.master ≡ ready_with w.master m.start

pub record HasTurned (n : ℕ) (w : WorldState) (s : StartState) (v : WorldState) : Type 0 where
  pub is : (let r : Rising = record { start = s; slaves = w.slaves } in rising_of v ≡ turned r)
  pub slots : v.slots ≡ None ∷ replicate n None
  pub master : v.master ≡ ready_with w.master v.start

-- what an event that is made leads to
next : (e : Event) (es : List Event) (m v : WorldState) (all : Bool) (h : Goes (e ∷ es) m v all) → h.1 ≡ true → Goes es h.0 v all
next e es m v all h made = onward ((v ≡ h.0) × (all ≡ false)) h.1 made h.3

back_goes : (n : ℕ) (w : WorldState) (s : StartState) (m v : WorldState) (marks : List Bool) (back : Bool) (pre : List SlaveState) (es : List Event) (all : Bool)
    → IsRest (length w.slaves) marks back es → back ≡ true → Back n w s m marks pre → Goes es m v all → (all ≡ true) × HasTurned n w s v
back_goes n w s m v marks back pre es all (Serves ms bk k xs free rest) e b h =
    let o = one_served m k h.0 h.1 marks pre [] b.marked free b.slaves h.2 in
    back_goes n w s h.0 v (set marks k true) back pre xs all rest e (subst (λ (x : WorldState). Back n w s x (set marks k true) pre) (sym o.is)
    (assumption (length-set marks k true ∙ b.marked, now_served m k marks pre [] b.marked free b.slaves))) (next (Serve k) xs m v all h o.made)
back_goes n w s m v marks back pre es all (Ends ms served_all) e b h =
    let long : length w.slaves ≡ length pre = sym (length-replicate {A = Bool} (length w.slaves) true) ∙ (ap (λ (xs : List Bool). length xs) (sym served_all) ∙ b.marked) in
    let full : marks ≡ replicate (length pre) true = served_all ∙ ap (λ (k : ℕ). replicate k true) long in (
      h.1,
      record {
        is = rising-by v.start (taken (sending s) (all_passed w.slaves (first s))) v.slaves (map served (all_met w.slaves (first s)))
            (ap (λ (x : WorldState). x.start) h.0 ∙ b.start)
            (ap (λ (x : WorldState). x.slaves) h.0
            ∙ (b.slaves ∙ (append-nil (mixed marks pre) ∙ (ap (λ (bs : List Bool). mixed bs pre) full ∙ (mixed_all pre ∙ ap (λ (xs : List SlaveState). map served xs) b.met)))));
        slots = ap (λ (x : WorldState). x.slots) h.0 ∙ b.slots;
        master = ap (λ (x : WorldState). x.master) h.0 ∙ (b.master ∙ ap (λ (x : WorldState). ready_with w.master x.start) (sym h.0));
      },
    )
back_goes n w s m v marks back pre es all _ e b h = absurd (true≢false (sym e))

-- the frame comes back, past no slave more
comes_back : (n : ℕ) (w : WorldState) (s : StartState) (m u : WorldState) (one : Bool) (marks : List Bool) (pre tail : List SlaveState) (d : Datagram) → length marks ≡ length w.slaves
    → IsDatagram (first s) → Under n w s m marks pre tail d → IsStep m (Return 0) u one → (one ≡ true) × Back n w s u marks pre
comes_back n w s m u one marks pre (t ∷ tail) d l good b step = absurd (let a = b.marked in let c = b.many in omega (arith, a, c, l))
comes_back n w s m u one marks pre [] d l good b step =
    let long : length pre ≡ length m.slaves
    = sym (mixed_length marks pre b.marked) ∙ ap (λ (xs : List SlaveState). length xs) (sym (append-nil (mixed marks pre)) ∙ sym b.slaves) in
    let slot : InSlot n m (record { number = s.next; passed = length pre; datagram = all_passed w.slaves (first s) })
    = subst (λ (x : Datagram). InSlot n m (record { number = s.next; passed = length pre; datagram = x })) b.ends b.slot in
    let o = return-one n m s w.slaves (length pre) u one slot long b.start good step in
    (o.made, assumption (o.slaves ∙ b.slaves, sym (append-nil pre) ∙ b.met, o.master ∙ ap (λ (x : MasterState). ready_with x u.start) b.master, o, b.marked))

-- the frame passes one slave more
record HasGoneOn (n : ℕ) (w : WorldState) (s : StartState) (u : WorldState) (one : Bool) (marks : List Bool) : Type 0 where
  made : one ≡ true
  pre : List SlaveState
  tail : List SlaveState
  d : Datagram
  under : Under n w s u marks pre tail d

goes_on : (n : ℕ) (w : WorldState) (s : StartState) (m u : WorldState) (one : Bool) (marks : List Bool) (pre tail : List SlaveState) (d : Datagram) → length marks < length w.slaves
    → Under n w s m marks pre tail d → IsStep m (Pass 0) u one → HasGoneOn n w s u one (marks ++ (false ∷ []))
goes_on n w s m u one marks pre [] d l b step = absurd (let a = b.marked in let c = b.many in omega (arith, a, c, l))
goes_on n w s m u one marks pre (t ∷ tail) d l b step =
    let c : Carried = record { number = s.next; passed = length pre; datagram = d } in
    let o = one-past n m c (mixed marks pre) t tail u one b.slot (sym (mixed_length marks pre b.marked)) b.slaves step in
    let t2 : SlaveState = slave_met t d in
    let z : length pre + 1 ≡ length (pre ++ (t2 ∷ [])) = sym (length_push pre t2) in
    record {
      made = o.made;
      pre = pre ++ (t2 ∷ []);
      tail = tail;
      d = datagram_met t d;
      under = record {
        start = o.start ∙ b.start;
        marked = length_push marks false ∙ (ap (λ (k : ℕ). k + 1) b.marked ∙ z);
        slaves = o.slaves ∙ (sym (append_assoc (mixed marks pre) (t2 ∷ []) tail) ∙ ap (λ (xs : List SlaveState). xs ++ tail) (sym (mixed_push marks pre t2 b.marked)));
        slot = subst (λ (k : ℕ). InSlot n u (record { number = s.next; passed = k; datagram = datagram_met t d })) z o.slot;
        ends = b.ends;
        met = append_assoc pre (t2 ∷ []) (all_met tail (datagram_met t d)) ∙ b.met;
        many = let e = b.many in omega (arith, e, z);
        master = o.master ∙ b.master;
      };
    }

under_goes : (n : ℕ) (w : WorldState) (s : StartState) (m v : WorldState) (marks : List Bool) (back : Bool) (pre tail : List SlaveState) (d : Datagram) (es : List Event) (all : Bool)
    → IsDatagram (first s) → IsRest (length w.slaves) marks back es → back ≡ false → Under n w s m marks pre tail d → Goes es m v all → (all ≡ true) × HasTurned n w s v
under_goes n w s m v marks back pre tail d es all good (Passes ms xs l rest) e b h =
    let o = goes_on n w s m h.0 h.1 marks pre tail d l b h.2 in
    under_goes n w s h.0 v (marks ++ (false ∷ [])) false o.pre o.tail o.d xs all good rest refl o.under (next (Pass 0) xs m v all h o.made)
under_goes n w s m v marks back pre tail d es all good (Returns ms xs l rest) e b h =
    let o = comes_back n w s m h.0 h.1 marks pre tail d l good b h.2 in
    back_goes n w s h.0 v marks true pre xs all rest refl o.1 (next (Return 0) xs m v all h o.0)
under_goes n w s m v marks back pre tail d es all good (Serves ms bk k xs free rest) e b h =
    let o = one_served m k h.0 h.1 marks pre tail b.marked free b.slaves h.2 in
    let slot : InSlot n (with_slave m k (served (slave_of m k))) (record { number = s.next; passed = length pre; datagram = d }) = record { bytes = b.slot.bytes; slots = b.slot.slots; carried = b.slot.carried } in
    under_goes n w s h.0 v (set marks k true) back pre tail d xs all good rest e (subst (λ (x : WorldState). Under n w s x (set marks k true) pre tail d) (sym o.is)
    (assumption (length-set marks k true ∙ b.marked, now_served m k marks pre tail b.marked free b.slaves, slot))) (next (Serve k) xs m v all h o.made)
under_goes n w s m v marks back pre tail d es all good (Ends ms served_all) e b h = absurd (true≢false e)

-- from a world that can send the first frame of such a state
pub turn_goes : (n : ℕ) (w : WorldState) (s : StartState) (es : List Event) (v : WorldState) (all : Bool) → Sending w s → w.slots ≡ None ∷ replicate n None
    → IsTurn (length w.slaves) es → Goes es w v all → (all ≡ true) × HasTurned n w s v
turn_goes n w s es v all can free turn h = go (subst (λ (xs : List Event). Goes xs w v all) turn.sends h)
  where
    go : Goes (StartNext ∷ turn.rest) w v all → (all ≡ true) × HasTurned n w s v
    go k =
        let o = send-one n w k.0 k.1 s can free k.2 in
        let many : 0 + length w.slaves ≡ length w.slaves = omega arith in
        under_goes n w s k.0 v [] false [] w.slaves (first s) turn.rest all o.good turn.goes refl (assumption (o, many)) (next StartNext turn.rest w v all k o.made)

-- the same of a run
pub turns_once : (n : ℕ) (w : WorldState) (s : StartState) (es : List Event) (v : WorldState) (made : ℕ) → Sending w s → w.slots ≡ None ∷ replicate n None
    → IsTurn (length w.slaves) es → IsRun w es v made → (made ≡ length es) × HasTurned n w s v
turns_once n w s es v made can free turn h =
    let r = run_goes es w v made h in
    let o = turn_goes n w s es r.new r.all can free turn r.goes in
    ((r.whole o.0).1, subst (λ (x : WorldState). HasTurned n w s x) (r.whole o.0).0 o.1)

-- ---- slots of which all from some number on are free: what the first ones do decides what all do

abbrev Slot : Type 0
Slot = Option Flight

-- ---- how many are free

all_free : (xs : List Slot) → ((i : ℕ) → get_or xs i None ≡ None) → nones xs ≡ length xs
all_free xs free = ap (λ (ys : List Slot). nones ys) (all_none xs free) ∙ nones-all Flight (length xs)

count_first : (k : ℕ) (xs : List Slot) → k ≤ length xs → ((i : ℕ) → k ≤ i → get_or xs i None ≡ None) → nones xs ≡ (length xs - k) + nones (take k xs)
count_first zero xs le free = let e = all_free xs (λ i. free i (omega arith)) in omega (arith, e)
count_first (suc k) [] le free = absurd (omega arith)
count_first (suc k) (None ∷ xs) le free = let e = count_first k xs (omega arith) (λ i l. free (suc i) (omega arith)) in omega (arith, e)
count_first (suc k) (Some f ∷ xs) le free = let e = count_first k xs (omega arith) (λ i l. free (suc i) (omega arith)) in omega (arith, e)

pub free_counted : (xs us : List Slot) → AreInUse xs us → (length xs - length us) + count_by (λ o. is_none o) us ≡ count_by (λ o. is_none o) xs
free_counted xs us h =
    ap (λ (n : ℕ). (length xs - length us) + n) (sym (nones_counted us) ∙ ap (λ (ys : List Slot). nones ys) h.is)
    ∙ (sym (count_first (length us) xs h.behind.within h.behind.free) ∙ nones_counted xs)

-- ---- the way behind the frames

rest_free : (f : Progress) (xs : List Slot) (far : ℕ) → ((i : ℕ) → get_or xs i None ≡ None) → far ≡ fold (clearance_behind f) far (flights_progress xs)
rest_free f [] far free = refl
rest_free f (None ∷ xs) far free = rest_free f xs far (λ i. free (suc i))
rest_free f (Some g ∷ xs) far free = absurd (let e : Some g ≡ None = free 0 in cc)

first_behind : (f : Progress) (k : ℕ) (xs : List Slot) (far : ℕ) → ((i : ℕ) → k ≤ i → get_or xs i None ≡ None)
    → fold (clearance_behind f) far (flights_progress (take k xs)) ≡ fold (clearance_behind f) far (flights_progress xs)
first_behind f zero xs far free = rest_free f xs far (λ i. free i (omega arith))
first_behind f (suc k) [] far free = refl
first_behind f (suc k) (o ∷ xs) far free = first_behind f k xs (clearance_behind f far (option_map flight_progress o)) (λ i l. free (suc i) (omega arith))

pub behind_in_use : (f : Progress) (far : ℕ) (xs us : List Slot) → AreInUse xs us → fold (clearance_behind f) far (flights_progress us) ≡ fold (clearance_behind f) far (flights_progress xs)
behind_in_use f far xs us h =
    ap (λ (ys : List Slot). fold (clearance_behind f) far (flights_progress ys)) h.is ∙ first_behind f (length us) xs far h.behind.free

-- ---- the lowest free one

place_first : (k : ℕ) (xs : List Slot) → k ≤ length xs → ((i : ℕ) → k ≤ i → get_or xs i None ≡ None) → position_or_len (λ o. is_none o) xs ≡ position_or_len (λ o. is_none o) (take k xs)
place_first zero (Some f ∷ xs) le free = absurd (let e : Some f ≡ None = free 0 (omega arith) in cc)
place_first (suc k) [] le free = absurd (omega arith)
place_first (suc k) (Some f ∷ xs) le free = ap (λ (n : ℕ). 1 + n) (place_first k xs (omega arith) (λ i l. free (suc i) (omega arith)))
place_first _ _ le free = refl

place_most : (xs : List Slot) → position_or_len (λ o. is_none o) xs ≤ length xs
place_most (Some f ∷ xs) = omega (arith, place_most xs)
place_most _ = omega arith

at_place : (q n : ℕ) → q < n → cond (nat_lt q n) (Some q) None ≡ Some q
at_place q n l = ap (λ (b : Bool). cond b (Some q) None) (lt-ltb q n l)

pub lowest_found : (xs us : List Slot) (j : ℕ) → AreInUse xs us → Some j ≡ position (λ o. is_none o) us → Some j ≡ position (λ o. is_none o) xs
lowest_found xs us j h e = go (nat_lt (position_or_len (λ o. is_none o) us) (length us)) refl e
  where
    same : position_or_len (λ o. is_none o) xs ≡ position_or_len (λ o. is_none o) us
    same = place_first (length us) xs h.behind.within h.behind.free ∙ ap (λ (ys : List Slot). position_or_len (λ o. is_none o) ys) (sym h.is)

    go : (b : Bool) → nat_lt (position_or_len (λ o. is_none o) us) (length us) ≡ b → Some j ≡ cond b (Some (position_or_len (λ o. is_none o) us)) None → Some j ≡ position (λ o. is_none o) xs
    go false q f = absurd (let z : Some j ≡ None = f in cc)
    go true q f =
        let l = ltb-true (position_or_len (λ o. is_none o) us) (length us) q in
        f ∙ (ap (λ (n : ℕ). Some n) (sym same) ∙ sym (at_place (position_or_len (λ o. is_none o) xs) (length xs) (omega (arith, l, same, h.behind.within))))

-- the first ones are all taken
place_behind : (xs us : List Slot) → AreInUse xs us → None ≡ position (λ o. is_none o) us → position_or_len (λ o. is_none o) xs ≡ length us
place_behind xs us h e = go (nat_lt (position_or_len (λ o. is_none o) us) (length us)) refl e
  where
    same : position_or_len (λ o. is_none o) xs ≡ position_or_len (λ o. is_none o) us
    same = place_first (length us) xs h.behind.within h.behind.free ∙ ap (λ (ys : List Slot). position_or_len (λ o. is_none o) ys) (sym h.is)

    go : (b : Bool) → nat_lt (position_or_len (λ o. is_none o) us) (length us) ≡ b → None ≡ cond b (Some (position_or_len (λ o. is_none o) us)) None → position_or_len (λ o. is_none o) xs ≡ length us
    go true q f = absurd (let z : None ≡ Some (position_or_len (λ o. is_none o) us) = f in cc)
    go false q f = let l = ltb-false (position_or_len (λ o. is_none o) us) (length us) q in omega (arith, l, same, place_most us)

pub lowest_behind : (xs us : List Slot) → AreInUse xs us → None ≡ position (λ o. is_none o) us → length us < length xs → Some (length us) ≡ position (λ o. is_none o) xs
lowest_behind xs us h e l =
    let at = place_behind xs us h e in
    ap (λ (n : ℕ). Some n) (sym at) ∙ sym (at_place (position_or_len (λ o. is_none o) xs) (length xs) (omega (arith, at, l)))

pub none_lowest : (xs us : List Slot) → AreInUse xs us → None ≡ position (λ o. is_none o) us → length xs ≤ length us → None ≡ position (λ o. is_none o) xs
none_lowest xs us h e l =
    let at = place_behind xs us h e in
    sym (ap (λ (b : Bool). cond b (Some (position_or_len (λ o. is_none o) xs)) None) (le-ltb (position_or_len (λ o. is_none o) xs) (length xs) (omega (arith, at, l))))
