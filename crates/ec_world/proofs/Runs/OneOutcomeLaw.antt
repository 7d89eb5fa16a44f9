-- A run of a new world has one outcome: its slots hold frames, and of a frame each event makes one thing.
use Rattle.ec_world.proofs.Words.{ℕ, zero, suc, ◌+◌, ◌<◌, ◌≡◌, Bool, true, false, Some, None, refl, sym, ◌∙◌, ap, subst, arith, List, [], ◌∷◌, length, map, get_or, set, slice_get, if◌then◌else◌, false≢true, ext_get_or, Got, Datagram, Payload, IsFrame, SlaveState, output_taken, IsPassedAt, name_datagram, datagram_of, StartState, IsStartTaken, IsOutstanding, action_of, second, sending, shape_sent, report_of, MasterState, OpenCycle, Begun, IsTaken, closed, Event, StartNext, Begin, Pass, Lose, Return, Close, AppPut, AppGet, filled, WorldState, Flight, slave_of, flight_at, flights_from, with_slave, resumed, ready_with, awaits, Happens, Begins, Passes, Returns, StartReturns, GivesUp, Closes, ByStart, IsStep, IsRun, slot_count, OneOutcomeLaw, none_some, some_same, rest_same, none_free}
use Rattle.ec_world.proofs.Runs.SnapshotsLaw.{filled_has, set_has}

-- ---- a frame that comes back

bytes_one : (x y : List ℕ) (p : Payload) → IsFrame x p → IsFrame y p → x ≡ y
bytes_one x y p a b = a.parts ∙ sym b.parts

taken_one : (m : MasterState) (payload : List ℕ) (b c : Bool) (n k : MasterState) → IsTaken m payload b n → IsTaken m payload c k → n ≡ k
taken_one m payload true true n k x y = let a = x.only refl in (x.kept a.cycle a.part a.frame a.answer).1 ∙ sym (y.kept a.cycle a.part a.frame a.answer).1
taken_one m payload true false n k x y = let a = x.only refl in absurd (false≢true (y.kept a.cycle a.part a.frame a.answer).0)
taken_one m payload false true n k x y = let a = y.only refl in absurd (false≢true (x.kept a.cycle a.part a.frame a.answer).0)
taken_one m payload false false n k x y = (x.foreign (λ c j p a. false≢true (x.kept c j p a).0)).1 ∙ sym (y.foreign (λ c j p a. false≢true (y.kept c j p a).0)).1

pub second_there : (ds : List Datagram) (a b : Datagram) → map shape_sent ds ≡ map shape_sent (a ∷ b ∷ []) → (d : Datagram) × (second ds ≡ Some d)
second_there [] a b e = absurd (cc e)
second_there (d ∷ []) a b e = absurd (cc (rest_same _ _ _ _ e))
second_there (d ∷ x ∷ ds) a b e = (x, refl)

start_taken_one : (s : StartState) (payload : List ℕ) (b c : Bool) (n k : StartState) → IsStartTaken s payload b n → IsStartTaken s payload c k → n ≡ k
start_taken_one s payload false false n k x y = x.foreign refl ∙ sym (y.foreign refl)
start_taken_one s payload true false n k x y = let o = x.only refl in absurd (false≢true ((y.answers o.number o.frame o.sent o.spelled).1 o.answer))
start_taken_one s payload false true n k x y = let o = y.only refl in absurd (false≢true ((x.answers o.number o.frame o.sent o.spelled).1 o.answer))
start_taken_one s payload true true n k x y =
    let o : IsOutstanding s payload = x.only refl in
    let d = second_there o.frame.datagrams (name_datagram o.number 0) (datagram_of (action_of s) o.number) o.answer.shapes in
    x.kept o.frame d.0 refl o.spelled d.1 ∙ sym (y.kept o.frame d.0 refl o.spelled d.1)

-- ---- slots hold frames

abbrev pub HoldsFrame : Flight → Type 0
HoldsFrame x = (p : Payload) × IsFrame x.bytes p

abbrev pub HoldsFrames : WorldState → Type 0
HoldsFrames w = (k : ℕ) (x : Flight) → flight_at w k ≡ Some x → HoldsFrame x

flights_hold : (number k : ℕ) (bs : List (List ℕ)) → ((i : ℕ) → i < length bs → (p : Payload) × IsFrame (get_or bs i []) p) → (i : ℕ) (x : Flight) → slice_get (flights_from number k bs) i ≡ Some x → HoldsFrame x
flights_hold number k [] each i x e = absurd (none_some x e)
flights_hold number k (b ∷ bs) each zero x e = subst HoldsFrame (some_same _ x e) (each 0 (omega arith))
flights_hold number k (b ∷ bs) each (suc i) x e = flights_hold number (k + 1) bs (λ j l. each (suc j) (omega (arith, l))) i x e

one_holds : (f : Flight) → HoldsFrame f → (i : ℕ) (x : Flight) → slice_get (f ∷ []) i ≡ Some x → HoldsFrame x
one_holds f h zero x e = subst HoldsFrame (some_same f x e) h
one_holds f h (suc i) x e = absurd (none_some x e)

left_holds : (w : WorldState) (k : ℕ) → HoldsFrames w → HoldsFrames (record w { slots = set w.slots k None })
left_holds w k h = set_has HoldsFrame w.slots k None (λ x e. absurd (none_some x e)) h

return_holds : (b : Bool) (old : WorldState) (k : ℕ) (new : WorldState) → ByStart b (StartReturns old k new) (Returns old k new) → HoldsFrames old → HoldsFrames new
return_holds true old k new h all = subst HoldsFrames (sym h.is) (left_holds old k all)
return_holds false old k new h all = subst HoldsFrames (sym h.is) (left_holds old k all)

close_holds : (b : Bool) (old new : WorldState) → ByStart b (GivesUp old new) (Closes old new) → HoldsFrames old → HoldsFrames new
close_holds true old new h all = subst HoldsFrames (sym h) all
close_holds false old new h all = subst HoldsFrames (sym h.is) all

happens_holds : (old : WorldState) (e : Event) (new : WorldState) → Happens old e new → HoldsFrames old → HoldsFrames new
happens_holds old StartNext new h all = subst HoldsFrames (sym h.is) (filled_has HoldsFrame _ old.slots (one_holds _ (_, h.spelled)) all)
happens_holds old Begin new h all =
    let count = h.master.count in
    subst HoldsFrames (sym h.is) (filled_has HoldsFrame _ old.slots (flights_hold old.master.next 0 h.cycle.frames (λ i l. (_, h.master.frames i (omega (arith, l, count))))) all)
happens_holds old (Pass k) new h all =
    let p = all k h.flight h.there in
    subst HoldsFrames (sym h.is) (set_has HoldsFrame old.slots k _ (λ x e. subst HoldsFrame (some_same _ x e) (_, h.passed.frame p.0 p.1)) all)
happens_holds old (Lose k) new h all = subst HoldsFrames (sym h) (left_holds old k all)
happens_holds old (Return k) new h all = return_holds (awaits old.start) old k new h all
happens_holds old Close new h all = close_holds (awaits old.start) old new h all
happens_holds old (AppPut s i x) new h all = subst HoldsFrames (sym h.is) all
happens_holds old (AppGet s i) new h all = subst HoldsFrames (sym h.is) all
happens_holds old _ new h all = subst HoldsFrames (sym h) all

pub step_holds : (old : WorldState) (e : Event) (new : WorldState) (one : Bool) → IsStep old e new one → HoldsFrames old → HoldsFrames new
step_holds old e new true h all = happens_holds old e new (h.happens refl) all
step_holds old e new false h all = subst HoldsFrames (sym (h.refused refl)) all

-- ---- an event makes one thing

begun_frames : (m n k : MasterState) (c d : OpenCycle) → Begun m n c → Begun m k d → c.frames ≡ d.frames
begun_frames m n k c d x y =
    let a = x.count in
    ext_get_or [] c.frames d.frames (omega (arith, a, y.count)) (λ i l. bytes_one _ _ _ (x.frames i (omega (arith, l, a))) (y.frames i (omega (arith, l, a))))

begun_one : (m n k : MasterState) (c d : OpenCycle) → Begun m n c → Begun m k d → n ≡ k
begun_one m n k c d x y =
    let same : c ≡ d = rw (x.number ∙ sym y.number, begun_frames m n k c d x y, x.kept ∙ sym y.kept) refl in
    x.is ∙ (ap (λ (z : OpenCycle). record m { next = m.next + 1; cycle = Some z }) same ∙ sym y.is)

begins_one : (old w v : WorldState) → Begins old w → Begins old v → w ≡ v
begins_one old w v h g =
    let frames = begun_frames old.master w.master v.master h.cycle g.cycle h.master g.master in
    let master : w.master ≡ v.master = begun_one old.master w.master v.master h.cycle g.cycle h.master g.master in
    h.is
    ∙ (ap (λ (m : MasterState). record old { master = m; slots = filled (flights_from old.master.next 0 h.cycle.frames) old.slots }) master
    ∙ (ap (λ (fs : List (List ℕ)). record old { master = v.master; slots = filled (flights_from old.master.next 0 fs) old.slots }) frames
    ∙ sym g.is))

passes_one : (old : WorldState) (k : ℕ) (w v : WorldState) → HoldsFrames old → Passes old k w → Passes old k v → w ≡ v
passes_one old k w v all h g =
    let f : Flight = h.flight in
    let same : g.flight ≡ f = some_same g.flight f (sym g.there ∙ h.there) in
    let passed : IsPassedAt old.slaves f.passed (slave_of old f.passed) f.bytes v.slaves g.bytes = subst (λ (x : Flight). IsPassedAt old.slaves x.passed (slave_of old x.passed) x.bytes v.slaves g.bytes) same g.passed in
    let is : v ≡ record old { slaves = v.slaves; slots = set old.slots k (Some (record f { bytes = g.bytes; passed = f.passed + 1 })) }
    = subst (λ (x : Flight). v ≡ record old { slaves = v.slaves; slots = set old.slots k (Some (record x { bytes = g.bytes; passed = x.passed + 1 })) }) same g.is in
    let p = all k f h.there in
    let slaves : w.slaves ≡ v.slaves = h.passed.slaves p.0 p.1 ∙ sym (passed.slaves p.0 p.1) in
    let bytes : h.bytes ≡ g.bytes = bytes_one h.bytes g.bytes _ (h.passed.frame p.0 p.1) (passed.frame p.0 p.1) in
    h.is
    ∙ (ap (λ (ss : List SlaveState). record old { slaves = ss; slots = set old.slots k (Some (record f { bytes = h.bytes; passed = f.passed + 1 })) }) slaves
    ∙ (ap (λ (bs : List ℕ). record old { slaves = v.slaves; slots = set old.slots k (Some (record f { bytes = bs; passed = f.passed + 1 })) }) bytes
    ∙ sym is))

returns_one : (b : Bool) (old : WorldState) (k : ℕ) (w v : WorldState) → ByStart b (StartReturns old k w) (Returns old k w) → ByStart b (StartReturns old k v) (Returns old k v) → w ≡ v
returns_one true old k w v h g =
    let same : g.flight ≡ h.flight = some_same g.flight h.flight (sym g.there ∙ h.there) in
    let start : w.start ≡ v.start = start_taken_one old.start h.flight.bytes h.is_accepted g.is_accepted w.start v.start h.start (subst (λ (x : Flight). IsStartTaken old.start x.bytes g.is_accepted v.start) same g.start) in
    h.is ∙ (ap (λ (s : StartState). record old { start = s; master = ready_with old.master s; slots = set old.slots k None }) start ∙ sym g.is)
returns_one false old k w v h g =
    let same : g.flight ≡ h.flight = some_same g.flight h.flight (sym g.there ∙ h.there) in
    let master : w.master ≡ v.master = taken_one old.master h.flight.bytes h.is_accepted g.is_accepted w.master v.master h.master (subst (λ (x : Flight). IsTaken old.master x.bytes g.is_accepted v.master) same g.master) in
    h.is ∙ (ap (λ (m : MasterState). record old { master = m; slots = set old.slots k None }) master ∙ sym g.is)

closes_one : (b : Bool) (old w v : WorldState) → ByStart b (GivesUp old w) (Closes old w) → ByStart b (GivesUp old v) (Closes old v) → w ≡ v
closes_one true old w v h g = h ∙ sym g
closes_one false old w v h g =
    let same : h.cycle ≡ g.cycle = some_same h.cycle g.cycle (sym h.is_open ∙ g.is_open) in
    h.is ∙ (ap (λ (c : OpenCycle). record old { master = closed old.master c; report = Some (report_of old.master.plan c.kept) }) same ∙ sym g.is)

happens_one : (old : WorldState) (e : Event) (w v : WorldState) → HoldsFrames old → Happens old e w → Happens old e v → w ≡ v
happens_one old StartNext w v all h g =
    h.is
    ∙ (ap (λ (bs : List ℕ). record old {
      start = sending (resumed old.start old.start.phase);
      slots = filled (record { bytes = bs; number = old.start.next; part = 0; passed = 0 } ∷ []) old.slots;
    }) (bytes_one h.bytes g.bytes _ h.spelled g.spelled) ∙ sym g.is)
happens_one old Begin w v all h g = begins_one old w v h g
happens_one old (Pass k) w v all h g = passes_one old k w v all h g
happens_one old (Return k) w v all h g = returns_one (awaits old.start) old k w v h g
happens_one old Close w v all h g = closes_one (awaits old.start) old w v h g
happens_one old (AppPut s i x) w v all h g = h.is ∙ (ap (λ (q : SlaveState). with_slave old s q) (some_same h.slave g.slave (sym h.put ∙ g.put)) ∙ sym g.is)
happens_one old (AppGet s i) w v all h g =
    h.is ∙ (ap (λ (x : Got). record (with_slave old s (output_taken (slave_of old s) (Some x))) { got = Some x.byte }) (some_same h.got g.got (sym h.read ∙ g.read)) ∙ sym g.is)
happens_one old _ w v all h g = h ∙ sym g

step_one : (old : WorldState) (e : Event) (w v : WorldState) (one : Bool) → HoldsFrames old → IsStep old e w one → IsStep old e v one → w ≡ v
step_one old e w v true all h g = happens_one old e w v all (h.happens refl) (g.happens refl)
step_one old e w v false all h g = h.refused refl ∙ sym (g.refused refl)

run_one : (es : List Event) (old w v : WorldState) (made count : ℕ) → HoldsFrames old → IsRun old es w made → IsRun old es v count → (w ≡ v) × (made ≡ count)
run_one [] old w v made count all h g = (h.0 ∙ sym g.0, h.1 ∙ sym g.1)
run_one (e ∷ es) old w v made count all h g =
    let yes : g.1 ≡ h.1 = g.3.can ∙ sym h.3.can in
    let mid : g.0 ≡ h.0 = step_one old e g.0 h.0 h.1 all (subst (IsStep old e g.0) yes g.3) h.3 in
    let r = run_one es h.0 w v h.2 g.2 (step_holds old e h.0 h.1 h.3 all) h.4 (subst (λ (x : WorldState). IsRun x es v g.2) mid g.4) in
    (r.0, h.5 ∙ (ap (λ (n : ℕ). (if h.1 then 1 else 0) + n) r.1 ∙ (ap (λ (b : Bool). (if b then 1 else 0) + g.2) (sym yes) ∙ sym g.5)))

pub one_outcome : OneOutcomeLaw
one_outcome t ids old n events w v made count h g =
    run_one events old w v made count (subst HoldsFrames (sym n.is) (λ k x e. absurd (none_some x (sym (none_free slot_count k) ∙ e)))) h g
