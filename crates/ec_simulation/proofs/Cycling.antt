-- A `cycle` that nothing disturbs.
use Rattle.std.proofs.Common.{◌≡◌, ◌∙◌, ℕ, zero, suc, ◌+◌, ◌<◌, ◌≤◌, max, List, [], ◌∷◌, ◌++◌, length, get_or, replicate, Bool, true, false, Option, Some, None, is_none, if◌then◌else◌, refl, sym, ap, subst, arith}
use Rattle.std.specs.List.{list_all, slice_get}
use Rattle.std.specs.Prelude.{codes}
use Rattle.std.specs.Fmt.{decimal}
use Rattle.std.proofs.lemmas.Bool.{eq-eqb, and_from}
use Rattle.std.proofs.lemmas.List.{length-map}
use Rattle.std.proofs.lemmas.Option.{get_or_from_slice_get}
use Rattle.ec_table.specs.declared.rows.Version.{Version}
use Rattle.ec_table.specs.declared.rows.Version.TheVariants as version
use Rattle.ec_text.specs.PlanText.{lines_from}
use Rattle.ec_cycle.specs.Closing.{nones, ReturnedPart, ReportState, report_of, unit_taken}
use Rattle.ec_start.specs.Running.{StartState, outcome_of}
use Rattle.ec_start.specs.declared.phase.Phase.{Phase}
use Rattle.ec_start.specs.declared.phase.Phase.TheVariants.{Idle, Sent, Failed, Ready as IsUp}
use Rattle.ec_world.specs.declared.event.Event.{Event}
use Rattle.ec_world.specs.declared.event.Event.TheVariants.{Begin, Pass, Return, Close}
use Rattle.ec_world.specs.Plain.{filled}
use Rattle.ec_world.specs.World.{Flight, WorldState, IsStep, awaits, phase_awaits, phase_ready, flights_from, ByStart, Returns, StartReturns, GivesUp, Closes}
use Rattle.ec_script.specs.declared.line.LineAction.TheVariants as action
use Rattle.ec_script.specs.declared.output.LineOutput.{LineOutput}
use Rattle.ec_script.specs.declared.output.LineOutput.TheVariants as output
use Rattle.ec_simulation.specs.Events.{cycle_events, newest_slots, slots_sent}
use Rattle.ec_simulation.specs.Rounds.{greatest, rounds, rounds_found, slots_with}
use Rattle.ec_script.specs.Outputs.{is_done}
use Rattle.ec_simulation.specs.Work.{Does, MakesAll, RunsCycle, ends, said_of}
use Rattle.ec_simulation.proofs.Goes.{Goes, done_as_made}
use Rattle.ec_simulation.proofs.Readying.{to_world, run_of, ready_law, AllOf, all_both, all_passes, on_done, told_done, last_of}
use Rattle.ec_simulation.proofs.SlotsSent.{none_with, filled_none, cycle_found}
use Rattle.ec_device.specs.declared.slave_type.Identity.{Identity}
use Rattle.ec_table.specs.Contents.{Contents}
use Rattle.ec_link.specs.Plan.{PlanState, plan_of}
use Rattle.ec_link.proofs.Soundness.{plan_sound}
use Rattle.ec_world.specs.Undisturbed.{Rests, IsExchanged, round_of, rounds_of, cycle_of}
use Rattle.ec_world.specs.NewWorld.{IsToStart, frames_to_ready}
use Rattle.ec_world.specs.Whole.{IsNew}
use Rattle.ec_world.proofs.StartUp.NewLaw.{machine_law, new_law, new_next}
use Rattle.ec_world.proofs.Cycles.CycleMade.{cycle_made, free_there}
use Rattle.ec_world.proofs.StartUp.ScriptFits.{script_fits}
use Rattle.ec_world.proofs.Cycles.MissedLaws.{undisturbed_law}
use Rattle.ec_simulation.specs.Promised.{IsReadied, CycleLaw, MachineCycleLaw, ReadyCycleLaw, TakenTextLaw, taken_unit, taken_units}
use Rattle.ec_text.specs.ReportText.{taken_text, unit_at, units_text}
use Rattle.ec_simulation.proofs.Running.{cycle_goes}

-- ---- where the frames of a cycle are, where all slots are free

abbrev none_of : ℕ → List (Option Flight)
none_of n = replicate n None

nones_all : (n : ℕ) → nones (none_of n) ≡ length (none_of n)
nones_all zero = refl
nones_all (suc n) = let e = nones_all n in omega (arith, e)

-- the frames of part k on, in the lowest slots
abbrev sent_from : (number k count n : ℕ) → List (Option Flight)
sent_from number k count n = filled (flights_from number k (replicate count [])) (none_of n)

-- the numbers from j on
abbrev from : (j count : ℕ) → List ℕ
from j zero = []
from j (suc count) = j ∷ from (j + 1) count

greatest_none : (n : ℕ) → greatest (none_of n) ≡ 0
greatest_none zero = refl
greatest_none (suc n) = greatest_none n

greatest_sent : (number k count n : ℕ) → count ≤ n → greatest (sent_from number k count n) ≤ number
greatest_sent number k zero n l = let e = ap (λ (os : List (Option Flight)). greatest os) (filled_none (none_of n)) ∙ greatest_none n in omega (arith, e)
greatest_sent number k (suc count) zero l = absurd (omega (arith, l))
greatest_sent number k (suc count) (suc n) l = let e = greatest_sent number (k + 1) count n (omega (arith, l)) in omega (arith, e)

places_sent : (number k j count n : ℕ) → count ≤ n → slots_with number j (sent_from number k count n) ≡ from j count
places_sent number k j zero n l = ap (λ (os : List (Option Flight)). slots_with number j os) (filled_none (none_of n)) ∙ none_with number j (none_of n) (nones_all n)
places_sent number k j (suc count) zero l = absurd (omega (arith, l))
places_sent number k j (suc count) (suc n) l =
    ap (λ (b : Bool). if b then j ∷ slots_with number (j + 1) (sent_from number (k + 1) count n) else slots_with number (j + 1) (sent_from number (k + 1) count n)) (eq-eqb number number refl)
    ∙ ap (λ (ks : List ℕ). j ∷ ks) (places_sent number (k + 1) (j + 1) count n (omega (arith, l)))

newest_sent : (number count n : ℕ) → count ≤ n → newest_slots (sent_from number 0 count n) ≡ from 0 count
newest_sent number zero n l =
    ap (λ (os : List (Option Flight)). newest_slots os) (filled_none (none_of n)) ∙ none_with (greatest (none_of n)) 0 (none_of n) (nones_all n)
newest_sent number (suc count) zero l = absurd (omega (arith, l))
newest_sent number (suc count) (suc n) l =
    let few = greatest_sent number (0 + 1) count n (omega (arith, l)) in
    let same : max number (greatest (sent_from number (0 + 1) count n)) ≡ number = omega (arith, few) in
    ap (λ (m : ℕ). slots_with m 0 (sent_from number 0 (suc count) (suc n))) same ∙ places_sent number 0 0 (suc count) (suc n) l

rounds_are : (n j count : ℕ) → rounds n false (from j count) ≡ rounds_of n j count
rounds_are n j zero = refl
rounds_are n j (suc count) = ap (λ (es : List Event). round_of n j ++ es) (rounds_are n (j + 1) count)

-- the frames of a cycle go round, slot after slot
rounds_is : (w : WorldState) (count n : ℕ) → length w.master.plan.parts ≡ count → w.slots ≡ none_of n → count ≤ n
    → rounds (length w.slaves) false (newest_slots (slots_sent (length w.master.plan.parts) w.master.next w.slots)) ≡ rounds_of (length w.slaves) 0 count
rounds_is w count n parts free few =
    ap (λ (k : ℕ). rounds (length w.slaves) false (newest_slots (slots_sent k w.master.next w.slots))) parts
    ∙ (ap (λ (os : List (Option Flight)). rounds (length w.slaves) false (newest_slots (slots_sent count w.master.next os))) free
    ∙ (ap (λ (ks : List ℕ). rounds (length w.slaves) false ks) (newest_sent w.master.next count n few) ∙ rounds_are (length w.slaves) 0 count))

-- ---- a start-up that is Ready stays so

true_false : true ≡ false → ⊥
true_false e = cc

returned_start : (b : Bool) (k : ℕ) (w v : WorldState) → b ≡ false → ByStart b (StartReturns w k v) (Returns w k v) → v.start ≡ w.start
returned_start true k w v e h = absurd (true_false e)
returned_start false k w v e h = ap (λ (x : WorldState). x.start) h.is

closed_start : (b : Bool) (w v : WorldState) → b ≡ false → ByStart b (GivesUp w v) (Closes w v) → v.start ≡ w.start
closed_start true w v e h = absurd (true_false e)
closed_start false w v e h = ap (λ (x : WorldState). x.start) h.is

-- the events of a cycle
abbrev OfCycle : Event → Type 0
OfCycle (Pass k) = Unit {0}
OfCycle (Return k) = Unit {0}
OfCycle e = ⊥

stays_up : (e : Event) (w v : WorldState) (one : Bool) → OfCycle e → w.start.phase ≡ IsUp → IsStep w e v one → v.start.phase ≡ IsUp
stays_up (Pass k) w v true q p h = ap (λ (x : WorldState). x.start.phase) (h.happens refl).is ∙ p
stays_up (Pass k) w v false q p h = ap (λ (x : WorldState). x.start.phase) (h.refused refl) ∙ p
stays_up (Return k) w v true q p h =
    ap (λ (s : StartState). s.phase) (returned_start (awaits w.start) k w v (ap (λ (x : Phase). phase_awaits x) p) (h.happens refl)) ∙ p
stays_up (Return k) w v false q p h = ap (λ (x : WorldState). x.start.phase) (h.refused refl) ∙ p
stays_up e w v one q p h = absurd q

rounds_of_cycle : (n j count : ℕ) → AllOf OfCycle (rounds_of n j count)
rounds_of_cycle n j zero = tt
rounds_of_cycle n j (suc count) =
    all_both OfCycle (round_of n j) (rounds_of n (j + 1) count) (all_both OfCycle (replicate n (Pass j)) (Return j ∷ []) (all_passes OfCycle j n tt) (tt, tt)) (rounds_of_cycle n (j + 1) count)

-- what a cycle says that was made, and what was closed
pub record HasClosed (new : WorldState) (word : LineOutput) : Type 0 where
  pub says : word ≡ output.Report
  pub plan : PlanState
  pub kept : List (Option ReturnedPart)
  pub report : new.report ≡ Some (report_of plan kept)

closed_report : (b : Bool) (w v : WorldState) → b ≡ false → ByStart b (GivesUp w v) (Closes w v) → (plan : PlanState) × (kept : List (Option ReturnedPart)) × (v.report ≡ Some (report_of plan kept))
closed_report true w v e h = absurd (true_false e)
closed_report false w v e h = (w.master.plan, h.cycle.kept, ap (λ (x : WorldState). x.report) h.is)

pub cycle_says : (old new : WorldState) (word : LineOutput) (n count : ℕ) → RunsCycle old new word → is_done word ≡ true → old.start.phase ≡ IsUp
    → ((mid : WorldState) → IsStep old Begin mid true → rounds_found false mid ≡ rounds_of n 0 count) → HasClosed new word
cycle_says old new word n count r done up found =
    let first : r.begins.made ≡ true = sym (done_as_made Begin old r.mid r.told r.begins) ∙ begun in
    let step : IsStep old Begin r.mid true = subst (λ (b : Bool). IsStep old Begin r.mid b) first r.begins.step in
    let mid_up : r.mid.start.phase ≡ IsUp = ap (λ (x : WorldState). x.start.phase) (step.happens refl).is ∙ up in
    let l = last_of (λ (x : WorldState). x.start.phase ≡ IsUp) OfCycle stays_up (rounds_of n 0 count) Close r.mid new word (rounds_of_cycle n 0 count) mid_up
    (subst (λ (es : List Event). MakesAll (es ++ (Close ∷ [])) r.mid new word) (found r.mid step) rest) done in
    let not_ending : ends l.at new ≡ false = rw (ap (λ (p : Phase). is_none (outcome_of p)) l.kept) refl in
    let made : l.last.made ≡ true = sym (done_as_made Close l.at new word l.last) ∙ done in
    let c = closed_report (awaits l.at.start) l.at new (ap (λ (x : Phase). phase_awaits x) l.kept) (l.last.step.happens made) in
    record {
      says = l.last.says ∙ (ap (λ (b : Bool). said_of l.at Close new b) made ∙ ap (λ (b : Bool). if b then output.Ended else output.Report) not_ending);
      plan = c.0;
      kept = c.1;
      report = c.2;
    }
  where
    rest : MakesAll (rounds_found false r.mid ++ (Close ∷ [])) r.mid new word
    rest = on_done r.mid new r.told word (is_done r.told) refl r.goes_on done

    begun : is_done r.told ≡ true
    begun = told_done (MakesAll (rounds_found false r.mid ++ (Close ∷ [])) r.mid new word) r.mid new r.told word (is_done r.told) refl r.goes_on done

-- ---- a cycle of a world at rest

up_phase : (p : Phase) → phase_ready p ≡ true → p ≡ IsUp
up_phase Idle e = absurd (true_false (sym e))
up_phase (Sent n) e = absurd (true_false (sym e))
up_phase IsUp e = refl
up_phase (Failed f) e = absurd (true_false (sym e))

both : (t : Contents) (ids : List Identity) (old new : WorldState) (word : LineOutput) → Rests t ids old → RunsCycle old new word → HasClosed new word × IsExchanged t old new (length (cycle_of t))
both t ids old new word r h =
    let k = length (plan_of t).parts in
    let f = free_there t ids old r in
    let round : rounds (length old.slaves) false (newest_slots (slots_sent (length old.master.plan.parts) old.master.next old.slots)) ≡ rounds_of (length t.slaves) 0 k
    = rounds_is old k 64 f.parts f.slots f.few ∙ ap (λ (n : ℕ). rounds_of n 0 k) f.slaves in
    let is : cycle_events old ≡ cycle_of t = ap (λ (es : List Event). Begin ∷ (es ++ (Close ∷ []))) round in
    let g : Goes (cycle_of t) old new (is_done word) = subst (λ (es : List Event). Goes es old new (is_done word)) is (cycle_goes old new word h) in
    let done : is_done word ≡ true = cycle_made t ids old r new (is_done word) (to_world (cycle_of t) old new (is_done word) g) in (
      cycle_says old new word (length t.slaves) k h done (up_phase old.start.phase r.up) (λ mid step. cycle_found old mid (step.happens refl) ∙ round),
      undisturbed_law t ids old r new (length (cycle_of t)) (run_of (cycle_of t) old new (is_done word) g done),
    )

pub cycle_law : CycleLaw
cycle_law t ids old new word r h = let b = both t ids old new word r h in (b.0.says, b.1)

-- ---- what is printed of it

all_true : (xs : List Bool) → ((i : ℕ) → i < length xs → get_or xs i true ≡ true) → list_all (λ (b : Bool). b) xs ≡ true
all_true [] h = refl
all_true (x ∷ xs) h = and_from x (list_all (λ (b : Bool). b) xs) (h 0 (omega arith)) (all_true xs (λ i l. h (suc i) (omega (arith, l))))

lines_taken : (taken : List Bool) (j : ℕ) (units : List ℕ) → ((i : ℕ) → i < length units → get_or taken (j + i) false ≡ true)
    → lines_from (unit_at taken) j units ≡ lines_from taken_unit j units
lines_taken taken j [] h = refl
lines_taken taken j (u ∷ us) h =
    let here : get_or taken j false ≡ true = (let z : j ≡ j + 0 = omega arith in ap (λ (k : ℕ). get_or taken k false) z) ∙ h 0 (omega arith) in
    let rest = lines_taken taken (j + 1) us (λ i l. (let z : j + 1 + i ≡ j + suc i = omega arith in ap (λ (k : ℕ). get_or taken k false) z) ∙ h (suc i) (omega (arith, l))) in
    ap (λ (b : Bool). (codes " " ++ decimal u ++ taken_text b) ++ lines_from (unit_at taken) (j + 1) us) here
    ∙ ap (λ (xs : List ℕ). (codes " " ++ decimal u ++ codes " taken") ++ xs) rest

units_are : (v : Version) (r : ReportState) → length r.taken ≡ length r.units → ((i : ℕ) → i < length r.units → slice_get r.taken i ≡ Some true) → units_text v r ≡ taken_units v r.units
units_are version.One r e h = ap (λ (b : Bool). taken_text b) (all_true r.taken (λ i l. get_or_from_slice_get r.taken i true true (h i (omega (arith, l, e)))))
units_are version.Two r e h = lines_taken r.taken 0 r.units (λ i l. (let z : 0 + i ≡ i = omega arith in ap (λ (k : ℕ). get_or r.taken k false) z) ∙ get_or_from_slice_get r.taken i true false (h i l))

some_same : (x y : ReportState) → Some x ≡ Some y → x ≡ y
some_same x y e = cc

pub taken_text_law : TakenTextLaw
taken_text_law t ids old new word rest h r e =
    let b = both t ids old new word rest h in
    let c = b.0 in
    let x = b.1 in
    let own : r ≡ report_of c.plan c.kept = some_same r (report_of c.plan c.kept) (sym e ∙ c.report) in
    let told : r ≡ x.report = some_same r x.report (sym e ∙ x.reported) in
    units_are t.version r
    (ap (λ (y : ReportState). length y.taken) own ∙ (length-map c.plan.units (unit_taken c.plan c.kept) ∙ ap (λ (y : ReportState). length y.units) (sym own)))
    (λ i l. subst (λ (y : ReportState). slice_get y.taken i ≡ Some true) (sym told)
    (x.taken (get_or x.report.units i 0) i (subst (λ (y : ReportState). i < length y.units) told l) refl))

-- a new world that was brought up is at rest
rests : (t : Contents) (ids : List Identity) (old mid : WorldState) → IsNew t ids old → IsReadied t old mid → Rests t ids mid
rests t ids old mid n r =
    let up = r.up in
    let fits = script_fits t n.sound n.accepted old.slaves in
    let sent : mid.start.next ≡ old.start.next + frames_to_ready t old = up.works.next_number in
    let zero_sent : old.start.next ≡ 0 = new_next t ids old n in
    let zero_master : old.master.next ≡ 0 = ap (λ (x : WorldState). x.master.next) n.is in
    let next = up.next_number in
    record {
      old = old;
      new = n;
      events = r.events;
      made = length r.events;
      reached = r.run;
      up = up.up;
      at_rest = record {
        no_cycle = up.no_cycle;
        no_frame = up.no_frame;
        numbers = omega (arith, fits, sent, zero_sent, zero_master, next);
        in_op = λ s l. (up.works.work s (let a = (plan_sound t n.sound n.accepted).as_many in omega (arith, l, a))).in_op.state_is;
      };
    }

-- in a new world in which a start-up may begin
ready_cycle : (t : Contents) (ids : List Identity) (old mid new : WorldState) (first second : LineOutput) → IsNew t ids old → IsToStart t old → Does action.Ready old mid first → Does action.Cycle mid new second
    → (first ≡ output.Ended) × IsReadied t old mid × (second ≡ output.Report) × IsExchanged t mid new (length (cycle_of t))
ready_cycle t ids old mid new first second n starts ready cycle =
    let r = ready_law t old mid first starts ready in
    let c = cycle_law t ids mid new second (rests t ids old mid n r.1) cycle in
    (r.0, r.1, c.0, c.1)

pub ready_cycle_law : ReadyCycleLaw
ready_cycle_law t ids old mid new first second n d agree = ready_cycle t ids old mid new first second n (new_law t ids old n d agree)

pub machine_cycle_law : MachineCycleLaw
machine_cycle_law t old mid new first second m agree = ready_cycle t m.identities old mid new first second m.new (machine_law t old m agree)
