-- What a line does is a run of its events.
use Rattle.std.proofs.Common.{◌≡◌, ◌∙◌, ◌⊎◌, inl, inr, ℕ, zero, suc, ◌<◌, ◌≤◌, ◌&&◌, List, [], ◌∷◌, ◌++◌, length, take, Bool, true, false, Option, Some, None, is_some, is_none, slice_get, if◌then◌else◌, refl, sym, ap, subst, arith, append-nil, length-append}
use Rattle.std.proofs.lemmas.List.{length-take-le}
use Rattle.ec_cycle.specs.Closing.{nones}
use Rattle.ec_start.specs.Running.{outcome_of}
use Rattle.ec_world.specs.declared.event.Event.{Event}
use Rattle.ec_world.specs.declared.event.Event.TheVariants.{StartNext, Begin, Close}
use Rattle.ec_world.specs.Laws.{IsRun}
use Rattle.ec_world.specs.World.{WorldState, IsStep, awaits, is_up}
use Rattle.ec_world.proofs.Refinement.StepsRefine.{runs_join}
use Rattle.ec_script.specs.declared.line.LineAction.{LineAction}
use Rattle.ec_script.specs.declared.line.LineAction.TheVariants.{Input, Never, Expect, Ready, Cycle, Within, Show, ShowVariable, Output, LosePart, Served, Report, States}
use Rattle.ec_script.specs.declared.output.LineOutput.{LineOutput}
use Rattle.ec_script.specs.declared.expectation.Expectation.{Expectation}
use Rattle.ec_script.specs.declared.line.Task.{Task}
use Rattle.ec_script.specs.declared.line.Task.TheVariants as task
use Rattle.ec_script.specs.declared.output.LineOutput.TheVariants as output
use Rattle.ec_simulation.specs.Expecting.{is_met}
use Rattle.ec_simulation.specs.Inputs.{input_events, is_input_of}
use Rattle.ec_script.specs.Scripts.{repeated}
use Rattle.ec_simulation.specs.Events.{AreMade, CycleGoesOn, DoesAll, DoesTask, GoesOn, LinesRun, RunsLine, RunsReady, RunsWithin, ScriptsRun, cycle_events, lowest_slot, turn_events, turns_events}
use Rattle.ec_simulation.specs.Rounds.{rounds, rounds_found}
use Rattle.ec_script.specs.Outputs.{is_done, output_if}
use Rattle.ec_simulation.specs.Work.{CyclesOn, MakesAll, Onward, RunsCycle, RunsTurn, Starts, Waits, alone, event_of, has_ended, is_starting, last_turn}
use Rattle.ec_simulation.proofs.Goes.{Goes, are_made, goes_all, goes_join, goes_then}
use Rattle.ec_simulation.proofs.Keeping.{Kept, free_frames, goes_kept}
use Rattle.ec_simulation.proofs.SlotsSent.{cycle_found, starts_free, turn_found}

-- ---- a cycle

pub cycle_goes : (old new : WorldState) (word : LineOutput) → RunsCycle old new word → Goes (cycle_events old) old new (is_done word)
cycle_goes old new word h = goes_then Begin _ old h.mid new h.told word h.begins h.goes_on (λ one x.
    let found = cycle_found old h.mid (h.begins.step.happens one) in
    subst (λ es. Goes (es ++ (Close ∷ [])) h.mid new (is_done word)) found (goes_all (rounds_found false h.mid ++ (Close ∷ [])) h.mid new word x))

-- ---- a turn

pub free_at : (old mid : WorldState) (one : Bool) → IsStep old StartNext mid one → one ≡ true → nones old.slots ≡ length old.slots
free_at old mid one step is = starts_free (is_up old.start) (awaits old.start) (nones old.slots) (length old.slots) _ (sym step.can ∙ is)

pub turn_goes : (old new : WorldState) (word : LineOutput) → RunsTurn old new word → Goes (turn_events old) old new (is_done word)
turn_goes old new word h = goes_then StartNext _ old h.mid new h.told word h.begins h.goes_on (λ one x.
    let found = turn_found old h.mid (h.begins.step.happens one) (free_at old h.mid h.begins.made h.begins.step one) in
    subst (λ es. Goes es h.mid new (is_done word)) found (goes_all (rounds_found true h.mid) h.mid new word x))

was_free : (X : Type 0) (one all : Bool) (old mid new : WorldState) → IsStep old StartNext mid one → Onward one X ((new ≡ mid) × (all ≡ false)) → all ≡ true
    → nones old.slots ≡ length old.slots
was_free X true all old mid new step h is = free_at old mid true step refl
was_free X false all old mid new step h is = absurd (let bad : true ≡ false = sym is ∙ h.1 in cc)

-- a whole turn leaves as many slaves and slots
turn_kept : (old new : WorldState) (all : Bool) → Goes (turn_events old) old new all → all ≡ true → Kept old new
turn_kept old new all h is = goes_kept (turn_events old) old new all h (free_frames old.slots (was_free _ h.1 all old h.0 new h.2 h.3 is))

lowest_same : {X : Type 0} (xs ys : List X) → length xs ≡ length ys → lowest_slot xs ≡ lowest_slot ys
lowest_same [] [] e = refl
lowest_same [] (y ∷ ys) e = absurd (omega arith)
lowest_same (x ∷ xs) [] e = absurd (omega arith)
lowest_same (x ∷ xs) (y ∷ ys) e = refl

turn_same : (old new : WorldState) → Kept old new → turn_events new ≡ turn_events old
turn_same old new h =
    ap (λ n. StartNext ∷ rounds n true (lowest_slot new.slots)) h.slaves
    ∙ ap (λ ks. StartNext ∷ rounds (length old.slaves) true ks) (lowest_same new.slots old.slots h.slots)

turns_same : (old new : WorldState) → Kept old new → (turns : ℕ) → turns_events new turns ≡ turns_events old turns
turns_same old new h zero = refl
turns_same old new h (suc turns) =
    ap (λ es. es ++ turns_events new turns) (turn_same old new h) ∙ ap (λ es. turn_events old ++ es) (turns_same old new h turns)

-- ---- turn after turn

record StillGoes (events : List Event) (old : WorldState) : Type 0 where
  mid : WorldState
  goes : Goes events old mid true
  going : has_ended mid ≡ false

record Turned (n : ℕ) (old new : WorldState) (all : Bool) : Type 0 where
  turns : ℕ
  most : turns ≤ n
  goes : Goes (turns_events old turns) old new all
  before : (k : ℕ) → 0 < k → k < turns → StillGoes (turns_events old k) old
  ended : all ≡ true → (has_ended new ≡ true) ⊎ (turns ≡ n)

some_flip : {X : Type 0} (o : Option X) (b : Bool) → is_none o ≡ b → is_some o ≡ (if b then false else true)
some_flip None true h = refl
some_flip None false h = cc
some_flip (Some x) true h = cc
some_flip (Some x) false h = refl

one_turn : (n : ℕ) (old mid : WorldState) (all : Bool) → Goes (turn_events old) old mid all → (all ≡ true → has_ended mid ≡ true) → Turned (suc n) old mid all
one_turn n old mid all turn ended = record {
  turns = 1;
  most = omega arith;
  goes = subst (λ es. Goes es old mid all) (sym (append-nil (turn_events old))) turn;
  before = λ k some few. absurd (omega arith);
  ended = λ is. inl (ended is);
}

more_turns : (n : ℕ) (old mid new : WorldState) (all : Bool) → Goes (turn_events old) old mid true → has_ended mid ≡ false → Turned n mid new all → Turned (suc n) old new all
more_turns n old mid new all turn going r =
    let kept = turn_kept old mid true turn refl in
    let again : (k : ℕ) → turns_events mid k ≡ turns_events old k = turns_same old mid kept in
    record {
      turns = suc r.turns;
      most = let m : r.turns ≤ n = r.most in omega arith;
      goes = goes_join (turn_events old) (turns_events old r.turns) old mid new all turn (subst (λ es. Goes es mid new all) (again r.turns) r.goes);
      before = still;
      ended = λ is. ends (r.ended is);
    }
  where
    still : (k : ℕ) → 0 < k → k < suc r.turns → StillGoes (turns_events old k) old
    still zero some few = absurd (omega arith)
    still (suc zero) some few = record { mid = mid; goes = goes_join (turn_events old) [] old mid mid true turn (refl, refl); going = going }
    still (suc (suc k)) some few =
        let s = r.before (suc k) (omega arith) (omega arith) in
        let again : turns_events mid (suc k) ≡ turns_events old (suc k) = turns_same old mid (turn_kept old mid true turn refl) (suc k) in
        record {
          mid = s.mid;
          goes = goes_join (turn_events old) (turns_events old (suc k)) old mid s.mid true turn (subst (λ es. Goes es mid s.mid true) again s.goes);
          going = s.going;
        }

    ends : (has_ended new ≡ true) ⊎ (r.turns ≡ n) → (has_ended new ≡ true) ⊎ (suc r.turns ≡ suc n)
    ends (inl e) = inl e
    ends (inr e) = inr (ap suc e)

next_turn : (n : ℕ) (old mid new : WorldState) (told word : LineOutput) (starting done : Bool) → is_starting mid ≡ starting → is_done told ≡ done
    → RunsTurn old mid told → Onward (starting && done) (Turned n mid new (is_done word)) ((new ≡ mid) × (word ≡ told)) → Turned (suc n) old new (is_done word)
next_turn n old mid new told word true true starts is turn r =
    more_turns n old mid new (is_done word) (subst (λ b. Goes (turn_events old) old mid b) is (turn_goes old mid told turn)) (some_flip (outcome_of mid.start.phase) true starts) r
next_turn n old mid new told word true false starts is turn r =
    let same : is_done word ≡ is_done told = ap is_done r.1 in
    subst (λ w. Turned (suc n) old w (is_done word)) (sym r.0)
    (subst (λ b. Turned (suc n) old mid b) (sym same) (one_turn n old mid (is_done told) (turn_goes old mid told turn) (λ yes. absurd (let bad : true ≡ false = sym yes ∙ is in cc))))
next_turn n old mid new told word false done starts is turn r =
    let same : is_done word ≡ is_done told = ap is_done r.1 in
    subst (λ w. Turned (suc n) old w (is_done word)) (sym r.0)
    (subst (λ b. Turned (suc n) old mid b) (sym same) (one_turn n old mid (is_done told) (turn_goes old mid told turn) (λ yes. some_flip (outcome_of mid.start.phase) false starts)))

onward_to : {X Y : Type 0} (Z : Type 0) (b : Bool) → (X → Y) → Onward b X Z → Onward b Y Z
onward_to Z true f h = f h
onward_to Z false f h = h

starts_goes : (n : ℕ) (old new : WorldState) (word : LineOutput) → Starts n old new word → Turned n old new (is_done word)
unfolding Starts
starts_goes zero old new word h = record {
  turns = 0;
  most = omega arith;
  goes = (h.0, ap is_done h.1);
  before = λ k some few. absurd (omega arith);
  ended = λ is. inr refl;
}
starts_goes (suc n) old new word h =
    next_turn n old h.mid new h.told word (is_starting h.mid) (is_done h.told) refl refl h.begins
    (onward_to _ (is_starting h.mid && is_done h.told) (λ x. starts_goes n h.mid new word x) h.goes_on)

still_made : (events : List Event) (old : WorldState) → StillGoes events old → GoesOn events old
still_made events old s = record { mid = s.mid; made = are_made events old s.mid true s.goes; going = s.going }

ready_made : (old new : WorldState) (all : Bool) → Turned last_turn old new all → RunsReady old new all
ready_made old new all r = record {
  turns = r.turns;
  most = r.most;
  made = are_made (turns_events old r.turns) old new all r.goes;
  before = λ k some few. still_made (turns_events old k) old (r.before k some few);
  ended = r.ended;
}

-- ---- lines and scripts

said_done : (b : Bool) → is_done (output_if b) ≡ true
said_done true = refl
said_done false = refl

input_made : (b : Bool) (es : List Event) (old new : WorldState) (word : LineOutput) → Onward b (MakesAll es old new word) ((new ≡ old) × (word ≡ output.No))
    → Onward b (AreMade es old new (is_done word)) ((new ≡ old) × (is_done word ≡ false))
input_made true es old new word h = are_made es old new (is_done word) (goes_all es old new word h)
input_made false es old new word h = (h.0, ap is_done h.1)

-- cycles until something holds

cycle_on : (rest : WorldState → WorldState → LineOutput → Type 0) (runs : WorldState → WorldState → Type 0) (old mid new : WorldState) (told word : LineOutput) (whole : Bool)
    → ((v u : WorldState) (w : LineOutput) → rest v u w → runs v u × (is_done w ≡ true)) → AreMade (cycle_events old) old mid whole
    → Onward whole (rest mid new word) ((new ≡ mid) × (word ≡ output.Unmet)) → CycleGoesOn runs old new × (is_done word ≡ true)
cycle_on rest runs old mid new told word true f made h =
    let ahead = f mid new word h in
    (record { mid = mid; whole = true; made = made; goes_on = ahead.0 }, ahead.1)
cycle_on rest runs old mid new told word false f made h = (record { mid = mid; whole = false; made = made; goes_on = h.0 }, ap is_done h.1)

met_or : (X Y : Type 0) (b : Bool) (old new : WorldState) (word : LineOutput) → Onward b ((new ≡ old) × (word ≡ output.Nothing)) X → (X → Y × (is_done word ≡ true)) → Onward b (new ≡ old) Y × (is_done word ≡ true)
met_or X Y true old new word h f = (h.0, ap is_done h.1)
met_or X Y false old new word h f = f h

waits_run : (n : ℕ) (e : Expectation) (old new : WorldState) (word : LineOutput) → Waits n e old new word → RunsWithin n e old new × (is_done word ≡ true)
unfolding Waits RunsWithin
waits_run zero e old new word h = (h.0, ap is_done h.1 ∙ said_done (is_met e old))
waits_run (suc n) e old new word h =
    met_or (CyclesOn (Waits n e) old new word) (CycleGoesOn (RunsWithin n e) old new) (is_met e old) old new word h
    (λ x. cycle_on (Waits n e) (RunsWithin n e) old x.mid new x.told word (is_done x.told) (waits_run n e) (are_made (cycle_events old) old x.mid (is_done x.told) (cycle_goes old x.mid x.told x.cycle)) x.goes_on)

pub lines_run : LinesRun
lines_run (Input v x) old new word h = input_made (is_input_of x (slice_get old.plan.variables v)) (input_events old v x) old new word h
lines_run (Never v) old new word h = (h.0, ap is_done h.1)
lines_run (Expect e) old new word h = are_made [] old new (is_done word) (h.0, ap is_done h.1 ∙ said_done (is_met e old))
lines_run (Output v) old new word h = h.0
lines_run (ShowVariable v) old new word h = (h.0, ap is_done h.1)
lines_run (Within n e) old new word h = waits_run n e old new word h
lines_run (LosePart n k) old new word h = (h.0, ap is_done h.1)
lines_run Served old new word h = (h.0, ap is_done h.1)
lines_run Ready old new word h = ready_made old new (is_done word) (starts_goes last_turn old new word h)
lines_run Cycle old new word h = are_made (cycle_events old) old new (is_done word) (cycle_goes old new word h)
lines_run Show old new word h = are_made [] old new (is_done word) (h.0, ap is_done h.1)
lines_run Report old new word h = are_made [] old new (is_done word) (h.0, ap is_done h.1)
lines_run States old new word h = are_made [] old new (is_done word) (h.0, ap is_done h.1)
lines_run action old new word h = let es = alone (event_of action) in are_made es old new (is_done word) (goes_all es old new word h)

abbrev HasRun : WorldState → WorldState → Type 0
HasRun old new = (events : List Event) × IsRun old events new (length events)

made_run : (events : List Event) (old new : WorldState) (all : Bool) → AreMade events old new all → HasRun old new
made_run events old new all h = (take h.made events, subst (λ n. IsRun old (take h.made events) new n) (sym (length-take-le h.made events h.within)) h.run)

none_run : (old new : WorldState) → new ≡ old → HasRun old new
none_run old new same = ([], (same, refl))

input_run : (b : Bool) (es : List Event) (old new : WorldState) (all : Bool) → Onward b (AreMade es old new all) ((new ≡ old) × (all ≡ false)) → HasRun old new
input_run true es old new all h = made_run es old new all h
input_run false es old new all h = none_run old new h.0

both_run : (old mid new : WorldState) → HasRun old mid → HasRun mid new → HasRun old new
both_run old mid new h g = (
  h.0 ++ g.0,
  subst (λ n. IsRun old (h.0 ++ g.0) new n) (sym (length-append h.0 g.0)) (runs_join old h.0 mid (length h.0) g.0 new (length g.0) h.1 g.1),
)

cycle_ahead : (X : Type 0) (whole : Bool) (mid new : WorldState) → Onward whole X (new ≡ mid) → (X → HasRun mid new) → HasRun mid new
cycle_ahead X true mid new h f = f h
cycle_ahead X false mid new h f = none_run mid new h

met_run : (X : Type 0) (b : Bool) (old new : WorldState) → Onward b (new ≡ old) X → (X → HasRun old new) → HasRun old new
met_run X true old new h f = none_run old new h
met_run X false old new h f = f h

within_run : (n : ℕ) (e : Expectation) (old new : WorldState) → RunsWithin n e old new → HasRun old new
unfolding RunsWithin
within_run zero e old new h = none_run old new h
within_run (suc n) e old new h =
    met_run (CycleGoesOn (RunsWithin n e) old new) (is_met e old) old new h
    (λ x. both_run old x.mid new (made_run (cycle_events old) old x.mid x.whole x.made) (cycle_ahead (RunsWithin n e x.mid new) x.whole x.mid new x.goes_on (within_run n e x.mid new)))

line_run : (action : LineAction) (old new : WorldState) (all : Bool) → RunsLine action old new all → HasRun old new
line_run (Input v x) old new all h = input_run (is_input_of x (slice_get old.plan.variables v)) (input_events old v x) old new all h
line_run (Never v) old new all h = none_run old new h.0
line_run (Output v) old new all h = none_run old new h
line_run (ShowVariable v) old new all h = none_run old new h.0
line_run (Within n e) old new all h = within_run n e old new h.0
line_run (LosePart n k) old new all h = none_run old new h.0
line_run Served old new all h = none_run old new h.0
line_run Ready old new all h = made_run (turns_events old h.turns) old new all h.made
line_run Cycle old new all h = made_run (cycle_events old) old new all h
line_run action old new all h = made_run (alone (event_of action)) old new all h

task_run : (t : Task) (old new : WorldState) → DoesTask t old new → HasRun old new
task_run (task.Step step) old new h = line_run step.action old new (is_done h.0) (lines_run step.action old new h.0 h.1)
task_run (task.Echo text) old new h = none_run old new h

all_run : (tasks : List Task) (old new : WorldState) → DoesAll tasks old new → HasRun old new
all_run [] old new h = none_run old new h
all_run (t ∷ tasks) old new h = both_run old h.0 new (task_run t old h.0 h.1) (all_run tasks h.0 new h.2)

pub scripts_run : ScriptsRun
scripts_run lines old new h = all_run (repeated lines) old new h
