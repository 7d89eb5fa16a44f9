-- No event changes the plan of a world, so no line does.
use Rattle.std.proofs.Common.{◌≡◌, ◌∙◌, ℕ, zero, suc, ◌&&◌, List, [], ◌∷◌, ◌++◌, Bool, true, false, slice_get, ap}
use Rattle.ec_world.specs.declared.event.Event.{Event}
use Rattle.ec_world.specs.declared.event.Event.TheVariants.{StartNext, Begin, Close}
use Rattle.ec_world.specs.World.{WorldState}
use Rattle.ec_world.proofs.Runs.PlanLaw.{plan_stays}
use Rattle.ec_script.specs.declared.line.LineAction.{LineAction}
use Rattle.ec_script.specs.declared.line.LineAction.TheVariants.{Input, Never, Expect, Ready, Cycle, Within, Show, ShowVariable, Output, LosePart, Served, Report, States}
use Rattle.ec_script.specs.declared.output.LineOutput.{LineOutput}
use Rattle.ec_script.specs.declared.output.LineOutput.TheVariants.{No, Nothing, Unmet}
use Rattle.ec_simulation.specs.Inputs.{input_events, is_input_of}
use Rattle.ec_simulation.specs.Rounds.{rounds_found}
use Rattle.ec_script.specs.Outputs.{is_done}
use Rattle.ec_script.specs.declared.expectation.Expectation.{Expectation}
use Rattle.ec_simulation.specs.Expecting.{is_met}
use Rattle.ec_simulation.specs.Work.{CyclesOn, Does, Makes, MakesAll, Onward, RunsCycle, RunsTurn, Starts, Waits, alone, event_of, is_starting, last_turn}

abbrev pub Keeps : WorldState → WorldState → Type 0
Keeps old new = new.plan ≡ old.plan

one : (e : Event) (old new : WorldState) (word : LineOutput) → Makes e old new word → Keeps old new
one e old new word h = plan_stays old e new h.made h.step

onward : {X : Type 0} (b : Bool) (old mid new : WorldState) (word told : LineOutput) → Keeps old mid → Onward b X ((new ≡ mid) × (word ≡ told)) → (X → Keeps mid new) → Keeps old new
onward true old mid new word told first h f = f h ∙ first
onward false old mid new word told first h f = ap (λ w. w.plan) h.0 ∙ first

pub all : (es : List Event) (old new : WorldState) (word : LineOutput) → MakesAll es old new word → Keeps old new
all [] old new word h = ap (λ w. w.plan) h.0
all (e ∷ []) old new word h = one e old new word h
all (e ∷ f ∷ es) old new word h = onward (is_done h.told) old h.mid new word h.told (one e old h.mid h.told h.begins) h.goes_on (all (f ∷ es) h.mid new word)

turn : (old new : WorldState) (word : LineOutput) → RunsTurn old new word → Keeps old new
turn old new word h = onward (is_done h.told) old h.mid new word h.told (one StartNext old h.mid h.told h.begins) h.goes_on (all (rounds_found true h.mid) h.mid new word)

starts : (n : ℕ) (old new : WorldState) (word : LineOutput) → Starts n old new word → Keeps old new
unfolding Starts
starts zero old new word h = ap (λ w. w.plan) h.0
starts (suc n) old new word h = onward (is_starting h.mid && is_done h.told) old h.mid new word h.told (turn old h.mid h.told h.begins) h.goes_on (starts n h.mid new word)

put_in : (b : Bool) (es : List Event) (old new : WorldState) (word : LineOutput) → Onward b (MakesAll es old new word) ((new ≡ old) × (word ≡ No)) → Keeps old new
put_in true es old new word h = all es old new word h
put_in false es old new word h = ap (λ w. w.plan) h.0

cycle : (old new : WorldState) (word : LineOutput) → RunsCycle old new word → Keeps old new
cycle old new word h = onward (is_done h.told) old h.mid new word h.told (one Begin old h.mid h.told h.begins) h.goes_on (all (rounds_found false h.mid ++ (Close ∷ [])) h.mid new word)

-- what may follow, or nothing
either : (X Y : Type 0) (b : Bool) (old mid new : WorldState) → Keeps old mid → Onward b X ((new ≡ mid) × Y) → (X → Keeps mid new) → Keeps old new
either X Y true old mid new first h f = f h ∙ first
either X Y false old mid new first h f = ap (λ w. w.plan) h.0 ∙ first

met_keeps : (X Y : Type 0) (b : Bool) (old new : WorldState) → Onward b ((new ≡ old) × Y) X → (X → Keeps old new) → Keeps old new
met_keeps X Y true old new h f = ap (λ w. w.plan) h.0
met_keeps X Y false old new h f = f h

waits : (n : ℕ) (e : Expectation) (old new : WorldState) (word : LineOutput) → Waits n e old new word → Keeps old new
unfolding Waits
waits zero e old new word h = ap (λ w. w.plan) h.0
waits (suc n) e old new word h =
    met_keeps (CyclesOn (Waits n e) old new word) (word ≡ Nothing) (is_met e old) old new h
    (λ x. either (Waits n e x.mid new word) (word ≡ Unmet) (is_done x.told) old x.mid new (cycle old x.mid x.told x.cycle) x.goes_on (waits n e x.mid new word))

pub action_keeps : (action : LineAction) (old new : WorldState) (word : LineOutput) → Does action old new word → new.plan ≡ old.plan
action_keeps (Input v x) old new word h = put_in (is_input_of x (slice_get old.plan.variables v)) (input_events old v x) old new word h
action_keeps (Never v) old new word h = ap (λ w. w.plan) h.0
action_keeps (Expect e) old new word h = ap (λ w. w.plan) h.0
action_keeps Ready old new word h = starts last_turn old new word h
action_keeps Cycle old new word h = cycle old new word h
action_keeps (Within n e) old new word h = waits n e old new word h
action_keeps (ShowVariable v) old new word h = ap (λ w. w.plan) h.0
action_keeps (Output v) old new word h = ap (λ w. w.plan) h.0
action_keeps (LosePart n k) old new word h = ap (λ w. w.plan) h.0
action_keeps Served old new word h = ap (λ w. w.plan) h.0
action_keeps Show old new word h = ap (λ w. w.plan) h.0
action_keeps Report old new word h = ap (λ w. w.plan) h.0
action_keeps States old new word h = ap (λ w. w.plan) h.0
action_keeps action old new word h = all (alone (event_of action)) old new word h
