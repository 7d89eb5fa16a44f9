-- What the calls of a session make of a master over a wire.
use Rattle.std.proofs.Common.{◌≡◌, ◌++◌, ◌∙◌, ◌+◌, ◌-◌, ◌<◌, ◌≤◌, ℕ, zero, suc, arith, List, length, take, Bool, true, false, Option, Some, None, Result, Ok, Err, refl, sym, ap, subst}
use Rattle.std.proofs.Math.Seq.{take-append_seam}
use Rattle.std.specs.Prelude.{is_none, slice_get}
use Rattle.ec_al.specs.declared.state.State.{State}
use Rattle.ec_cycle.specs.Master.{holds_value, variable_set}
use Rattle.ec_cycle.specs.declared.error.CycleError.{CycleError}
use Rattle.ec_asking.specs.declared.answer.AlStatus.{AlStatus}
use Rattle.ec_wire.specs.declared.error.RunError.{RunError}
use Rattle.ec_wire.specs.declared.error.RunError.TheVariants.{Refused, Wire}
use Rattle.ec_wire.specs.declared.error.SocketFault.{SocketFault}
use Rattle.ec_wire.specs.Wires.{WireState}
use Rattle.ec_session.specs.Asking.{EndsAsked, GoesOn, ReadsStates, ReadsStatus, Stops, cleared}
use Rattle.ec_session.specs.Sessions.{SessionState}
use Rattle.ec_session.specs.Wired.{LosesAndCycles, Starts, run_refusal, with_number_used}
use Rattle.ec_session.proofs.Asked.{reads_keep_the_rest, status_reads_keep_the_rest}
use Rattle.ec_script.specs.declared.expectation.Expectation.{Expectation}
use Rattle.ec_script.specs.declared.expectation.Expectation.TheVariants as expects
use Rattle.ec_script.specs.declared.line.LineAction.{LineAction}
use Rattle.ec_script.specs.declared.line.LineAction.TheVariants as act
use Rattle.ec_script.specs.declared.output.LineOutput.{LineOutput}
use Rattle.ec_script.specs.declared.output.LineOutput.TheVariants as output
use Rattle.ec_script.specs.Expecting.{is_met}
use Rattle.ec_script.specs.Outputs.{is_done, is_unmet, output_if}
use Rattle.ec_console.specs.declared.wanted.Manner.{Manner}
use Rattle.cmd_master.specs.State.{MasteredState}
use Rattle.cmd_master.specs.Doing.{CyclesOn, Does, Either, Looks, ReadsOne, RunsCycle, Sets, StopsMachine, Tells, Waits, is_in_state, output_of_read, output_of_run, output_of_stop, view_of}

-- a master over a wire, by its parts
abbrev pub state_of : SessionState → WireState → Manner → List (Option AlStatus) → MasteredState
state_of s w manner states = record { session = s; wire = w; manner = manner; states = states }

either_true : (b : Bool) (x y : Type 0) → b ≡ true → x → Either b x y
either_true b x y is h = subst (λ (c : Bool). Either c x y) (sym is) h

either_false : (b : Bool) (x y : Type 0) → b ≡ false → y → Either b x y
either_false b x y is h = subst (λ (c : Bool). Either c x y) (sym is) h

-- ---- a start-up

pub started : (s c t : SessionState) (w v : WireState) (manner : Manner) (states : List (Option AlStatus)) → c ≡ cleared s → Starts c w t v → Does act.Ready (state_of s w manner states) (state_of t v manner states) output.Ended
started s c t w v manner states zeros starts = record { starts = subst (λ (x : SessionState). Starts x w t v) zeros starts; rest = (refl, refl); is = refl }

-- ---- a cycle

-- no other end of a cycle prints a fault
only_fault : (r : Result Unit RunError) → output_of_run r ≡ output.Fault → r ≡ Err Wire
only_fault (Ok done) is = let bad : output.Report ≡ output.Fault = is in cc
only_fault (Err Wire) is = refl
only_fault (Err (Refused e)) is = let bad : output.No ≡ output.Fault = is in cc

pub cycled : (s t : SessionState) (w v : WireState) (manner : Manner) (states : List (Option AlStatus)) (r : Result Unit RunError) (said : LineOutput) → said ≡ output_of_run r
    → (run_refusal s ≡ None → LosesAndCycles s w t v r) → ((e : CycleError) → run_refusal s ≡ Some e → r ≡ Err (Refused e)) → ((e : CycleError) → run_refusal s ≡ Some e → t ≡ s) → ((e : CycleError) → run_refusal s ≡ Some e → v ≡ w)
    → (r ≡ Err Wire → t ≡ with_number_used s) → Does act.Cycle (state_of s w manner states) (state_of t v manner states) said
cycled s t w v manner states r said is runs refused same_session same_wire faulted = by (run_refusal s) refl
  where
    by : (o : Option CycleError) → run_refusal s ≡ o → Does act.Cycle (state_of s w manner states) (state_of t v manner states) said
    by None none = either_true (is_none (run_refusal s)) (RunsCycle (state_of s w manner states) (state_of t v manner states) said) (Tells (state_of s w manner states) (state_of t v manner states) output.No said) (ap is_none none) (record {
      result = r;
      cycles = runs none;
      rest = (refl, refl);
      is = is;
      untaken = λ fault. faulted (only_fault r (sym is ∙ fault));
    })
    by (Some e) some = either_false (is_none (run_refusal s)) (RunsCycle (state_of s w manner states) (state_of t v manner states) said) (Tells (state_of s w manner states) (state_of t v manner states) output.No said) (ap is_none some) (record {
      same = ap (λ (x : SessionState). state_of x v manner states) (same_session e some) ∙ ap (λ (x : WireState). state_of s x manner states) (same_wire e some);
      is = is ∙ ap output_of_run (refused e some);
    })

-- ---- the machine is stopped

pub stopped : (s t : SessionState) (w v : WireState) (manner : Manner) (states : List (Option AlStatus)) (r : Result Unit RunError) (said : LineOutput) → said ≡ output_of_stop r
    → (run_refusal s ≡ None → Stops s w t v r) → ((e : CycleError) → run_refusal s ≡ Some e → r ≡ Err (Refused e)) → ((e : CycleError) → run_refusal s ≡ Some e → t ≡ s) → ((e : CycleError) → run_refusal s ≡ Some e → v ≡ w)
    → Does act.Stop (state_of s w manner states) (state_of t v manner states) said
stopped s t w v manner states r said is stops refused same_session same_wire = by (run_refusal s) refl
  where
    by : (o : Option CycleError) → run_refusal s ≡ o → Does act.Stop (state_of s w manner states) (state_of t v manner states) said
    by None none = either_true (is_none (run_refusal s)) (StopsMachine (state_of s w manner states) (state_of t v manner states) said) (Tells (state_of s w manner states) (state_of t v manner states) output.No said) (ap is_none none) (record {
      result = r;
      stops = stops none;
      rest = (refl, refl);
      is = is;
    })
    by (Some e) some = either_false (is_none (run_refusal s)) (StopsMachine (state_of s w manner states) (state_of t v manner states) said) (Tells (state_of s w manner states) (state_of t v manner states) output.No said) (ap is_none some) (record {
      same = ap (λ (x : SessionState). state_of x v manner states) (same_session e some) ∙ ap (λ (x : WireState). state_of s x manner states) (same_wire e some);
      is = is ∙ ap output_of_stop (refused e some);
    })

-- ---- AL states

-- what a vector has behind writes to all its elements
pub front_of : {X : Type 0} (xs ys : List X) (n : ℕ) → length xs ≡ n → take n (xs ++ ys) ≡ xs
front_of xs ys n e = ap (λ m. take m (xs ++ ys)) (sym e) ∙ take-append_seam xs ys

pub read_all : (s t : SessionState) (w v : WireState) (manner : Manner) (states told : List (Option AlStatus)) (r : Result Unit SocketFault) (said : LineOutput) → said ≡ output_of_read r → length told ≡ length states → ReadsStates s w told t v r
    → Does act.States (state_of s w manner states) (state_of t v manner told) said
read_all s t w v manner states told r said is count reads = record { result = r; count = count; reads = reads; manner = refl; is = is }

pub read_one : (slave : ℕ) (state : State) (code : Option ℕ) (s t : SessionState) (w v : WireState) (manner : Manner) (states : List (Option AlStatus)) (told : Result (Option AlStatus) SocketFault) (said : LineOutput)
    → ReadsStatus slave s w t v told → said ≡ output_if (is_in_state state code told) → Does (act.Expect (expects.State slave state code)) (state_of s w manner states) (state_of t v manner states) said
read_one slave state code s t w v manner states told said reads is = record { told = told; reads = reads; rest = (refl, refl); is = is }

-- what else is expected
pub expected_here : (e : Expectation) (s t : MasteredState) (said : LineOutput) → ((slave : ℕ) (state : State) (code : Option ℕ) → e ≡ expects.State slave state code → ⊥) → t ≡ s → said ≡ output_if (is_met e (view_of s.session))
    → Does (act.Expect e) s t said
expected_here (expects.State slave state code) s t said none same is = absurd (none slave state code refl)
expected_here _ s t said none same is = record { same = same; is = is }

-- ---- a variable

pub was_set : (variable value : ℕ) (s t : SessionState) (w : WireState) (manner : Manner) (states : List (Option AlStatus)) (b : Bool) → b ≡ holds_value value (slice_get s.master.plan.variables variable)
    → (b ≡ true → t ≡ record s { master = variable_set s.master variable value }) → b ≡ true → Does (act.Set variable value) (state_of s w manner states) (state_of t w manner states) output.Nothing
was_set variable value s t w manner states b answer done is =
    either_true (holds_value value (slice_get s.master.plan.variables variable)) (Sets variable value (state_of s w manner states) (state_of t w manner states) output.Nothing) (Tells (state_of s w manner states) (state_of t w manner states) output.No output.Nothing)
    (sym answer ∙ is) (record { session = ap (λ (x : SessionState). state_of x w manner states) (done is); is = refl })

pub was_kept : (variable value : ℕ) (s t : SessionState) (w : WireState) (manner : Manner) (states : List (Option AlStatus)) (b : Bool) → b ≡ holds_value value (slice_get s.master.plan.variables variable)
    → (b ≡ false → t ≡ s) → b ≡ false → Does (act.Set variable value) (state_of s w manner states) (state_of t w manner states) output.No
was_kept variable value s t w manner states b answer kept is =
    either_false (holds_value value (slice_get s.master.plan.variables variable)) (Sets variable value (state_of s w manner states) (state_of t w manner states) output.No) (Tells (state_of s w manner states) (state_of t w manner states) output.No output.No)
    (sym answer ∙ is) (record { same = ap (λ (x : SessionState). state_of x w manner states) (kept is); is = refl })

-- ---- the table stays

told_table : (s t : MasteredState) (what said : LineOutput) → Tells s t what said → t.session.table ≡ s.session.table
told_table s t what said h = ap (λ (m : MasteredState). m.session.table) h.same

set_table : (variable value : ℕ) (s t : MasteredState) (said : LineOutput) (b : Bool) → Either b (Sets variable value s t said) (Tells s t output.No said) → t.session.table ≡ s.session.table
set_table variable value s t said true h = ap (λ (m : MasteredState). m.session.table) h.session
set_table variable value s t said false h = told_table s t output.No said h

cycle_table : (s t : MasteredState) (said : LineOutput) (b : Bool) → Either b (RunsCycle s t said) (Tells s t output.No said) → t.session.table ≡ s.session.table
cycle_table s t said true h = ap (λ (x : SessionState). x.table) h.cycles.is
cycle_table s t said false h = told_table s t output.No said h

ended_table : (s t : SessionState) (told : Result (Option AlStatus) SocketFault) (answer : Result Unit RunError) → EndsAsked s told t answer → t.table ≡ s.table
ended_table s t (Ok told) answer h = ap (λ (x : SessionState). x.table) h.0
ended_table s t (Err fault) answer h = ap (λ (x : SessionState). x.table) h.0

gone_table : (ran : Result Unit RunError) (s t : SessionState) (w v : WireState) (answer : Result Unit RunError) → GoesOn ran s w t v answer → t.table ≡ s.table
gone_table (Ok done) s t w v answer h = ended_table h.mid t h.told answer h.ends ∙ ap (λ (x : SessionState). x.table) h.asked.is
gone_table (Err error) s t w v answer h = ap (λ (x : SessionState). x.table) h.0

stop_table : (s t : MasteredState) (said : LineOutput) (b : Bool) → Either b (StopsMachine s t said) (Tells s t output.No said) → t.session.table ≡ s.session.table
stop_table s t said true h =
    gone_table h.stops.ran h.stops.mid t.session h.stops.between t.wire h.result h.stops.goes_on ∙ ap (λ (x : SessionState). x.table) h.stops.cycles.is
stop_table s t said false h = told_table s t output.No said h

one_table : (slave : ℕ) (state : State) (code : Option ℕ) (s t : MasteredState) (said : LineOutput) → ReadsOne slave state code s t said → t.session.table ≡ s.session.table
one_table slave state code s t said h = ap (λ (x : SessionState). x.table) (status_reads_keep_the_rest slave s.session t.session s.wire t.wire h.told h.reads)

looks_table : (e : Expectation) (s t : MasteredState) (said : LineOutput) → Looks e s t said → t.session.table ≡ s.session.table
looks_table (expects.State slave state code) s t said h = one_table slave state code s t said h
looks_table (expects.Is v x) s t said h = ap (λ (m : MasteredState). m.session.table) h.same
looks_table (expects.Holds v x) s t said h = ap (λ (m : MasteredState). m.session.table) h.same
looks_table (expects.Never v) s t said h = ap (λ (m : MasteredState). m.session.table) h.same
looks_table (expects.Units taken) s t said h = ap (λ (m : MasteredState). m.session.table) h.same
looks_table (expects.Unit u taken) s t said h = ap (λ (m : MasteredState). m.session.table) h.same
looks_table expects.Ready s t said h = ap (λ (m : MasteredState). m.session.table) h.same
looks_table (expects.Failed number) s t said h = ap (λ (m : MasteredState). m.session.table) h.same

on_table : (P : Type 0) (what said : LineOutput) (s mid t : MasteredState) (b : Bool) → mid.session.table ≡ s.session.table → Either b P (Tells mid t what said) → (P → t.session.table ≡ mid.session.table)
    → t.session.table ≡ s.session.table
on_table P what said s mid t true first h f = f h ∙ first
on_table P what said s mid t false first h f = told_table mid t what said h ∙ first

waits_table : (n : ℕ) (e : Expectation) (s t : MasteredState) (said : LineOutput) → Waits n e s t said → t.session.table ≡ s.session.table
unfolding Waits
waits_table zero e s t said h = looks_table e s t said h
waits_table (suc n) e s t said h =
    on_table (CyclesOn (Waits n e) h.mid t said) h.told said s h.mid t (is_unmet h.told) (looks_table e s h.mid h.told h.looks) h.goes_on
    (λ x. on_table (Waits n e x.mid t said) output.Unmet said h.mid x.mid t (is_done x.ran) (cycle_table h.mid x.mid x.ran (is_none (run_refusal h.mid.session)) x.cycle) x.goes_on (waits_table n e x.mid t said))

-- ---- cycles until something holds

-- it holds already
pub holds_now : (n : ℕ) (e : Expectation) (s t : MasteredState) (told : LineOutput) → Looks e s t told → is_unmet told ≡ false → Waits (suc n) e s t told
unfolding Waits
holds_now n e s t told looks met = record { mid = t; told = told; looks = looks; goes_on = either_false (is_unmet told) (CyclesOn (Waits n e) t t told) (Tells t t told told) met (record { same = refl; is = refl }) }

-- it doesn't, and a cycle is run
pub went_on : (n : ℕ) (e : Expectation) (s mid next t : MasteredState) (told ran said : LineOutput) → Looks e s mid told → is_unmet told ≡ true → Does act.Cycle mid next ran → is_done ran ≡ true → Waits n e next t said
    → Waits (suc n) e s t said
unfolding Waits
went_on n e s mid next t told ran said looks missed cycle done rest = record {
  mid = mid;
  told = told;
  looks = looks;
  goes_on = either_true (is_unmet told) (CyclesOn (Waits n e) mid t said) (Tells mid t told said) missed (record {
    mid = next;
    ran = ran;
    cycle = cycle;
    goes_on = either_true (is_done ran) (Waits n e next t said) (Tells next t output.Unmet said) done rest;
  });
}

-- which isn't done
pub ended_there : (n : ℕ) (e : Expectation) (s mid t : MasteredState) (told ran : LineOutput) → Looks e s mid told → is_unmet told ≡ true → Does act.Cycle mid t ran → is_done ran ≡ false
    → Waits (suc n) e s t output.Unmet
unfolding Waits
ended_there n e s mid t told ran looks missed cycle stop = record {
  mid = mid;
  told = told;
  looks = looks;
  goes_on = either_true (is_unmet told) (CyclesOn (Waits n e) mid t output.Unmet) (Tells mid t told output.Unmet) missed (record {
    mid = t;
    ran = ran;
    cycle = cycle;
    goes_on = either_false (is_done ran) (Waits n e t t output.Unmet) (Tells t t output.Unmet output.Unmet) stop (record { same = refl; is = refl });
  });
}

-- no cycle is left
pub looked : (e : Expectation) (s t : MasteredState) (said : LineOutput) → Looks e s t said → Waits 0 e s t said
unfolding Waits
looked e s t said looks = looks

pub one_less : (n i : ℕ) → i < n → n - i ≡ suc (n - (i + 1))
one_less n i lt = omega arith

pub none_left : (n i : ℕ) → n ≤ i → n - i ≡ 0
none_left n i le = omega arith

pub table_stays : (action : LineAction) (s t : MasteredState) (said : LineOutput) → Does action s t said → t.session.table ≡ s.session.table
table_stays (act.Set v x) s t said h = set_table v x s t said (holds_value x (slice_get s.session.master.plan.variables v)) h
table_stays act.Ready s t said h = ap (λ (x : SessionState). x.table) h.starts.is
table_stays act.Cycle s t said h = cycle_table s t said (is_none (run_refusal s.session)) h
table_stays act.Stop s t said h = stop_table s t said (is_none (run_refusal s.session)) h
table_stays act.States s t said h = ap (λ (x : SessionState). x.table) (reads_keep_the_rest s.session t.session s.wire t.wire t.states h.result h.reads)
table_stays (act.Never v) s t said h = told_table s t output.No said h
table_stays (act.Expect e) s t said h = looks_table e s t said h
table_stays (act.Within n e) s t said h = waits_table n e s t said h
table_stays (act.ShowVariable v) s t said h = ap (λ (m : MasteredState). m.session.table) h.same
table_stays act.Show s t said h = ap (λ (m : MasteredState). m.session.table) h.same
table_stays act.Report s t said h = ap (λ (m : MasteredState). m.session.table) h.same
table_stays act.Start s t said h = told_table s t output.No said h
table_stays act.Begin s t said h = told_table s t output.No said h
table_stays (act.Pass k) s t said h = told_table s t output.No said h
table_stays (act.Lose k) s t said h = told_table s t output.No said h
table_stays (act.LosePart n k) s t said h = told_table s t output.No said h
table_stays (act.Output v) s t said h = told_table s t output.No said h
table_stays act.Served s t said h = told_table s t output.No said h
table_stays (act.Return k) s t said h = told_table s t output.No said h
table_stays act.Close s t said h = told_table s t output.No said h
table_stays (act.Serve k) s t said h = told_table s t output.No said h
table_stays (act.Put a b c) s t said h = told_table s t output.No said h
table_stays (act.Get a b) s t said h = told_table s t output.No said h
table_stays (act.Fail a) s t said h = told_table s t output.No said h
table_stays (act.Reset a) s t said h = told_table s t output.No said h
table_stays (act.Input v x) s t said h = told_table s t output.No said h
