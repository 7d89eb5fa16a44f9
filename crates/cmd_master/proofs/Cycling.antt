-- Behind lines of a new master, a cycle can be run exactly if the last start-up ended Ready and a number is left.
use Rattle.std.proofs.Common.{◌≡◌, ◌∙◌, ℕ, zero, suc, List, [], ◌∷◌, Bool, true, false, Option, Some, None, Result, Ok, Err, refl, sym, ap, subst, if◌then◌else◌}
use Rattle.std.specs.Prelude.{◌&&◌, is_none, is_some, nat_lt, slice_get}
use Rattle.ec_table.specs.Contents.{Contents}
use Rattle.ec_start.specs.Running.{StartState, begun}
use Rattle.ec_cycle.specs.Closing.{ReportState}
use Rattle.ec_cycle.specs.Master.{MasterState, OpenCycle, cycle_limit, holds_value, readied}
use Rattle.ec_cycle.specs.declared.error.CycleError.TheVariants.{NotReady, NumbersSpent, Open}
use Rattle.ec_al.specs.declared.state.State.{State}
use Rattle.ec_asking.specs.declared.answer.AlStatus.{AlStatus}
use Rattle.ec_wire.specs.declared.error.RunError.{RunError}
use Rattle.ec_wire.specs.declared.error.SocketFault.{SocketFault}
use Rattle.ec_wire.specs.Wires.{WireState}
use Rattle.ec_session.specs.Sessions.{SessionState, is_up, new_session}
use Rattle.ec_session.specs.Asking.{EndsAsked, GoesOn, cleared, stopped, with_asked}
use Rattle.ec_session.specs.Wired.{LosesAndCycles, run_refusal, start_again, with_run, with_start}
use Rattle.ec_session.proofs.Asked.{clearing_keeps_the_rest, reads_keep_the_rest, status_reads_keep_the_rest}
use Rattle.ec_session.proofs.Wiring.{lossy_runs_keep_the_rest}
use Rattle.ec_script.specs.declared.expectation.Expectation.{Expectation}
use Rattle.ec_script.specs.declared.expectation.Expectation.TheVariants as expects
use Rattle.ec_script.specs.declared.line.Task.{Task}
use Rattle.ec_script.specs.declared.line.Task.TheVariants as task
use Rattle.ec_script.specs.declared.line.LineAction.{LineAction}
use Rattle.ec_script.specs.declared.line.LineAction.TheVariants as act
use Rattle.ec_script.specs.declared.output.LineOutput.{LineOutput}
use Rattle.ec_script.specs.declared.output.LineOutput.TheVariants as output
use Rattle.ec_script.specs.Outputs.{is_done, is_unmet}
use Rattle.ec_console.specs.Saying.{Says, SaysTask}
use Rattle.cmd_master.specs.State.{MasteredState}
use Rattle.cmd_master.specs.Doing.{CyclesOn, Does, Either, Looks, ReadsOne, RunsCycle, Sets, StopsMachine, Tells, Waits}
use Rattle.cmd_master.specs.Saying.{SaysLine}
use Rattle.cmd_master.specs.Laws.{CyclesCanRun}
use Rattle.cmd_master.specs.Mastering.{begun_over}

-- no cycle is open, and a master whose last start-up ended Ready can begin one
record Holds (s : SessionState) : Type 0 where
  none_open : s.master.cycle ≡ None
  up : is_up s.startup.phase ≡ true → s.master.is_ready ≡ true

holds_new : (t : Contents) → Holds (new_session t)
unfolding begun
holds_new t = record { none_open = refl; up = λ is. let bad : false ≡ true = is in cc }

-- ---- a start-up

ready_open : (b : Bool) (m : MasterState) (n : ℕ) → m.cycle ≡ None → (let x : MasterState = if b then readied m n else m in x.cycle) ≡ None
ready_open true m n none = none
ready_open false m n none = none

ready_up : (b : Bool) (m : MasterState) (n : ℕ) → b ≡ true → (let x : MasterState = if b then readied m n else m in x.is_ready) ≡ true
ready_up true m n up = refl
ready_up false m n up = let bad : false ≡ true = up in cc

holds_started : (s : SessionState) (start : StartState) → Holds s → Holds (with_start s start)
holds_started s start h = record {
  none_open = ready_open (is_up start.phase) s.master start.next h.none_open;
  up = λ up. ready_up (is_up start.phase) s.master start.next up;
}

-- ---- a cycle

holds_run : (s : SessionState) (ended : Result ReportState RunError) (after : MasterState) → Holds s → after.cycle ≡ None → after.is_ready ≡ s.master.is_ready → Holds (with_run s ended after)
holds_run s ended after h none ready = record { none_open = none; up = λ up. ready ∙ h.up up }

holds_ran : (s t : SessionState) (w v : WireState) (r : Result Unit RunError) → LosesAndCycles s w t v r → Holds s → Holds t
holds_ran s t w v r h held =
    let rest = lossy_runs_keep_the_rest s.master w v h.ended h.after h.run in
    subst Holds (sym h.is) (holds_run s h.ended h.after held (ap (λ (m : MasterState). m.cycle) rest) (ap (λ (m : MasterState). m.is_ready) rest))

-- ---- the outputs are 0

holds_cleared : (s : SessionState) → Holds s → Holds (cleared s)
holds_cleared s h =
    let rest = clearing_keeps_the_rest s.master in
    record { none_open = ap (λ (m : MasterState). m.cycle) rest ∙ h.none_open; up = λ up. ap (λ (m : MasterState). m.is_ready) rest ∙ h.up up }

-- ---- questions

holds_asked : (s : SessionState) → Holds s → Holds (with_asked s)
holds_asked s h = record { none_open = h.none_open; up = h.up }

holds_counted : (s t : SessionState) → t ≡ record s { asked = t.asked } → Holds s → Holds t
holds_counted s t is h = subst Holds (sym is) (record { none_open = h.none_open; up = h.up })

not_up : (s : SessionState) → is_up (start_again s).phase ≡ false
unfolding begun
not_up s = refl

holds_stopped : (s : SessionState) → Holds s → Holds (stopped s)
holds_stopped s h = record { none_open = h.none_open; up = λ up. (let bad : false ≡ true = sym (not_up s) ∙ up in cc) }

holds_ended : (s t : SessionState) (told : Result (Option AlStatus) SocketFault) (answer : Result Unit RunError) → EndsAsked s told t answer → Holds s → Holds t
holds_ended s t (Ok told) answer h held = subst Holds (sym h.0) (holds_stopped s held)
holds_ended s t (Err fault) answer h held = subst Holds (sym h.0) held

holds_gone : (ran : Result Unit RunError) (s t : SessionState) (w v : WireState) (answer : Result Unit RunError) → GoesOn ran s w t v answer → Holds s → Holds t
holds_gone (Ok done) s t w v answer h held = holds_ended h.mid t h.told answer h.ends (subst Holds (sym h.asked.is) (holds_asked s held))
holds_gone (Err error) s t w v answer h held = subst Holds (sym h.0) held

-- ---- a line

holds_told : (s t : MasteredState) (what said : LineOutput) → Tells s t what said → Holds s.session → Holds t.session
holds_told s t what said h held = subst (λ (m : MasteredState). Holds m.session) (sym h.same) held

holds_set : (v x : ℕ) (s t : MasteredState) (said : LineOutput) (b : Bool) → Either b (Sets v x s t said) (Tells s t output.No said) → Holds s.session → Holds t.session
holds_set v x s t said true h held = subst (λ (m : MasteredState). Holds m.session) (sym h.session) (record { none_open = held.none_open; up = held.up })
holds_set v x s t said false h held = holds_told s t output.No said h held

holds_cycled : (s t : MasteredState) (said : LineOutput) (b : Bool) → Either b (RunsCycle s t said) (Tells s t output.No said) → Holds s.session → Holds t.session
holds_cycled s t said true h held = holds_ran s.session t.session s.wire t.wire h.result h.cycles held
holds_cycled s t said false h held = holds_told s t output.No said h held

holds_stop : (s t : MasteredState) (said : LineOutput) (b : Bool) → Either b (StopsMachine s t said) (Tells s t output.No said) → Holds s.session → Holds t.session
holds_stop s t said true h held =
    holds_gone h.stops.ran h.stops.mid t.session h.stops.between t.wire h.result h.stops.goes_on
    (holds_ran (cleared s.session) h.stops.mid s.wire h.stops.between h.stops.ran h.stops.cycles (holds_cleared s.session held))
holds_stop s t said false h held = holds_told s t output.No said h held

holds_one : (slave : ℕ) (state : State) (code : Option ℕ) (s t : MasteredState) (said : LineOutput) → ReadsOne slave state code s t said → Holds s.session → Holds t.session
holds_one slave state code s t said h held = holds_counted s.session t.session (status_reads_keep_the_rest slave s.session t.session s.wire t.wire h.told h.reads) held

holds_looked : (e : Expectation) (s t : MasteredState) (said : LineOutput) → Looks e s t said → Holds s.session → Holds t.session
holds_looked (expects.State slave state code) s t said h held = holds_one slave state code s t said h held
holds_looked (expects.Is v x) s t said h held = subst (λ (m : MasteredState). Holds m.session) (sym h.same) held
holds_looked (expects.Holds v x) s t said h held = subst (λ (m : MasteredState). Holds m.session) (sym h.same) held
holds_looked (expects.Never v) s t said h held = subst (λ (m : MasteredState). Holds m.session) (sym h.same) held
holds_looked (expects.Units taken) s t said h held = subst (λ (m : MasteredState). Holds m.session) (sym h.same) held
holds_looked (expects.Unit u taken) s t said h held = subst (λ (m : MasteredState). Holds m.session) (sym h.same) held
holds_looked expects.Ready s t said h held = subst (λ (m : MasteredState). Holds m.session) (sym h.same) held
holds_looked (expects.Failed number) s t said h held = subst (λ (m : MasteredState). Holds m.session) (sym h.same) held

holds_on : (P : Type 0) (what said : LineOutput) (mid t : MasteredState) (b : Bool) → Holds mid.session → Either b P (Tells mid t what said) → (P → Holds mid.session → Holds t.session) → Holds t.session
holds_on P what said mid t true held h f = f h held
holds_on P what said mid t false held h f = holds_told mid t what said h held

holds_waited : (n : ℕ) (e : Expectation) (s t : MasteredState) (said : LineOutput) → Waits n e s t said → Holds s.session → Holds t.session
unfolding Waits
holds_waited zero e s t said h held = holds_looked e s t said h held
holds_waited (suc n) e s t said h held =
    holds_on (CyclesOn (Waits n e) h.mid t said) h.told said h.mid t (is_unmet h.told) (holds_looked e s h.mid h.told h.looks held) h.goes_on
    (λ x seen. holds_on (Waits n e x.mid t said) output.Unmet said x.mid t (is_done x.ran) (holds_cycled h.mid x.mid x.ran (is_none (run_refusal h.mid.session)) x.cycle seen) x.goes_on (holds_waited n e x.mid t said))

holds_done : (action : LineAction) (s t : MasteredState) (said : LineOutput) → Does action s t said → Holds s.session → Holds t.session
holds_done (act.Set v x) s t said h held = holds_set v x s t said (holds_value x (slice_get s.session.master.plan.variables v)) h held
holds_done act.Ready s t said h held = subst Holds (sym h.starts.is) (holds_started (cleared s.session) h.starts.start (holds_cleared s.session held))
holds_done act.Stop s t said h held = holds_stop s t said (is_none (run_refusal s.session)) h held
holds_done act.States s t said h held = holds_counted s.session t.session (reads_keep_the_rest s.session t.session s.wire t.wire t.states h.result h.reads) held
holds_done act.Cycle s t said h held = holds_cycled s t said (is_none (run_refusal s.session)) h held
holds_done (act.Never v) s t said h held = holds_told s t output.No said h held
holds_done (act.Expect e) s t said h held = holds_looked e s t said h held
holds_done (act.Within n e) s t said h held = holds_waited n e s t said h held
holds_done (act.ShowVariable v) s t said h held = subst (λ (m : MasteredState). Holds m.session) (sym h.same) held
holds_done act.Show s t said h held = holds_told s t output.Values said h held
holds_done act.Report s t said h held = subst (λ (m : MasteredState). Holds m.session) (sym h.same) held
holds_done act.Start s t said h held = holds_told s t output.No said h held
holds_done act.Begin s t said h held = holds_told s t output.No said h held
holds_done (act.Pass k) s t said h held = holds_told s t output.No said h held
holds_done (act.Lose k) s t said h held = holds_told s t output.No said h held
holds_done (act.LosePart n k) s t said h held = holds_told s t output.No said h held
holds_done (act.Output v) s t said h held = holds_told s t output.No said h held
holds_done act.Served s t said h held = holds_told s t output.No said h held
holds_done (act.Return k) s t said h held = holds_told s t output.No said h held
holds_done act.Close s t said h held = holds_told s t output.No said h held
holds_done (act.Serve k) s t said h held = holds_told s t output.No said h held
holds_done (act.Put k i x) s t said h held = holds_told s t output.No said h held
holds_done (act.Get k i) s t said h held = holds_told s t output.No said h held
holds_done (act.Fail k) s t said h held = holds_told s t output.No said h held
holds_done (act.Reset k) s t said h held = holds_told s t output.No said h held
holds_done (act.Input v x) s t said h held = holds_told s t output.No said h held

holds_task : (s : MasteredState) (x : Task) (t : MasteredState) (text : List ℕ) (unmet : ℕ) → SaysTask SaysLine s x t text unmet → Holds s.session → Holds t.session
holds_task s (task.Step step) t text unmet h held = holds_done step.action s t h.said h.does held
holds_task s (task.Echo said) t text unmet h held = subst (λ (m : MasteredState). Holds m.session) (sym h.0) held

holds_said : (s : MasteredState) (lines : List Task) (t : MasteredState) (printed : List ℕ) (unmet : ℕ) → Says SaysLine s lines t printed unmet → Holds s.session → Holds t.session
holds_said s [] t printed unmet h held = subst (λ (m : MasteredState). Holds m.session) (sym h.0) held
holds_said s (line ∷ lines) t printed unmet (mid, text, more, first, rest, one, says, is, count) held = holds_said mid lines t more rest says (holds_task s line mid text first one held)

-- ---- what that decides

free : (up ready : Bool) (o : Option OpenCycle) (left : Bool) → o ≡ None → (up ≡ true → ready ≡ true)
    → is_none (if up then (if ready then (if is_some o then Some Open else (if left then None else Some NumbersSpent)) else Some NotReady) else Some NotReady) ≡ (up && left)
free true true None true none can = refl
free true true None false none can = refl
free true true (Some c) left none can = let bad : Some c ≡ None = none in cc
free true false o left none can = let bad : false ≡ true = can refl in cc
free false ready o left none can = refl

pub cycles_can_run : CyclesCanRun
cycles_can_run manner t w lines s printed unmet says =
    let held = holds_said (begun_over manner t w) lines s printed unmet says (holds_new t) in
    free (is_up s.session.startup.phase) s.session.master.is_ready s.session.master.cycle (nat_lt s.session.master.next cycle_limit) held.none_open held.up
