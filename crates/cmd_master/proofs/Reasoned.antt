-- The text of a line and why behind it, and that reasons only add lines.
use Rattle.std.proofs.Common.{◌≡◌, ◌∙◌, ℕ, zero, suc, List, [], ◌++◌, Bool, true, false, Option, Result, Ok, Err, IfOk, String, Global, refl, sym, ap, subst, append-nil}
use Rattle.std.specs.Prelude.{is_none, slice_get, string_bytes}
use Rattle.ec_table.specs.Contents.{Contents}
use Rattle.ec_cycle.specs.Master.{holds_value}
use Rattle.ec_asking.specs.declared.answer.AlStatus.{AlStatus}
use Rattle.ec_session.specs.Sessions.{SessionState}
use Rattle.ec_session.specs.Wired.{run_refusal}
use Rattle.ec_script.specs.declared.expectation.Expectation.{Expectation}
use Rattle.ec_script.specs.declared.expectation.Expectation.TheVariants as expects
use Rattle.ec_script.specs.declared.line.Step.{Step}
use Rattle.ec_script.specs.declared.line.LineAction.{LineAction}
use Rattle.ec_script.specs.declared.line.LineAction.TheVariants as act
use Rattle.ec_script.specs.declared.output.LineOutput.{LineOutput}
use Rattle.ec_script.specs.declared.output.LineOutput.TheVariants as output
use Rattle.ec_start.specs.Running.{outcome_of}
use Rattle.ec_script.specs.Outputs.{answer_of, is_counted, is_done, is_unmet}
use Rattle.ec_script.specs.Texts.{output_text}
use Rattle.ec_script.specs.Views.{ViewState}
use Rattle.ec_console.specs.declared.wanted.Manner.{Manner}
use Rattle.ec_console.specs.Reasons.{Part, ReasonIf, unexplained}
use Rattle.ec_console.proofs.ReasonLemmas.{only_adds, reason_if, some_why}
use Rattle.ec_console.specs.Unmet.{unmet_of}
use Rattle.cmd_master.specs.State.{MasteredState}
use Rattle.cmd_master.specs.Doing.{CyclesOn, Does, Either, Looks, RunsCycle, Sets, StopsMachine, Tells, Waits, view_of}
use Rattle.cmd_master.specs.Saying.{SaysLine, is_reasoned, plain_text}
use Rattle.cmd_master.specs.Mastering.{manner_in}
use Rattle.cmd_master.specs.Stages.{IsLineText, IsReasonedText}
use Rattle.cmd_master.specs.Laws.{ReasonsOnlyAdd, SaysUntold, untold}

-- ---- a text and why behind it

-- the text of an output is that of the session
pub text_of : {E : Type 0} (r : Result (String Global) E) (s : SessionState) (states : List (Option AlStatus)) (t : Contents) (n : ℕ) (view : ViewState) (said : LineOutput) → t ≡ s.table → view ≡ view_of s
    → IfOk r (λ text. string_bytes text ≡ output_text t n view states said) → IfOk r (λ text. string_bytes text ≡ plain_text s states n said)
text_of r s states t n view said of_table seen is =
    subst (λ (v : ViewState). IfOk r (λ text. string_bytes text ≡ output_text s.table n v states said)) seen (subst (λ (x : Contents). IfOk r (λ text. string_bytes text ≡ output_text x n view states said)) of_table is)

-- no reason follows it
pub line_alone : {E : Type 0} (r : Result (String Global) E) (manner : Manner) (s : SessionState) (states : List (Option AlStatus)) (n : ℕ) (said : LineOutput) → is_reasoned manner s said ≡ false → IfOk r (λ text. string_bytes text ≡ plain_text s states n said)
    → IfOk r (λ text. IsLineText manner s states n said (string_bytes text))
line_alone (Ok text) manner s states n said none is = ([], subst (λ (b : Bool). ReasonIf b []) (sym none) refl, is ∙ sym (append-nil (plain_text s states n said)))
line_alone (Err e) manner s states n said none is = tt

-- or one does
pub line_reasoned : {E : Type 0} (r : Result (String Global) E) (manner : Manner) (s : SessionState) (states : List (Option AlStatus)) (n : ℕ) (said : LineOutput) → is_reasoned manner s said ≡ true → IfOk r (λ text. IsReasonedText s states n said (string_bytes text))
    → IfOk r (λ text. IsLineText manner s states n said (string_bytes text))
line_reasoned (Ok text) manner s states n said wanted (why, reason, is) = (why, subst (λ (b : Bool). ReasonIf b why) (sym wanted) reason, is)
line_reasoned (Err e) manner s states n said wanted h = tt

-- a text that a line may have, if there is no memory for it
pub some_line : (s : MasteredState) (line : Step) (t : MasteredState) (said : LineOutput) → Does line.action s t said → (printed : List ℕ) × (unmet : ℕ) × SaysLine s line t printed unmet
some_line s line t said does =
    let answer : LineOutput = answer_of line.expects_no said in
    let why = some_why (is_reasoned t.manner t.session answer) in (
      plain_text t.session t.states line.number answer ++ why.0,
      unmet_of (is_counted t.manner.strict (outcome_of t.session.startup.phase) answer),
      record { said = said; does = does; why = why.0; reason = why.1; text = refl; count = refl },
    )

-- a text that it has, by the session behind it and the states that were read
pub one_line : (s : MasteredState) (line : Step) (t now : MasteredState) (states : List (Option AlStatus)) (said answer : LineOutput) (text : List ℕ) (is_one : Bool) → Does line.action s t said → now ≡ t → states ≡ now.states
    → answer ≡ answer_of line.expects_no said → IsLineText now.manner now.session states line.number answer text → is_one ≡ is_counted now.manner.strict (outcome_of now.session.startup.phase) answer
    → SaysLine s line t text (unmet_of is_one)
one_line s line t now states said answer text is_one does same read is_answer prints counts =
    by (subst (λ (o : LineOutput). IsLineText t.manner t.session t.states line.number o text) is_answer
    (subst (λ (m : MasteredState). IsLineText m.manner m.session m.states line.number answer text) same (subst (λ (x : List (Option AlStatus)). IsLineText now.manner now.session x line.number answer text) read prints)))
    (counts ∙ (ap (λ (m : MasteredState). is_counted m.manner.strict (outcome_of m.session.startup.phase) answer) same
    ∙ ap (is_counted t.manner.strict (outcome_of t.session.startup.phase)) is_answer))
  where
    by : IsLineText t.manner t.session t.states line.number (answer_of line.expects_no said) text → is_one ≡ is_counted t.manner.strict (outcome_of t.session.startup.phase) (answer_of line.expects_no said)
        → SaysLine s line t text (unmet_of is_one)
    by (why, reason, is) count = record { said = said; does = does; why = why; reason = reason; text = is; count = ap unmet_of count }

-- ---- what a line does doesn't depend on reasons

untold_tells : (s t : MasteredState) (what said : LineOutput) → Tells s t what said → Tells (untold s) (untold t) what said
untold_tells s t what said h = record { same = ap untold h.same; is = h.is }

untold_set : (v x : ℕ) (s t : MasteredState) (said : LineOutput) (b : Bool) → Either b (Sets v x s t said) (Tells s t output.No said) → Either b (Sets v x (untold s) (untold t) said) (Tells (untold s) (untold t) output.No said)
untold_set v x s t said true h = record { session = ap untold h.session; is = h.is }
untold_set v x s t said false h = untold_tells s t output.No said h

untold_cycle : (s t : MasteredState) (said : LineOutput) (b : Bool) → Either b (RunsCycle s t said) (Tells s t output.No said) → Either b (RunsCycle (untold s) (untold t) said) (Tells (untold s) (untold t) output.No said)
untold_cycle s t said true h = record { result = h.result; cycles = h.cycles; rest = (ap unexplained h.rest.0, h.rest.1); is = h.is; untaken = h.untaken }
untold_cycle s t said false h = untold_tells s t output.No said h

untold_stop : (s t : MasteredState) (said : LineOutput) (b : Bool) → Either b (StopsMachine s t said) (Tells s t output.No said) → Either b (StopsMachine (untold s) (untold t) said) (Tells (untold s) (untold t) output.No said)
untold_stop s t said true h = record { result = h.result; stops = h.stops; rest = (ap unexplained h.rest.0, h.rest.1); is = h.is }
untold_stop s t said false h = untold_tells s t output.No said h

untold_looks : (e : Expectation) (s t : MasteredState) (said : LineOutput) → Looks e s t said → Looks e (untold s) (untold t) said
untold_looks (expects.State slave state code) s t said h = record { told = h.told; reads = h.reads; rest = (ap unexplained h.rest.0, h.rest.1); is = h.is }
untold_looks (expects.Is v x) s t said h = record { same = ap untold h.same; is = h.is }
untold_looks (expects.Holds v x) s t said h = record { same = ap untold h.same; is = h.is }
untold_looks (expects.Never v) s t said h = record { same = ap untold h.same; is = h.is }
untold_looks (expects.Units taken) s t said h = record { same = ap untold h.same; is = h.is }
untold_looks (expects.Unit u taken) s t said h = record { same = ap untold h.same; is = h.is }
untold_looks expects.Ready s t said h = record { same = ap untold h.same; is = h.is }
untold_looks (expects.Failed number) s t said h = record { same = ap untold h.same; is = h.is }

untold_on : (P Q : Type 0) (what said : LineOutput) (s t : MasteredState) (b : Bool) → (P → Q) → Either b P (Tells s t what said) → Either b Q (Tells (untold s) (untold t) what said)
untold_on P Q what said s t true f h = f h
untold_on P Q what said s t false f h = untold_tells s t what said h

untold_waits : (n : ℕ) (e : Expectation) (s t : MasteredState) (said : LineOutput) → Waits n e s t said → Waits n e (untold s) (untold t) said
unfolding Waits
untold_waits zero e s t said h = untold_looks e s t said h
untold_waits (suc n) e s t said h = record {
  mid = untold h.mid;
  told = h.told;
  looks = untold_looks e s h.mid h.told h.looks;
  goes_on = untold_on (CyclesOn (Waits n e) h.mid t said) (CyclesOn (Waits n e) (untold h.mid) (untold t) said) h.told said h.mid t (is_unmet h.told) (λ x. record {
    mid = untold x.mid;
    ran = x.ran;
    cycle = untold_cycle h.mid x.mid x.ran (is_none (run_refusal h.mid.session)) x.cycle;
    goes_on = untold_on (Waits n e x.mid t said) (Waits n e (untold x.mid) (untold t) said) output.Unmet said x.mid t (is_done x.ran) (untold_waits n e x.mid t said) x.goes_on;
  }) h.goes_on;
}

untold_does : (action : LineAction) (s t : MasteredState) (said : LineOutput) → Does action s t said → Does action (untold s) (untold t) said
untold_does (act.Set v x) s t said h = untold_set v x s t said (holds_value x (slice_get s.session.master.plan.variables v)) h
untold_does act.Ready s t said h = record { starts = h.starts; rest = (ap unexplained h.rest.0, h.rest.1); is = h.is }
untold_does act.Stop s t said h = untold_stop s t said (is_none (run_refusal s.session)) h
untold_does act.States s t said h = record { result = h.result; count = h.count; reads = h.reads; manner = ap unexplained h.manner; is = h.is }
untold_does act.Cycle s t said h = untold_cycle s t said (is_none (run_refusal s.session)) h
untold_does (act.Never v) s t said h = untold_tells s t output.No said h
untold_does (act.Expect e) s t said h = untold_looks e s t said h
untold_does (act.Within n e) s t said h = untold_waits n e s t said h
untold_does act.Show s t said h = record { same = ap untold h.same; is = h.is }
untold_does (act.ShowVariable v) s t said h = record { same = ap untold h.same; is = h.is }
untold_does act.Report s t said h = record { same = ap untold h.same; is = h.is }
untold_does act.Start s t said h = untold_tells s t output.No said h
untold_does act.Begin s t said h = untold_tells s t output.No said h
untold_does (act.Pass k) s t said h = untold_tells s t output.No said h
untold_does (act.Lose k) s t said h = untold_tells s t output.No said h
untold_does (act.LosePart n k) s t said h = untold_tells s t output.No said h
untold_does (act.Output v) s t said h = untold_tells s t output.No said h
untold_does act.Served s t said h = untold_tells s t output.No said h
untold_does (act.Return k) s t said h = untold_tells s t output.No said h
untold_does act.Close s t said h = untold_tells s t output.No said h
untold_does (act.Serve k) s t said h = untold_tells s t output.No said h
untold_does (act.Put k i x) s t said h = untold_tells s t output.No said h
untold_does (act.Get k i) s t said h = untold_tells s t output.No said h
untold_does (act.Fail k) s t said h = untold_tells s t output.No said h
untold_does (act.Reset k) s t said h = untold_tells s t output.No said h
untold_does (act.Input v x) s t said h = untold_tells s t output.No said h

-- ---- lines with reasons and without

-- no reason follows an output, if none is wanted
unreasoned : (manner : Manner) (s : SessionState) (said : LineOutput) → ReasonIf (is_reasoned (unexplained manner) s said) []
unreasoned manner s output.No = refl
unreasoned manner s output.Unmet = refl
unreasoned manner s output.Fault = refl
unreasoned manner s output.Ended = refl
unreasoned manner s _ = refl

untold_line : (s : MasteredState) (line : Step) (t : MasteredState) (printed : List ℕ) (unmet : ℕ) (h : SaysLine s line t printed unmet) → SaysUntold s line t (plain_text t.session t.states line.number (answer_of line.expects_no h.said)) unmet
untold_line s line t printed unmet h = record {
  said = h.said;
  does = untold_does line.action s t h.said h.does;
  why = [];
  reason = unreasoned t.manner t.session (answer_of line.expects_no h.said);
  text = sym (append-nil (plain_text t.session t.states line.number (answer_of line.expects_no h.said)));
  count = h.count;
}

-- each line
line_adds : (s : MasteredState) (line : Step) (t : MasteredState) (printed : List ℕ) (unmet : ℕ) → SaysLine s line t printed unmet
    → (part : Part) × (printed ≡ part.said ++ part.why) × SaysUntold s line t part.said unmet
line_adds s line t printed unmet h =
    (record { said = plain_text t.session t.states line.number (answer_of line.expects_no h.said); why = h.why; is = reason_if _ h.why h.reason }, h.text, untold_line s line t printed unmet h)

pub reasons_only_add : ReasonsOnlyAdd
reasons_only_add = only_adds SaysLine SaysUntold line_adds manner_in
