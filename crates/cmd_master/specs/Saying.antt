-- What a line of `ecat master` prints, done once (this project's profile). `ec_script` defines the text of an output.
use Rattle.std.specs.Prelude.{◌≡◌, ◌++◌, ◌&&◌, ℕ, List, Bool, false, Option, None}
use Rattle.ec_start.specs.Running.{outcome_of}
use Rattle.ec_asking.specs.declared.answer.AlStatus.{AlStatus}
use Rattle.ec_session.specs.Sessions.{SessionState}
use Rattle.ec_script.specs.declared.line.Step.{Step}
use Rattle.ec_script.specs.declared.output.LineOutput.{LineOutput}
use Rattle.ec_script.specs.declared.output.LineOutput.TheVariants.{No, Ended, Fault, Unmet}
use Rattle.ec_script.specs.Expecting.{is_failed}
use Rattle.ec_script.specs.Outputs.{answer_of, is_counted}
use Rattle.ec_script.specs.Texts.{output_text}
use Rattle.ec_console.specs.declared.wanted.Manner.{Manner}
use Rattle.ec_console.specs.Reasons.{ReasonIf}
use Rattle.ec_console.specs.Unmet.{unmet_of}
use Rattle.cmd_master.specs.State.{MasteredState}
use Rattle.cmd_master.specs.Doing.{Does, view_of}

-- the outputs that a reason follows, if reasons are wanted: that a step can't be done, that what is expected isn't so, that a start-up has
-- failed, and that a call of the wire was a fault
abbrev pub is_reasoned : Manner → SessionState → LineOutput → Bool
is_reasoned manner s No = manner.explained
is_reasoned manner s Unmet = manner.explained
is_reasoned manner s Fault = manner.explained
is_reasoned manner s Ended = manner.explained && is_failed None (outcome_of s.startup.phase)
is_reasoned manner s _ = false

-- what line n prints for an output, by the session behind it and the AL states that were read last
abbrev pub plain_text : SessionState → List (Option AlStatus) → ℕ → LineOutput → List ℕ
plain_text s states n said = output_text s.table n (view_of s) states said

-- A step of a line is done, the same with and without reasons. It prints the text of its output. Why it can't be done, has failed or isn't
-- met stands behind that, if reasons are wanted.
pub record SaysLine (s : MasteredState) (line : Step) (t : MasteredState) (printed : List ℕ) (unmet : ℕ) : Type 0 where
  pub said : LineOutput
  pub does : Does line.action s t said
  pub why : List ℕ
  pub reason : ReasonIf (is_reasoned t.manner t.session (answer_of line.expects_no said)) why
  pub text : printed ≡ plain_text t.session t.states line.number (answer_of line.expects_no said) ++ why
  pub count : unmet ≡ unmet_of (is_counted t.manner.strict (outcome_of t.session.startup.phase) (answer_of line.expects_no said))
