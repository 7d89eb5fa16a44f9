-- Telling reasons only adds lines.
use Rattle.std.proofs.Common.{◌≡◌, ℕ, List, ◌++◌, [], refl, sym, append-nil}
use Rattle.ec_table.specs.Contents.{Contents}
use Rattle.ec_world.specs.World.{WorldState}
use Rattle.ec_script.specs.declared.line.Step.{Step}
use Rattle.ec_script.specs.declared.output.LineOutput.{LineOutput}
use Rattle.ec_script.specs.declared.output.LineOutput.TheVariants as output
use Rattle.ec_script.specs.Outputs.{answer_of}
use Rattle.ec_script.specs.Texts.{output_text}
use Rattle.ec_simulation.specs.Statuses.{statuses}
use Rattle.ec_simulation.specs.Views.{view_of}
use Rattle.ec_console.specs.declared.wanted.Manner.{Manner}
use Rattle.ec_console.specs.Reasons.{Part, ReasonIf, unexplained}
use Rattle.ec_console.proofs.ReasonLemmas.{only_adds, reason_if}
use Rattle.cmd_sim.specs.Laws.{ReasonsOnlyAdd}
use Rattle.cmd_sim.specs.Simulating.{SaysLine, is_reasoned}

-- no reason follows an output, if none is wanted
unreasoned : (manner : Manner) (said : LineOutput) → ReasonIf (is_reasoned (unexplained manner) said) []
unreasoned manner output.No = refl
unreasoned manner output.Unmet = refl
unreasoned manner _ = refl

untold : (manner : Manner) (t : Contents) (w : WorldState) (line : Step) (new : WorldState) (printed : List ℕ) (unmet : ℕ) (h : SaysLine manner t w line new printed unmet)
    → SaysLine (unexplained manner) t w line new (output_text t line.number (view_of new) (statuses new) (answer_of line.expects_no h.said)) unmet
untold manner t w line new printed unmet h = record {
  said = h.said;
  does = h.does;
  run = h.run;
  why = [];
  reason = unreasoned manner (answer_of line.expects_no h.said);
  text = sym (append-nil (output_text t line.number (view_of new) (statuses new) (answer_of line.expects_no h.said)));
  count = h.count;
}

-- each line
line_adds : (manner : Manner) (t : Contents) (w : WorldState) (line : Step) (new : WorldState) (printed : List ℕ) (unmet : ℕ) → SaysLine manner t w line new printed unmet
    → (part : Part) × (printed ≡ part.said ++ part.why) × SaysLine (unexplained manner) t w line new part.said unmet
line_adds manner t w line new printed unmet h =
    (record { said = output_text t line.number (view_of new) (statuses new) (answer_of line.expects_no h.said); why = h.why; is = reason_if _ h.why h.reason }, h.text, untold manner t w line new printed unmet h)

pub reasons_only_add : ReasonsOnlyAdd
reasons_only_add manner t = only_adds (SaysLine manner t) (SaysLine (unexplained manner) t) (line_adds manner t) (λ v. manner)
