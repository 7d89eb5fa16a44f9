-- What private code returns. You don't need it to read what is printed.
use Rattle.std.specs.Prelude.{◌≡◌, ◌++◌, ℕ, List, Option, Result}
use Rattle.ec_asking.specs.declared.answer.AlStatus.{AlStatus}
use Rattle.ec_diagnostic.specs.Reason.{IsReason}
use Rattle.ec_session.specs.Sessions.{SessionState}
use Rattle.ec_script.specs.declared.line.Step.{Step}
use Rattle.ec_script.specs.declared.output.LineOutput.{LineOutput}
use Rattle.ec_console.specs.declared.refusal.Refusal.{Refusal}
use Rattle.ec_console.specs.declared.wanted.Manner.{Manner}
use Rattle.ec_console.specs.Coming.{ComesOut, ComesPart, Reader}
use Rattle.ec_console.specs.Given.{Given}
use Rattle.ec_console.specs.Printing.{OutputState}
use Rattle.ec_console.specs.Reasons.{ReasonIf}
use Rattle.ec_console.specs.Saying.{EndsRun}
use Rattle.cmd_master.specs.Saying.{is_reasoned, plain_text}

-- the text of line n, with a reason behind it
abbrev pub IsReasonedText : SessionState → List (Option AlStatus) → ℕ → LineOutput → List ℕ → Type 0
IsReasonedText s states n said text = (why : List ℕ) × IsReason why × (text ≡ plain_text s states n said ++ why)

-- the text of line n, with the reason behind it that it may have
abbrev pub IsLineText : Manner → SessionState → List (Option AlStatus) → ℕ → LineOutput → List ℕ → Type 0
IsLineText manner s states n said text = (why : List ℕ) × ReasonIf (is_reasoned manner s said) why × (text ≡ plain_text s states n said ++ why)

-- the lines of an input lead a target to another state, or some of them do
abbrev pub RunsTarget : {S : Type 0} → (S → Step → S → List ℕ → ℕ → Type 0) → (told : S → Manner) → Reader → (begun last : S) → (input : Given) → (old new : OutputState) → Result Unit Refusal → Type 0
RunsTarget {S} one told read begun last input old new ended =
    EndsRun (λ unmet. ComesOut one told read begun input.bytes last unmet old new) (ComesPart one told read begun input.bytes last old new) input.is_refused old new ended
