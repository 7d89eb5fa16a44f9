-- What a line does to a live segment, and what it prints (this project's profile). What it does to slaves is what it does in `ecat sim`.
use Rattle.std.specs.Prelude.{◌≡◌, ◌++◌, ◌∷◌, [], ℕ, List, length, nat_lt, slice_get, Bool, true, false, Option, Some, None, codes}
use Rattle.std.specs.Fmt.{decimal}
use Rattle.ec_start.specs.Running.{outcome_of}
use Rattle.ec_table.specs.Contents.{Contents}
use Rattle.ec_table.specs.declared.rows.Direction.{Direction}
use Rattle.ec_table.specs.declared.rows.Direction.TheVariants.{Out, In}
use Rattle.ec_table.specs.declared.rows.VariableRow.{VariableRow}
use Rattle.ec_script.specs.declared.expectation.Expectation.{Expectation}
use Rattle.ec_script.specs.declared.expectation.Expectation.TheVariants as expects
use Rattle.ec_script.specs.declared.line.Step.{Step}
use Rattle.ec_script.specs.declared.line.LineAction.{LineAction}
use Rattle.ec_script.specs.declared.line.LineAction.TheVariants.{Expect, Fail, Get, Input, Lose, LosePart, Never, Output, Put, Reset, Served}
use Rattle.ec_script.specs.declared.output.LineOutput.{LineOutput}
use Rattle.ec_script.specs.declared.output.LineOutput.TheVariants.{No, Nothing}
use Rattle.ec_script.specs.Outputs.{answer_of, is_counted}
use Rattle.ec_script.specs.Texts.{output_text}
use Rattle.ec_simulation.specs.Statuses.{statuses}
use Rattle.ec_simulation.specs.Views.{view_of}
use Rattle.ec_console.specs.Reasons.{ReasonIf}
use Rattle.ec_console.specs.Unmet.{unmet_of}
use Rattle.cmd_sim.specs.Simulating.{SaysLine, is_reasoned}
use Rattle.ec_live.specs.Drops.{dropping, dropping_part}
use Rattle.ec_live.specs.State.{LiveState}

-- ---- which lines it takes

abbrev pub is_from_master : Direction → Bool
is_from_master Out = true
is_from_master In = false

abbrev pub is_output : Option VariableRow → Bool
is_output None = false
is_output (Some row) = is_from_master row.direction

-- It sees what slaves publish of a master's outputs, and their AL states. It doesn't see the master.
abbrev pub is_seen : List VariableRow → Expectation → Bool
is_seen rows (expects.Is v x) = is_output (slice_get rows v)
is_seen rows (expects.Holds v test) = is_output (slice_get rows v)
is_seen rows (expects.Never v) = is_output (slice_get rows v)
is_seen rows (expects.State s state code) = true
is_seen rows _ = false

-- the plant's lines, those about frames, and expectations that it sees; a line with another action is bad
abbrev pub takes_action : Contents → LineAction → Bool
takes_action t (Input v x) = true
takes_action t (Never v) = true
takes_action t (Put s i x) = true
takes_action t (Get s i) = true
takes_action t (Fail s) = true
takes_action t (Reset s) = true
takes_action t (Output v) = true
takes_action t (Lose n) = true
takes_action t (LosePart n k) = true
takes_action t Served = true
takes_action t (Expect e) = is_seen t.variables e
takes_action t _ = false

-- ---- what they do

-- the line that says how many frames were answered, and how many other payloads came
abbrev pub served_line : ℕ → ℕ → List ℕ
served_line answered refused = codes "served " ++ (decimal answered ++ (codes " refused " ++ (decimal refused ++ 10 ∷ [])))

-- The segment is `u` now, and the output is this, with a reason behind its text if reasons are wanted.
pub record Tells (said : LineOutput) (u : LiveState) (line : Step) (t : LiveState) (printed : List ℕ) (unmet : ℕ) : Type 0 where
  pub is : t ≡ u
  pub why : List ℕ
  pub reason : ReasonIf (is_reasoned u.manner (answer_of line.expects_no said)) why
  pub text : printed ≡ output_text u.table line.number (view_of u.world) (statuses u.world) (answer_of line.expects_no said) ++ why
  pub count : unmet ≡ unmet_of (is_counted u.manner.strict (outcome_of u.world.start.phase) (answer_of line.expects_no said))

-- How many frames were answered, and how many other payloads came, is printed; of a line that expects `no`, that it isn't so.
abbrev pub TellsServed : Bool → LiveState → Step → LiveState → List ℕ → ℕ → Type 0
TellsServed false s line t printed unmet = (t ≡ s) × (printed ≡ served_line s.answered s.refused) × (unmet ≡ 0)
TellsServed true s line t printed unmet = Tells Nothing s line t printed unmet

-- a line does to the slaves what it does to those of a simulated segment, and prints the same
pub record SaysInWorld (s : LiveState) (line : Step) (t : LiveState) (printed : List ℕ) (unmet : ℕ) : Type 0 where
  pub says : SaysLine s.manner s.table s.world line t.world printed unmet
  pub plan : t.world.plan ≡ s.world.plan
  pub is : t ≡ record s { world = t.world }

abbrev pub Either : Bool → Type 0 → Type 0 → Type 0
Either true x y = x
Either false x y = y

-- what a line does, by its action
abbrev pub SaysAction : LineAction → LiveState → Step → LiveState → List ℕ → ℕ → Type 0
SaysAction (Lose n) s line t printed unmet = Tells Nothing (record s { drops = dropping n s.drops }) line t printed unmet
SaysAction (LosePart n k) s line t printed unmet =
    Either (nat_lt k (length s.drops.parts)) (Tells Nothing (record s { drops = dropping_part n k s.drops }) line t printed unmet) (Tells No s line t printed unmet)
SaysAction Served s line t printed unmet = TellsServed line.expects_no s line t printed unmet
SaysAction action s line t printed unmet = SaysInWorld s line t printed unmet

abbrev pub SaysLive : LiveState → Step → LiveState → List ℕ → ℕ → Type 0
SaysLive s line t printed unmet = SaysAction line.action s line t printed unmet
