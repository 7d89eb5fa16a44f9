-- What lines do to a target, one after another, and what they print (this project's profile). What a step of a line does is a relation:
-- the target before it, the step, the target behind it, its text, and 1 if it counts as unmet, else 0.
use Rattle.std.specs.Prelude.{◌≡◌, ◌⊎◌, ℕ, ◌+◌, List, [], ◌∷◌, ◌++◌, take, Bool, true, Result, Ok, Err}
use Rattle.ec_script.specs.declared.line.Step.{Step}
use Rattle.ec_script.specs.declared.line.Task.{Task}
use Rattle.ec_script.specs.declared.line.Task.TheVariants as task
use Rattle.ec_console.specs.declared.refusal.Refusal.{Refusal}
use Rattle.ec_console.specs.declared.refusal.Refusal.TheVariants.{Memory, Output, Input}
use Rattle.ec_console.specs.Printing.{IsPartPrinted, IsPrinted, OutputState}
use Rattle.ec_console.specs.Unmet.{EndsUnmet}
use Rattle.ec_text.specs.PlanText.{newline}

-- ---- lines

-- a step is done, or a text is printed as it stands
abbrev pub SaysTask : {S : Type 0} → (S → Step → S → List ℕ → ℕ → Type 0) → S → Task → S → List ℕ → ℕ → Type 0
SaysTask {S} one s (task.Step step) new printed unmet = one s step new printed unmet
SaysTask {S} one s (task.Echo text) new printed unmet = (new ≡ s) × (printed ≡ text ++ newline) × (unmet ≡ 0)

-- What tasks of lines print, and how many count as unmet. Each begins where the one before left the target.
abbrev pub Says : {S : Type 0} → (S → Step → S → List ℕ → ℕ → Type 0) → S → List Task → S → List ℕ → ℕ → Type 0
Says {S} one s [] new printed unmet = (new ≡ s) × (printed ≡ []) × (unmet ≡ 0)
Says {S} one s (task ∷ tasks) new printed unmet = (mid : S) × (text : List ℕ) × (more : List ℕ) × (first : ℕ) × (rest : ℕ)
    × SaysTask one s task mid text first × Says one mid tasks new more rest × (printed ≡ text ++ more) × (unmet ≡ first + rest)

-- these tasks are done, and their texts are printed
pub record PrintsAll {S : Type 0} (one : S → Step → S → List ℕ → ℕ → Type 0) (s : S) (tasks : List Task) (last : S) (unmet : ℕ) (old new : OutputState) : Type 0 where
  pub printed : List ℕ
  pub says : Says one s tasks last printed unmet
  pub appends : IsPrinted old new printed

-- some first of these tasks are done, and a first part of their texts is printed
pub record PrintsPart {S : Type 0} (one : S → Step → S → List ℕ → ℕ → Type 0) (s : S) (tasks : List Task) (last : S) (old new : OutputState) : Type 0 where
  pub count : ℕ
  pub printed : List ℕ
  pub unmet : ℕ
  pub says : Says one s (take count tasks) last printed unmet
  pub appends : IsPartPrinted old new printed

-- ---- the end of a run

-- what can cut lines short, by whether a read was refused, and what the output is then; memory may run out at any time
abbrev pub IsLate : (is_unread : Bool) → OutputState → Refusal → Type 0
IsLate is_unread output Memory = Unit {0}
IsLate is_unread output Output = output.is_refused ≡ true
IsLate is_unread output Input = is_unread ≡ true
IsLate is_unread output _ = ⊥

-- how a run of lines ends. All are done, and what they expect is so, or isn't, so many times; or they are cut short, and a part is done;
-- or memory is refused before the first line
abbrev pub EndsRun : (All : ℕ → Type 0) → (Part : Type 0) → (is_unread : Bool) → (old new : OutputState) → Result Unit Refusal → Type 0
EndsRun All Part is_unread old new (Ok done) = All 0
EndsRun All Part is_unread old new (Err refusal) =
    ((refusal ≡ Memory) × (new ≡ old)) ⊎ ((IsLate is_unread new refusal × Part) ⊎ EndsUnmet refusal All)
