-- What `ecat plan` prints (this project's profile).
use Rattle.std.specs.Prelude.{◌≡◌, ℕ, List, Bool, true, false, Option, Result, codes, unwrap_or}
use Rattle.ec_table.specs.Contents.{Contents}
use Rattle.ec_console.specs.declared.form.SlaveForm.TheVariants.{Plain}
use Rattle.ec_console.specs.Stating.{StatesIn}
use Rattle.ec_link.specs.Plan.{plan_of}
use Rattle.ec_text.specs.HeaderText.{header_text}
use Rattle.ec_text.specs.PlanText.{plan_text}
use Rattle.ec_console.specs.declared.refusal.Refusal.{Refusal}
use Rattle.ec_console.specs.Given.{Given, GivesText, RefusesTable}
use Rattle.ec_console.specs.Printing.{OutputState, Prints}
use Rattle.ec_app.specs.declared.plan.PlanForm.{PlanForm}
use Rattle.ec_app.specs.declared.plan.PlanForm.TheVariants.{Fixed, Explained, Header}

-- the form that is asked for, by whether it is to be a header and whether it is to be explained
abbrev pub form_of : (header explained : Bool) → PlanForm
form_of true explained = Header
form_of false true = Explained
form_of false false = Fixed

-- what the names of a header begin with
abbrev pub prefix_or : Option (List ℕ) → List ℕ
prefix_or prefix = unwrap_or prefix (codes "ECAT_")

-- the plan in a form; the text of an explained plan is free
abbrev pub IsTextOfPlan : PlanForm → (prefix : List ℕ) → Contents → List ℕ → Type 0
IsTextOfPlan Fixed prefix table answer = answer ≡ plan_text table.version (plan_of table)
IsTextOfPlan Explained prefix table answer = Unit {0}
IsTextOfPlan Header prefix table answer = answer ≡ header_text prefix table.variables (plan_of table).variables

-- the text states a machine, and this shows its plan
abbrev pub IsPlanAnswer : PlanForm → (prefix text : List ℕ) → List ℕ → Type 0
IsPlanAnswer form prefix text answer =
    (table : Contents) × StatesIn Plain text table × IsTextOfPlan form prefix table answer

-- what `ecat plan` prints, by what the input gives
abbrev pub AnswersPlan : PlanForm → (prefix : List ℕ) → Given → List ℕ → Type 0
AnswersPlan form prefix given printed = (text : List ℕ) × GivesText given text × IsPlanAnswer form prefix text printed

-- how it ends, by what the output is before and after
abbrev pub RunsPlan : PlanForm → (prefix : List ℕ) → Given → (old new : OutputState) → Result Unit Refusal → Type 0
RunsPlan form prefix given = Prints (AnswersPlan form prefix given) (RefusesTable given)
