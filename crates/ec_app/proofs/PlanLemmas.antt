-- What is shown of a plan.
use Rattle.std.proofs.Common.{◌≡◌, List, ℕ, sym, subst, Result, Ok, Err, IfErr}
use Rattle.ec_table.specs.Contents.{Contents}
use Rattle.ec_link.specs.Plan.{plan_of}
use Rattle.ec_text.specs.HeaderText.{header_text}
use Rattle.ec_text.specs.PlanText.{plan_text}
use Rattle.ec_console.specs.declared.refusal.Refusal.{Refusal}
use Rattle.ec_console.specs.declared.refusal.Refusal.TheVariants.{Memory}
use Rattle.ec_console.specs.Given.{IsTableRefusal}
use Rattle.ec_app.specs.declared.plan.PlanForm.{PlanForm}
use Rattle.ec_app.specs.declared.plan.PlanForm.TheVariants.{Fixed, Explained, Header}
use Rattle.ec_app.specs.Planning.{IsTextOfPlan}

pub shown_fixed : (form : PlanForm) (prefix : List ℕ) (table : Contents) (answer : List ℕ) → form ≡ Fixed → answer ≡ plan_text table.version (plan_of table) → IsTextOfPlan form prefix table answer
shown_fixed form prefix table answer is same = subst (λ f. IsTextOfPlan f prefix table answer) (sym is) same

pub shown_explained : (form : PlanForm) (prefix : List ℕ) (table : Contents) (answer : List ℕ) → form ≡ Explained → IsTextOfPlan form prefix table answer
shown_explained form prefix table answer is = subst (λ f. IsTextOfPlan f prefix table answer) (sym is) tt

pub shown_header : (form : PlanForm) (prefix : List ℕ) (table : Contents) (answer : List ℕ) → form ≡ Header → answer ≡ header_text prefix table.variables (plan_of table).variables → IsTextOfPlan form prefix table answer
shown_header form prefix table answer is same = subst (λ f. IsTextOfPlan f prefix table answer) (sym is) same

-- memory may be refused of any text
pub memory_refused : {T : Type 0} (r : Result T Refusal) (text : List ℕ) → IfErr r (λ refusal. refusal ≡ Memory) → IfErr r (IsTableRefusal text)
memory_refused (Ok answer) text is = tt
memory_refused (Err e) text is = subst (IsTableRefusal text) (sym is) tt
