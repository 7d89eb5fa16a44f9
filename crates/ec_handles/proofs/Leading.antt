-- What was done to what is behind a handle is what was done to it in its box.
use Rattle.std.proofs.Common.{◌≡◌, ◌∙◌, ℕ, Bool, List, Option, Some, refl, sym, ap, subst}
use Rattle.ec_handles.specs.Calling.{Leads}
use Rattle.ec_handles.specs.Opening.{IsOpenFault}
use Rattle.ec_handles.specs.declared.error.OpenError.{OpenError}
use Rattle.ec_handles.specs.Refusing.{HasOpened, Opens, ReturnsRefusal, no_refusal}
use Rattle.ec_handles.specs.declared.opening.NotOpened.{NotOpened}

-- it is taken out of the handle into a box, changed there, and put back
pub leads : {S : Type 0} (old new : Option S) (step : S → S → Type 0) (kept boxed again after : S)
    → Some kept ≡ old → boxed ≡ kept → new ≡ Some again → again ≡ after → step boxed after → Leads old new step
leads old new step kept boxed again after was taken is put go =
    record { before = boxed; after = after; was = sym was ∙ ap (λ x. Some x) (sym taken); is = is ∙ ap (λ x. Some x) put; leads = go }

pub opened_as : {S H : Type 0} (is_opened : S → Type 0) (table : List ℕ) (told : NotOpened) (room : List ℕ) (behind : Option S) (old new : H) (kept boxed : S)
    → told ≡ no_refusal → behind ≡ Some kept → kept ≡ boxed → is_opened boxed → HasOpened is_opened table told room behind old new
opened_as is_opened table told room behind old new kept boxed e is same opened =
    subst (λ (r : NotOpened). HasOpened is_opened table r room behind old new) (sym e) (refl, (boxed, is ∙ ap (λ x. Some x) same, opened))

pub refused_as : {S H : Type 0} (is_opened : S → Type 0) (table : List ℕ) (told : NotOpened) (room : List ℕ) (behind : Option S) (old new : H) (error : OpenError)
    → IsOpenFault table error → ReturnsRefusal error told room → new ≡ old → HasOpened is_opened table told room behind old new
refused_as is_opened table told room behind old new error fault tells same =
    subst (λ (b : Bool). Opens is_opened table b told room behind old new) (sym tells.not_open) ((error, fault, tells), same)
