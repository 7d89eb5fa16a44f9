-- What an opening returns.
use Rattle.std.specs.Prelude.{◌≡◌, ℕ, Bool, true, false, List, Option, Some, length, min, take}
use Rattle.ec_handles.specs.Opening.{IsOpenFault, open_name, open_number, open_values, with_values}
use Rattle.ec_handles.specs.declared.error.OpenError.{OpenError}
use Rattle.ec_handles.specs.declared.opening.NotOpened.{NotOpened}

abbrev pub no_refusal : NotOpened
no_refusal = record { is_open = true; number = 0; name = 0; count = 0; first = 0; second = 0 }

-- the refusal's number, as much of its name as the room holds, and its values
pub record ReturnsRefusal (error : OpenError) (told : NotOpened) (room : List ℕ) : Type 0 where
  pub not_open : told.is_open ≡ false
  pub number : told.number ≡ open_number error
  pub name : told.name ≡ min (length (open_name error)) (length room)
  pub written : take told.name room ≡ take told.name (open_name error)
  pub count : told.count ≡ length (open_values error)
  pub values : with_values told.count told.first told.second ≡ open_values error

-- Either something is opened, and the handle has what `is_opened` says; or the refusal is returned, its name is in the room, and
-- the handle stays.
abbrev pub Opens : {S H : Type 0} → (S → Type 0) → List ℕ → Bool → NotOpened → (room : List ℕ) → Option S → (old new : H) → Type 0
Opens {S} is_opened table true told room behind old new = (told ≡ no_refusal) × ((s : S) × (behind ≡ Some s) × is_opened s)
Opens {S} is_opened table false told room behind old new = ((error : OpenError) × IsOpenFault table error × ReturnsRefusal error told room) × (new ≡ old)

abbrev pub HasOpened : {S H : Type 0} → (S → Type 0) → List ℕ → NotOpened → (room : List ℕ) → Option S → (old new : H) → Type 0
HasOpened is_opened table told room behind old new = Opens is_opened table told.is_open told room behind old new
