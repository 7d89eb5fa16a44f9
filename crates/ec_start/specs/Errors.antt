-- How a failure is named: its number, its name and its values.
use Rattle.std.specs.Prelude.{ℕ, List, [], ◌∷◌, codes}
use Rattle.ec_start.specs.declared.error.StartError.{StartError}
use Rattle.ec_start.specs.declared.error.StartError.TheVariants.{BadMailbox, Count, Identity, Counter, AlError, Abort, TooSlow, Lost, NumbersSpent, Mapping}

abbrev pub error_number : StartError → ℕ
error_number (BadMailbox slave) = 9
error_number (Count seen) = 26
error_number (Identity slave seen) = 27
error_number (Counter step) = 28
error_number (AlError slave code) = 29
error_number (Abort slave code) = 30
error_number (TooSlow step) = 31
error_number Lost = 32
error_number NumbersSpent = 36
error_number (Mapping slave index subindex seen) = 38

abbrev pub error_name : StartError → List ℕ
error_name (BadMailbox slave) = codes "BadMailbox"
error_name (Count seen) = codes "Count"
error_name (Identity slave seen) = codes "Identity"
error_name (Counter step) = codes "Counter"
error_name (AlError slave code) = codes "AlError"
error_name (Abort slave code) = codes "Abort"
error_name (TooSlow step) = codes "TooSlow"
error_name Lost = codes "Lost"
error_name NumbersSpent = codes "NumbersSpent"
error_name (Mapping slave index subindex seen) = codes "Mapping"

-- in the order in which they are printed
abbrev pub error_values : StartError → List ℕ
error_values (BadMailbox slave) = slave ∷ []
error_values (Count seen) = seen ∷ []
error_values (Identity slave seen) = slave ∷ seen.vendor ∷ seen.product ∷ seen.revision ∷ []
error_values (Counter step) = step ∷ []
error_values (AlError slave code) = slave ∷ code ∷ []
error_values (Abort slave code) = slave ∷ code ∷ []
error_values (TooSlow step) = step ∷ []
error_values Lost = []
error_values NumbersSpent = []
error_values (Mapping slave index subindex seen) = slave ∷ index ∷ subindex ∷ seen ∷ []
