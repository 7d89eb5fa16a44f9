-- The numbers and the names of the refusals.
use Rattle.std.specs.Prelude.{ℕ, List, codes}
use Rattle.ec_cycle.specs.declared.error.CycleError.{CycleError}
use Rattle.ec_cycle.specs.declared.error.CycleError.TheVariants.{NotReady, Open, NotOpen, NumbersSpent}

abbrev pub refusal_number : CycleError → ℕ
refusal_number NotReady = 33
refusal_number Open = 34
refusal_number NotOpen = 35
refusal_number NumbersSpent = 36

abbrev pub refusal_name : CycleError → List ℕ
refusal_name NotReady = codes "NotReady"
refusal_name Open = codes "Open"
refusal_name NotOpen = codes "NotOpen"
refusal_name NumbersSpent = codes "NumbersSpent"
