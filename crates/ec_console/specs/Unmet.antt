-- How a run with expectations ends (this project's profile).
use Rattle.std.specs.Prelude.{◌≡◌, ℕ, ◌-◌, ◌^◌, ◌<◌, ◌==◌, min, if◌then◌else◌, Bool, Result, Ok, Err}
use Rattle.ec_console.specs.declared.refusal.Refusal.{Refusal}
use Rattle.ec_console.specs.declared.refusal.Refusal.TheVariants.{Unmet}

-- 1 for an expectation that isn't met
abbrev pub unmet_of : (is_unmet : Bool) → ℕ
unmet_of is_unmet = if is_unmet then 1 else 0

-- a number of unmet expectations, as far as 64 bits count
abbrev pub counted : ℕ → ℕ
counted unmet = min unmet (2 ^ 64 - 1)

-- the end of a run with that many unmet expectations
abbrev pub ended_by : ℕ → Result Unit Refusal
ended_by unmet = if unmet == 0 then Ok tt else Err (Unmet unmet)

-- a run ends by that refusal, since expectations weren't met
abbrev pub EndsUnmet : Refusal → (ℕ → Type 0) → Type 0
EndsUnmet refusal P = (unmet : ℕ) × (0 < unmet) × (refusal ≡ Unmet (counted unmet)) × P unmet
