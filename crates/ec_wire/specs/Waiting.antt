-- How long a receive on a socket waits. A choice of this project.
use Rattle.std.specs.Prelude.{ℕ, ◌*◌, ◌-◌, ◌/◌, ◌≤◌, ◌≡◌, max, Option, None, Some}
use Rattle.std.specs.Duration.{as_nanos}
use Rattle.std.specs.declared.time.Duration.{Duration}
use Rattle.ec_wire.specs.declared.patience.Patience.{Patience}
use Rattle.ec_wire.specs.declared.patience.Patience.TheVariants.{Endless, For}

-- how many nanoseconds a patience has, if it ends
abbrev pub lasts : Patience → Option ℕ
lasts Endless = None
lasts (For whole) = Some (as_nanos whole)

-- `count` waits, each of one part, take no longer than the patience in all. If the patience has no end, a wait has none.
abbrev pub AreWithin : Patience → (part : Option Duration) → (count : ℕ) → Type 0
AreWithin Endless part count = part ≡ None
AreWithin (For whole) None count = ⊥
AreWithin (For whole) (Some part) count = as_nanos part * count ≤ as_nanos whole

-- how many of `count` parts are left after a time, all in nanoseconds
abbrev pub parts_left : (part : Option ℕ) → (count waited : ℕ) → ℕ
parts_left None count waited = count
parts_left (Some part) count waited = count - waited / max part 1
