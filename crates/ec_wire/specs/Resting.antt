-- How long a start-up rests between the polls of a wait. A choice of this project.
use Rattle.std.specs.Prelude.{ℕ, if◌then◌else◌, nat_lt}

-- how many milliseconds it rests behind so many polls of one wait: none between the first 10, then 1 up to the 100th, then 10
abbrev pub rest_behind : ℕ → ℕ
rest_behind polls = if nat_lt polls 10 then 0 else (if nat_lt polls 100 then 1 else 10)
