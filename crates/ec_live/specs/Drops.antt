-- Frames that a live segment drops (this project's profile): how many of the next frames, and of the next cyclic frames of each part.
use Rattle.std.specs.Prelude.{ℕ, ◌-◌, ◌||◌, List, get_or, set, max, nat_lt, replicate, Bool, Option, Some, None}

pub record DropState : Type 0 where
  pub any : ℕ
  -- part by part
  pub parts : List ℕ

-- none, of a plan with so many parts
abbrev pub no_drops : ℕ → DropState
no_drops parts = record { any = 0; parts = replicate parts 0 }

-- ---- lines

-- The next n frames are dropped. Those of an earlier line are counted from now, too: so the greater number is left.
abbrev pub dropping : ℕ → DropState → DropState
dropping n d = record d { any = max d.any n }

-- the next n cyclic frames of part k are
abbrev pub dropping_part : ℕ → ℕ → DropState → DropState
dropping_part n k d = record d { parts = set d.parts k (max (get_or d.parts k 0) n) }

-- ---- a frame comes: the cyclic frame of a part, or another

abbrev pub left_of : List ℕ → Option ℕ → ℕ
left_of parts None = 0
left_of parts (Some k) = get_or parts k 0

-- it is dropped
abbrev pub is_dropped : DropState → Option ℕ → Bool
is_dropped d part = nat_lt 0 d.any || nat_lt 0 (left_of d.parts part)

abbrev pub one_less : List ℕ → Option ℕ → List ℕ
one_less parts None = parts
one_less parts (Some k) = set parts k (get_or parts k 0 - 1)

-- and counts
abbrev pub counted_down : DropState → Option ℕ → DropState
counted_down d part = record { any = d.any - 1; parts = one_less d.parts part }
