-- A live segment: slaves that frames of a master elsewhere move, and lines as the plant does (this project's profile). Its slaves are
-- those of a world whose own master rests.
use Rattle.std.specs.Prelude.{◌≡◌, ℕ, ◌+◌, ◌-◌, ◌^◌, length, min}
use Rattle.ec_table.specs.Contents.{Contents}
use Rattle.ec_world.specs.World.{WorldState}
use Rattle.ec_world.specs.Whole.{IsOfMachine}
use Rattle.ec_console.specs.declared.wanted.Manner.{Manner}
use Rattle.ec_live.specs.Drops.{DropState, no_drops}

-- the slaves, in their world; the table whose names lines use; whether reasons are wanted; which frames are dropped; and how many frames
-- were answered, and how many other payloads came
pub record LiveState : Type 0 where
  pub world : WorldState
  pub table : Contents
  pub manner : Manner
  pub drops : DropState
  pub answered : ℕ
  pub refused : ℕ

-- one more, as far as 64 bits count
abbrev pub one_more : ℕ → ℕ
one_more n = min (n + 1) (2 ^ 64 - 1)

-- the slaves of a table, just switched on; nothing came, and nothing is dropped
pub record IsNewLive (t : Contents) (wanted : Manner) (s : LiveState) : Type 0 where
  pub world : IsOfMachine t s.world
  pub table : s.table ≡ t
  pub manner : s.manner ≡ wanted
  pub drops : s.drops ≡ no_drops (length s.world.plan.parts)
  pub answered : s.answered ≡ 0
  pub refused : s.refused ≡ 0
