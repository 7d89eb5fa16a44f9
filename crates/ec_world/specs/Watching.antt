-- What can be captured of the frames of a world.
use Rattle.std.specs.Prelude.{ℕ, ◌&&◌, List, length, nat_lt, Option, None, Some, is_some, if◌then◌else◌}
use Rattle.ec_cycle.specs.Master.{frame_of}
use Rattle.ec_world.specs.World.{WorldState}

-- the frame of a part of the open cycle, as it was sent
abbrev pub sent_of : WorldState → ℕ → Option (List ℕ)
sent_of w part = if is_some w.master.cycle && nat_lt part (length w.master.plan.parts) then Some (frame_of w.master.cycle part) else None
