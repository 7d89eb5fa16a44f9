use Rattle.std.proofs.Common.{ℕ, ◌<◌, [], get_or}
use Rattle.ec_frame.specs.Building.{bare_payload}
use Rattle.ec_frame.specs.Frame.{IsFrame}
use Rattle.ec_cycle.specs.Frames.{sent_datagrams}
use Rattle.ec_cycle.specs.MasterFields.{IsMade}
use Rattle.std.proofs.Common.{length}
use Rattle.ec_cycle.proofs.master.make_frames.Given as goal

abbrev pub invariant-loop-part : goal.invariant-loop-part
invariant-loop-part l =
    ((k : ℕ) → k < l.part → IsFrame (get_or l.frames k []) (bare_payload (sent_datagrams l.plan l.number k l.image)))
    × ((k : ℕ) → k < length l.plan.parts → IsMade l.plan k (get_or l.frames k []))
