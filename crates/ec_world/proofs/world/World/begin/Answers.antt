use Rattle.std.proofs.Common.{◌∙◌, sym}
use Rattle.ec_world.proofs.SlotLaws.Filled.{begun_frames}
use Rattle.ec_world.proofs.world.World.begin.Goals as goal

pub place_frames-requires-clause-frames : goal.place_frames-requires-clause-frames
place_frames-requires-clause-frames c =
    begun_frames c.self.inside.master c.begin.new.self c.begin.result (sym (c.is_err.ensures.value) ∙ c.if-is_err.false) c.begin.ensures.begun
