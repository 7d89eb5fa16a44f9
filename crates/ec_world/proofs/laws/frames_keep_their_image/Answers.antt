use Rattle.ec_world.proofs.Runs.SnapshotsLaw.{snapshots_law}
use Rattle.ec_world.proofs.laws.frames_keep_their_image.Goals as goal

pub returns : goal.returns
returns c = snapshots_law
