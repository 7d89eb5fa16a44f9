use Rattle.ec_table.proofs.SoundRows.{accepted_sound}
use Rattle.ec_table.proofs.laws.accepted_is_sound.Goals as goal

pub returns : goal.returns
returns c = accepted_sound
