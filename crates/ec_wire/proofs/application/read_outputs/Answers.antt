use Rattle.std.proofs.Common.{◌∙◌}
use Rattle.ec_wire.proofs.ApplicationBytes.{all_read}
use Rattle.ec_wire.proofs.application.read_outputs.Goals as goal

pub returns : goal.returns
returns c = c.app_get_all.ensures ∙ all_read c.args.slave.now c.is_sound.ensures
