use Rattle.std.proofs.Common.{◌∙◌}
use Rattle.ec_wire.proofs.ApplicationBytes.{all_written}
use Rattle.ec_wire.proofs.application.write_inputs.Goals as goal

pub returns : goal.returns
returns c = c.app_put_all.ensures ∙ all_written c.args.slave.now c.args.inputs.now c.is_sound.ensures c.requires
