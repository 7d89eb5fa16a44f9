use Rattle.std.proofs.Common.{◌∙◌, List, ℕ, ap, take}
use Rattle.ec_wire.proofs.ApplicationBytes.{seen}
use Rattle.ec_wire.proofs.application.outputs_of.Goals as goal

pub returns : goal.returns
returns c =
    ap (λ (xs : List ℕ). take c.args.count xs) c.outputs-outputs.ensures ∙ seen c.args.slave.now c.args.count c.is_sound.ensures c.requires
