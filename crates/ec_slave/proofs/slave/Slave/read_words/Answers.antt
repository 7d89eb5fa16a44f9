use Rattle.std.proofs.Common.{◌∙◌, ap}
use Rattle.ec_sii.specs.Port.{Sii}
use Rattle.ec_slave.proofs.Always.PowerOn.{stepped-image}
use Rattle.ec_slave.proofs.slave.Slave.read_words.Goals as goal

pub invariant_of-self : goal.invariant_of-self
invariant_of-self c = record {
  room = c.self.invariant.room;
  four = c.self.invariant.four;
  decoded = c.self.invariant.decoded;
  image = ap (λ (p : Sii). p.image) c.step.ensures ∙ (stepped-image c.self.inside.port ∙ c.self.invariant.image);
}
