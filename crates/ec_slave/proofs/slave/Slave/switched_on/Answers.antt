use Rattle.std.proofs.Common.{ℕ, ◌∙◌, ap, length}
use Rattle.std.proofs.lemmas.List.{length-replicate}
use Rattle.ec_device.specs.Types.{SlaveKind}
use Rattle.ec_sii.specs.Port.{Sii}
use Rattle.ec_slave.specs.State.{fmmus_of, memory_length}
use Rattle.ec_slave.proofs.slave.Slave.switched_on.Goals as goal

pub invariant_of-result : goal.invariant_of-result
unfolding memory_length
invariant_of-result c =
    record {
      room = ap length c.requires.memory ∙ length-replicate {A = ℕ} memory_length 0;
      four = ap length c.requires.managers;
      decoded = c.read_fmmus-fmmus.ensures ∙ (ap (λ (k : SlaveKind). fmmus_of k.hardware c.deref.result.now) c.kind.ensures ∙ ap (fmmus_of c.args.objects.0.kind.hardware) c.deref.ensures.value);
      image = ap (λ (p : Sii). p.image) c.requires.image;
    }

pub read_fmmus-fmmus-requires : goal.read_fmmus-fmmus-requires
unfolding memory_length
read_fmmus-fmmus-requires c = ap length (c.deref.ensures.value ∙ c.requires.memory) ∙ length-replicate {A = ℕ} memory_length 0
