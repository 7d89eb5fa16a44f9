use Rattle.std.proofs.Common.{subst}
use Rattle.ec_slave.specs.Sound.{IsSlave}
use Rattle.ec_slave.proofs.Always.MetIsSlave.{four-sound}
use Rattle.ec_slave.proofs.slave.Slave.is_sound.Goals as goal

pub returns : goal.returns
returns c =
    let i = c.self.invariant in
    subst IsSlave c.self.view_is (record {
      memory = i.room;
      managers = i.four;
      each_manager = four-sound c.self.inside.managers.items i.four _ _ _ _ c.index.ensures c.index-2.ensures c.index-3.ensures c.index-4.ensures
          c.is_sound.ensures c.is_sound-2.ensures c.is_sound-3.ensures c.is_sound-4.ensures;
      image = i.image;
      word_address = c.is_sound-5.ensures;
      out_slots = c.is_sound-6.ensures.slots.outputs;
      in_slots = c.is_sound-6.ensures.slots.inputs;
      out_count = c.is_sound-6.ensures.outputs;
      in_count = c.is_sound-6.ensures.inputs;
      parameters = c.is_sound-6.ensures.slots.parameters;
    })
