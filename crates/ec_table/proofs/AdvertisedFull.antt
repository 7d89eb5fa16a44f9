-- A sound table is sound whether or not it is advertised in full.
use Rattle.std.proofs.Common.{Bool}
use Rattle.ec_table.specs.Contents.{Contents}
use Rattle.ec_table.specs.Sound.{IsSound}

pub sound_shown : (c : Contents) (full : Bool) → IsSound c → IsSound (record c { full = full })
sound_shown c full h = record { types = h.types; slaves = h.slaves; variables = h.variables; links = h.links; format = record { types = h.format.types; type_init = h.format.type_init; slave_init = h.format.slave_init; variables = h.format.variables } }
