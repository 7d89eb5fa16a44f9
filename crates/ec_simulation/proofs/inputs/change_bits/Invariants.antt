use Rattle.std.proofs.Common.{◌≡◌, drop}
use Rattle.ec_simulation.specs.Inputs.{with_links}
use Rattle.ec_simulation.proofs.inputs.change_bits.Given as goal

-- what the links ahead make of the bytes, all links make of the first bytes
abbrev pub invariant-loop-link : goal.invariant-loop-link
invariant-loop-link l = with_links l.variable l.value l.slave (drop l.link-index l.links) l.bytes ≡ with_links l.variable l.value l.slave l.links l.initial.bytes
