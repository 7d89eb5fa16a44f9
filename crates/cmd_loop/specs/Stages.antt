-- What private code returns once a table was read. You don't need it to read what is printed.
use Rattle.std.specs.Prelude.{◌⊎◌, ℕ}
use Rattle.ec_table.specs.Contents.{Contents}
use Rattle.ec_cycle.specs.Master.{MasterState}
use Rattle.ec_wire.specs.Wires.{WireState}
use Rattle.ec_console.specs.declared.refusal.Refusal.{Refusal}
use Rattle.ec_console.specs.Printing.{OutputState}
use Rattle.cmd_loop.specs.Looping.{EndsEarly, EndsUnwritten, IsSoFar}

-- the cycles of a master are cut short
abbrev pub IsCut : ℕ → Contents → MasterState → (before after : WireState) → (old new : OutputState) → Refusal → Type 0
IsCut cycles t first before after old new refusal = EndsEarly cycles t first before after old new refusal ⊎ EndsUnwritten (IsSoFar cycles t first before after) old new refusal
