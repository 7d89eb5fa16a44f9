use Rattle.std.proofs.Common.{◌≡◌, drop, slice_get}
use Rattle.ec_start.specs.Ahead.{choices, somes}
use Rattle.ec_start.specs.Scripts.{mapped}
use Rattle.ec_start.proofs.script.mapping.Given as goal

abbrev pub invariant-loop-number : goal.invariant-loop-number
invariant-loop-number l = slice_get (somes (drop l.number (choices l.slave l.settings))) l.left ≡ slice_get (mapped l.slave l.settings) l.fn.place
