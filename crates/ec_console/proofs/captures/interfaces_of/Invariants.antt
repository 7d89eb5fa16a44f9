use Rattle.std.proofs.Common.{All, map}
use Rattle.ec_capture.specs.Captures.{IsText}
use Rattle.ec_console.proofs.captures.interfaces_of.Given as goal

-- each name so far is short enough
abbrev pub invariant-loop-slave : goal.invariant-loop-slave
invariant-loop-slave l = All IsText (map (λ t. t.now) l.names.items)
