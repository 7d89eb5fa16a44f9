use Rattle.std.proofs.Common.{◌≡◌, take}
use Rattle.ec_listed.proofs.listed.Listed.copied.Given as goal

abbrev pub invariant-loop-item : goal.invariant-loop-item
invariant-loop-item g l = l.copied ≡ take l.item-index l.items
