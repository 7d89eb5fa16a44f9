use Rattle.std.proofs.Common.{ℕ, ◌≡◌, ◌<◌, ◌≤◌, None, take}
use Rattle.ec_sync.specs.Governing.{governor}
use Rattle.ec_exchange.proofs.holding.are_clear.Given as goal

abbrev pub invariant-loop-manager : goal.invariant-loop-manager
invariant-loop-manager l = (a : ℕ) → l.start ≤ a → a < l.end → governor (take l.manager-index l.managers) a ≡ None
