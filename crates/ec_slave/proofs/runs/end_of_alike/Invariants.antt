use Rattle.std.proofs.Common.{ℕ, ◌<◌, ◌≤◌, ◌≡◌, true}
use Rattle.ec_sync.specs.Governing.{governs, in_first_buffer}
use Rattle.ec_slave.specs.State.{manager_at}
use Rattle.ec_slave.proofs.runs.end_of_alike.Given as goal

abbrev pub invariant-loop-manager : goal.invariant-loop-manager
invariant-loop-manager l = record {
  inside : (l.start < l.stop) × (l.stop ≤ l.end);
  spans : (j : ℕ) → j < l.manager-index → (a : ℕ) → l.start ≤ a → a < l.stop
      → governs (manager_at l.managers j) a ≡ governs (manager_at l.managers j) l.start;
  front : (j : ℕ) → j < l.manager-index → governs (manager_at l.managers j) l.start ≡ true → (a : ℕ) → l.start ≤ a → a < l.stop
      → in_first_buffer (manager_at l.managers j) a ≡ in_first_buffer (manager_at l.managers j) l.start;
}
