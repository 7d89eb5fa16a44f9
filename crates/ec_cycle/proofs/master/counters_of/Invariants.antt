use Rattle.std.proofs.Common.{ℕ, ◌<◌, ◌≡◌, get_or, length}
use Rattle.ec_link.specs.declared.plan.ExpectedCounters.{ExpectedCounters}
use Rattle.ec_link.specs.Shares.{predicted}
use Rattle.ec_cycle.proofs.master.counters_of.Given as goal

abbrev pub invariant-loop-part : goal.invariant-loop-part
invariant-loop-part l = record {
  count : length l.expected ≡ l.part;
  each : (k : ℕ) (d : ExpectedCounters) → k < l.part → get_or l.expected k d ≡ predicted l.plan k;
}
