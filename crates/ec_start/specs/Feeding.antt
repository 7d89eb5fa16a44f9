-- The parts of the process data that a start-up feeds with zeros before it asks for OP, and while it looks for it: some slaves
-- enter OP only if they have outputs, and the watchdogs of those in OP run (ETG.1000.4, "Watchdog"; this project's profile).
use Rattle.std.specs.Prelude.{ℕ, ◌+◌, ◌==◌, ◌≡◌, true, false, List, [], ◌∷◌, if◌then◌else◌}
use Rattle.ec_link.specs.declared.plan.PartPlan.{PartPlan}
use Rattle.ec_link.specs.declared.plan.ExpectedCounters.{ExpectedCounters}
use Rattle.ec_link.specs.declared.plan.ExpectedCounters.TheVariants.{Lrw, Split}
use Rattle.ec_link.specs.Plan.{PlanState, predicted_of}
use Rattle.ec_start.specs.declared.action.Feed.{Feed}
use Rattle.ec_start.specs.Scripts.{is_hardware}

-- zeros over a part, by an LRW, or an LWR if the part is split. The counter is the one that is expected of that datagram in a
-- cycle.
abbrev pub feed_over : PartPlan → ExpectedCounters → Feed
feed_over q (Lrw counter) = record { address = q.address; bytes = q.bytes; split = q.split; counter = counter }
feed_over q (Split write read) = record { address = q.address; bytes = q.bytes; split = q.split; counter = write }

-- the parts from number k on that have process bytes
abbrev pub feeds_from : PlanState → ℕ → List PartPlan → List Feed
feeds_from p k [] = []
feeds_from p k (q ∷ qs) = if q.bytes == 0 then feeds_from p (k + 1) qs else feed_over q (predicted_of p k) ∷ feeds_from p (k + 1) qs

-- all of them, in order; none without `hardware`
unfoldable pub feeds_of : PlanState → List Feed
feeds_of p = if is_hardware p.slaves then feeds_from p 0 p.parts else []

-- A start-up feeds the parts of a plan one after another if its slaves are for real devices, and none otherwise.
pub record FeedsGoByTheFormat (p : PlanState) : Type 0 where
  pub plain : is_hardware p.slaves ≡ false → feeds_of p ≡ []
  pub hardware : is_hardware p.slaves ≡ true → feeds_of p ≡ feeds_from p 0 p.parts

abbrev pub HardwareIsFed : Type 0
HardwareIsFed = (p : PlanState) → FeedsGoByTheFormat p
