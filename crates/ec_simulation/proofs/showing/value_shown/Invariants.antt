use Rattle.ec_bits.specs.Bits.{zeros}
use Rattle.ec_simulation.specs.Showing.{with_all_shown}
use Rattle.ec_simulation.proofs.Shown.{GoesOnShowing}
use Rattle.ec_simulation.proofs.showing.value_shown.Given as goal

abbrev pub invariant-loop-link : goal.invariant-loop-link
invariant-loop-link l = GoesOnShowing l.world l.variable l.link-items l.link-index l.bytes (with_all_shown l.world l.variable l.link-items (zeros 8))
