use Rattle.std.proofs.Common.{◌≡◌}
use Rattle.ec_scan.specs.Showing.{IsUsable}
use Rattle.ec_scan.proofs.coe.read_pdos.Given as goal

abbrev pub invariant-loop-slot : goal.invariant-loop-slot
invariant-loop-slot g l = record {
  kept : IsUsable l.asked.mailbox;
  same : l.asked.slave ≡ l.fn.asked.slave;
}
