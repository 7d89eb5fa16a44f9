use Rattle.ec_scan.specs.Showing.{Leads}
use Rattle.ec_scan.proofs.sii.header_behind.Given as goal

abbrev pub invariant-loop : goal.invariant-loop
invariant-loop l = Leads l.words l.header l.place
