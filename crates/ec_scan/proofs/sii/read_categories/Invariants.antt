use Rattle.std.proofs.Common.{◌*◌, ◌≡◌, length}
use Rattle.ec_scan.specs.Showing.{Leads}
use Rattle.ec_scan.proofs.sii.read_categories.Given as goal

abbrev pub invariant-loop-place : goal.invariant-loop-place
invariant-loop-place g l = record {
  long : length l.words ≡ 2 * l.place;
  leads : Leads l.words 0 l.header;
}
