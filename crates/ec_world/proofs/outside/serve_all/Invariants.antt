use Rattle.std.proofs.Common.{◌≡◌, length}
use Rattle.ec_world.proofs.ServedAll.{served_to}
use Rattle.ec_world.proofs.outside.serve_all.Given as goal

abbrev pub invariant-loop-place : goal.invariant-loop-place
invariant-loop-place l = record {
  served : l.ring ≡ served_to l.place l.initial.ring;
  end : l.place-end ≡ length l.initial.ring;
}
