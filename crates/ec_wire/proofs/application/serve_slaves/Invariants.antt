use Rattle.std.proofs.Common.{◌≡◌, length}
use Rattle.ec_wire.proofs.ServedSlaves.{AreFewer, AreServedBelow}
use Rattle.ec_wire.proofs.application.serve_slaves.Given as goal

abbrev pub invariant-loop-index : goal.invariant-loop-index
invariant-loop-index g l = record {
  below : AreServedBelow (g.A.App.may_produce l.initial.app) l.initial.ring l.ring l.index;
  later : AreFewer (g.A.App.may_produce l.app) (g.A.App.may_produce l.initial.app);
  end : l.index-end ≡ length l.initial.ring;
}
