use Rattle.std.proofs.Common.{◌≡◌, drop}
use Rattle.std.specs.List.{list_any}
use Rattle.ec_link.specs.LinkRuns.{give_one_bit}
use Rattle.ec_link.proofs.pairs.gives_again.Given as goal

abbrev pub invariant-loop-other : goal.invariant-loop-other
invariant-loop-other l = list_any (give_one_bit l.link_run) (drop l.other-index l.earlier) ≡ list_any (give_one_bit l.link_run) l.earlier
