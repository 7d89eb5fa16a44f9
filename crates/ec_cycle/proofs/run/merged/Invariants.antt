use Rattle.std.proofs.Common.{◌≡◌, ◌++◌, drop}
use Rattle.ec_cycle.specs.Copies.{merged, merged_from}
use Rattle.ec_cycle.proofs.run.merged.Given as goal

abbrev pub invariant-loop-next : goal.invariant-loop-next
invariant-loop-next g l = l.done ++ merged_from g.R.Adjoining.adjoins g.R.Adjoining.joined l.last (drop l.next-index l.rest) ≡ merged g.R.Adjoining.adjoins g.R.Adjoining.joined l.fn.runs
