use Rattle.ec_link.proofs.Fews.{LooksOn}
use Rattle.ec_link.proofs.objects.few_run.Given as goal

abbrev pub invariant-loop-entry : goal.invariant-loop-entry
invariant-loop-entry l = LooksOn l.entries l.index l.subindex l.from l.entry-index
