use Rattle.std.proofs.Common.{◌≡◌, take, true}
use Rattle.ec_simulation.specs.Inputs.{puts}
use Rattle.ec_simulation.specs.Observing.{Observes}
use Rattle.ec_script.specs.Outputs.{is_done}
use Rattle.ec_simulation.specs.Work.{MakesAll}
use Rattle.ec_simulation.proofs.inputs.put_bytes.Given as goal

abbrev pub invariant-loop-offset : goal.invariant-loop-offset
invariant-loop-offset g l = record {
  made : MakesAll (puts l.slave 0 (take l.offset l.bytes)) l.initial.world l.world l.said;
  going : is_done l.said ≡ true;
  seen : Observes g.S.Watcher.observed l.initial.watcher l.initial.world l.world l.watcher;
}
