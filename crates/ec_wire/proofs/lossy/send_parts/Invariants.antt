use Rattle.std.proofs.Common.{◌≡◌, ◌<◌, take, [], false, length}
use Rattle.ec_wire.specs.Wires.{Carries, is_fault}
use Rattle.ec_wire.specs.Running.{frames_of}
use Rattle.ec_wire.proofs.lossy.send_parts.Given as goal

abbrev pub invariant-loop-part : goal.invariant-loop-part
invariant-loop-part g l = record {
  carried : Carries (g.W.Wire.state l.initial.wire) (g.W.Wire.state l.wire) (take l.part (frames_of l.master.cycle)) [];
  same : (g.W.Wire.state l.wire).failed ≡ (g.W.Wire.state l.initial.wire).failed;
  fine : 0 < l.part → is_fault (g.W.Wire.state l.initial.wire) (g.W.Wire.state l.wire) ≡ false;
  end : l.part-end ≡ length l.master.plan.parts;
}
