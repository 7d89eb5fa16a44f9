use Rattle.std.proofs.Common.{◌<◌, ◌≤◌, ◌+◌, ◌-◌, ◌*◌, length}
use Rattle.ec_bits.proofs.Overlays.{Overlaying, Counted}
use Rattle.ec_fmmu.specs.Apart.{run_visible}
use Rattle.ec_slave.specs.ReadViews.{view_bit}
use Rattle.ec_slave.proofs.logical.reading.ReadViewReadableRuns.read_run.Given as goal

abbrev pub invariant-loop-done : goal.invariant-loop-done
invariant-loop-done l =
    let told = run_visible (view_bit l.self.memory.now l.self.managers.now l.self.readable.now) l.physical l.to l.count in
    record {
      inside : l.done ≤ l.count;
      bits : Overlaying l.fn.bytes told (λ i. i < l.to + l.done) l.bytes;
      any : Counted told (8 * length l.fn.bytes) (λ i. i < l.to + l.done) l.any;
    }

abbrev pub decreases-loop-done : goal.decreases-loop-done
decreases-loop-done l = l.count - l.done
