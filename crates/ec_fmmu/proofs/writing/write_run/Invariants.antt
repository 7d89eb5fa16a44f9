use Rattle.std.proofs.Common.{◌<◌, ◌≤◌, ◌+◌, ◌-◌, ◌*◌, length}
use Rattle.ec_bits.proofs.Overlays.{Overlaying, Counted}
use Rattle.ec_fmmu.specs.Alone.{run_written}
use Rattle.ec_fmmu.proofs.writing.write_run.Given as goal

abbrev pub invariant-loop-done : goal.invariant-loop-done
invariant-loop-done g l =
    let update = run_written (g.A.WritableBytes.allowed l.rights) l.physical l.bytes l.at l.to l.count in
    record {
      inside : l.done ≤ l.count;
      bits : Overlaying l.fn.window update (λ k. k < l.to + l.done) l.window;
      any : Counted update (8 * length l.fn.window) (λ k. k < l.to + l.done) l.any;
    }

abbrev pub decreases-loop-done : goal.decreases-loop-done
decreases-loop-done g l = l.count - l.done
