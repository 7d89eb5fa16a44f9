use Rattle.std.proofs.Common.{◌<◌, ◌+◌, ◌*◌, length}
use Rattle.ec_bits.proofs.Overlays.{Overlaying, Counted}
use Rattle.ec_fmmu.specs.Apart.{run_visible}
use Rattle.ec_fmmu.proofs.reading.read_by_bits.Given as goal

abbrev pub invariant-loop-k : goal.invariant-loop-k
invariant-loop-k g l =
    let update = run_visible (g.M.ReadableBits.visible l.memory) l.physical l.to l.count in
    record {
      bits : Overlaying l.fn.bytes update (λ i. i < l.to + l.k) l.bytes;
      any : Counted update (8 * length l.fn.bytes) (λ i. i < l.to + l.k) l.any;
    }
