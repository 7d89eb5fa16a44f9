use Rattle.std.proofs.Common.{◌≡◌, ◌+◌, ◌*◌, length, true}
use Rattle.ec_bits.proofs.Overlays.{Overlaying, Counted}
use Rattle.ec_fmmu.specs.Applied.{read_updates}
use Rattle.ec_fmmu.specs.Ranges.{reads_to}
use Rattle.ec_fmmu.proofs.RangeLaws.{passed}
use Rattle.ec_fmmu.proofs.reading.apply_read.Given as goal

abbrev pub invariant-loop-index : goal.invariant-loop-index
invariant-loop-index g l =
    let update = read_updates l.fmmus (g.M.ReadableBits.visible l.memory) l.from in
    record {
      bits : Overlaying l.fn.bytes update (λ i. passed l.index l.fmmus (λ f. reads_to f (l.from + i)) ≡ true) l.bytes;
      any : Counted update (8 * length l.fn.bytes) (λ i. passed l.index l.fmmus (λ f. reads_to f (l.from + i)) ≡ true) l.any;
    }
