use Rattle.std.proofs.Common.{◌*◌, ◌≡◌, ◌<◌, ℕ, length, slice_index}
use Rattle.ec_bits.specs.Bits.{copied}
use Rattle.ec_bits.proofs.copying.copy_bytes.Given as goal

abbrev pub invariant-loop-k : goal.invariant-loop-k
invariant-loop-k l = (l.dst ≡ copied l.fn.dst (8 * l.at) l.src (8 * l.start) (8 * l.k)) × (l.turns ≡ l.k) × (length l.dst ≡ length l.fn.dst) × ((i : ℕ) → slice_index l.dst i < 256)
