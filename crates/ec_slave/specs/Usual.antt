-- What a slave finds of its process data before it exchanges them as copies: they lie in two managers' values, or in the RAM
-- itself.
use Rattle.std.specs.Prelude.{ℕ, ◌*◌, ◌≡◌, length, true, false}
use Rattle.ec_bits.specs.Bits.{within}
use Rattle.ec_regs.specs.Memory.{ram_end}
use Rattle.ec_fmmu.specs.Areas.{Area}
use Rattle.ec_fmmu.specs.Runs.{run_source, run_target}
use Rattle.ec_fmmu.specs.Sets.{source, target, readers, writers}
use Rattle.ec_slave.specs.State.{SlaveState, fmmus}
pub use Rattle.ec_exchange.specs.Values.{LiesFree, LiesIn}

-- the FMMUs map an area of the RAM itself, and no bit of its inputs is one of its outputs
pub record IsPlain (s : SlaveState) (a : Area) : Type 0 where
  pub room : length s.memory ≡ ram_end
  pub four : length s.managers ≡ 4
  pub reads : (l : ℕ) → target (readers (fmmus s)) l ≡ run_target a.in_at a.ins a.in_start l
  pub writes : (q : ℕ) → source (writers (fmmus s)) q ≡ run_source a.out_at a.outs a.out_start q
  pub ins_free : LiesFree s.managers a.in_start a.ins
  pub outs_free : LiesFree s.managers a.out_start a.outs
  pub apart : (q : ℕ) → within (8 * a.in_start) a.ins q ≡ true → within (8 * a.out_start) a.outs q ≡ false
