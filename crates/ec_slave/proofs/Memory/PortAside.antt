-- A write that begins in the RAM reaches no register of the SII port.
use Rattle.std.proofs.Common.{ℕ, ◌<◌, ◌≤◌, ◌≡◌, ◌^◌, inl, inr, arith, List, length}
use Rattle.std.proofs.lemmas.Bool.{cases_Bool}
use Rattle.ec_bits.proofs.AnyLaws.{within_below}
use Rattle.ec_regs.specs.Memory.{ram_start}
use Rattle.ec_sii.specs.Port.{Sii, written}
use Rattle.ec_slave.proofs.Memory.CountsWhatItChanges.{port-busy, port-idle}

pub port_aside : (p : Sii) (from : ℕ) (bytes : List ℕ) → p.address < 2 ^ 32 → ram_start ≤ from → written p from bytes ≡ p
port_aside p from bytes l h = elim (cases_Bool p.busy) [
  | inl t ↦ port-busy p from bytes t
  | inr idle ↦ port-idle p from bytes l idle (λ place x y. within_below from (length bytes) place (omega arith))
]
