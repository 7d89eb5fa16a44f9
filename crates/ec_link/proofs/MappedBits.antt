-- How many bits are mapped for the bits of entries.
use Rattle.std.proofs.Common.{◌≡◌, ℕ, ◌≤◌, ◌%◌, ltb, Option, Some, None, refl, sym, ◌∙◌, inl, inr, arith}
use Rattle.std.proofs.lemmas.Bool.{cases_lt, lt-ltb, le-ltb}
use Rattle.ec_device.specs.declared.hardware.Hardware.{Hardware}
use Rattle.ec_link.specs.Sizes.{mapped_bits, MappedBitsHaveRoom}
use Rattle.ec_link.specs.SlavePlan.{UsualControls}

pub room_law : MappedBitsHaveRoom
room_law None bits = record { room = omega arith; bytes = refl; none = λ e. e }
room_law (Some h) bits = record { room = omega arith; bytes = omega arith; none = λ e. omega arith }

-- the limit of a direction is whole bytes
pub few_mapped : (o : Option Hardware) (bits : ℕ) → bits ≤ 2048 → mapped_bits o bits ≤ 2048
few_mapped None bits h = h
few_mapped (Some x) bits h = omega arith

pub many_mapped : (o : Option Hardware) (bits : ℕ) → ltb 2048 (mapped_bits o bits) ≡ ltb 2048 bits
many_mapped None bits = refl
many_mapped (Some h) bits = elim (cases_lt 2048 bits) as (λ _. ltb 2048 (mapped_bits (Some h) bits) ≡ ltb 2048 bits) [
  | inl many ↦ lt-ltb 2048 (mapped_bits (Some h) bits) (omega (arith, many)) ∙ sym (lt-ltb 2048 bits many)
  | inr few ↦ le-ltb 2048 (mapped_bits (Some h) bits) (omega (arith, few)) ∙ sym (le-ltb 2048 bits few)
]

-- of hardware they are whole bytes
pub whole_bytes : (h : Hardware) (bits : ℕ) → mapped_bits (Some h) bits % 8 ≡ 0
whole_bytes h bits = omega arith

pub usual_controls : UsualControls
usual_controls = record { outputs = refl; inputs = refl }
