-- A slave that was just switched on.
use Rattle.std.proofs.Common.{ℕ, zero, suc, ◌≡◌, refl, [], ◌∷◌, length, get_or}
use Rattle.std.proofs.lemmas.List.{length-replicate}
use Rattle.ec_bits.specs.Bits.{zeros}
use Rattle.ec_slave.specs.State.{manager_at, power_on, memory_length}
use Rattle.ec_slave.specs.Interface.{SlavesAreSwitchedOn, SwitchedOnWhole}
use Rattle.ec_sync.specs.SyncManager.{no_manager}
use Rattle.ec_sync.specs.Sound.{IsManager}
use Rattle.ec_slave.proofs.Always.MetIsSlave.{no-manager-sound}

read-zeros : (n a : ℕ) → get_or (zeros n) a 0 ≡ 0
read-zeros zero a = refl
read-zeros (suc n) zero = refl
read-zeros (suc n) (suc a) = read-zeros n a

long-memory : length (zeros memory_length) ≡ 0x3000
unfolding memory_length
long-memory = length-replicate {A = ℕ} memory_length 0

pub switched_on : SlavesAreSwitchedOn
unfolding power_on
switched_on kind identity = record {
  kind_is = refl;
  identity_is = refl;
  room = long-memory;
  memory = read-zeros memory_length;
  managers = refl;
  al = refl;
  sii = refl;
  link = refl;
  outs = refl;
  ins = refl;
  values = refl;
}

four-whole : (n : ℕ) → IsManager (manager_at (no_manager ∷ no_manager ∷ no_manager ∷ no_manager ∷ []) n)
four-whole zero = no-manager-sound
four-whole (suc zero) = no-manager-sound
four-whole (suc (suc zero)) = no-manager-sound
four-whole (suc (suc (suc zero))) = no-manager-sound
four-whole (suc (suc (suc (suc n)))) = no-manager-sound

pub on_whole : SwitchedOnWhole
unfolding power_on
on_whole kind identity = four-whole
