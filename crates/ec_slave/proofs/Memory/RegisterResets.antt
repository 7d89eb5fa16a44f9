-- Writes that clear managers, and one that leaves a slave as it was.
use Rattle.std.proofs.Common.{ℕ, ◌+◌, ◌*◌, ◌<◌, ◌≡◌, ◌==◌, ◌||◌, Bool, true, false, Option, Some, None, is_some, unwrap_or, refl, sym, ◌∙◌, ap, inl, arith, if◌then◌else◌, [], ◌∷◌, nat_lt}
use Rattle.ec_bits.proofs.AnyLaws.{any_below_from, any_below_none, if_false, if_true}
use Rattle.ec_device.specs.declared.hardware.Hardware.{Hardware}
use Rattle.ec_device.specs.declared.slave_type.Face.{Face}
use Rattle.ec_device.specs.Hardware.{manager_number, other_name, swapped}
use Rattle.ec_regs.specs.declared.manager.SyncManagerSettings.{SyncManagerSettings}
use Rattle.ec_regs.specs.Managers.{no_settings}
use Rattle.ec_regs.specs.Memory.{takes_writes}
use Rattle.ec_regs.specs.Names.{shown_manager}
use Rattle.ec_dl.specs.DataLink.{dl_takes, new_data_link}
use Rattle.ec_dl.proofs.StoredRegisters.{plain_hidden}
use Rattle.ec_sync.specs.SyncManager.{configured}
use Rattle.ec_sync.specs.Governing.{manager_byte}
use Rattle.ec_slave.specs.State.{power_on}
use Rattle.ec_slave.specs.Physical.{Window, as_shown, byte_from, is_missing, may_write_byte, setting_for, settings_written, some_byte_written, touches}
use Rattle.ec_slave.specs.Interface.{ManagersAreCleared, SiiConfigurationIsLeft, FreshSlavesAreLeft}
use Rattle.ec_slave.proofs.Memory.CountsWhatItChanges.{slave-idle}
use Rattle.ec_slave.proofs.Memory.MissingFmmus.{not-missing}
use Rattle.ec_slave.proofs.Memory.RegisterLaws.{stored-setting, settings-alike}
use Rattle.ec_slave.proofs.Memory.WindowBytes.{from-inside, write-register}

-- the address 0 has no other name
zero-name : (o : Option Hardware) → other_name o 0 ≡ 0
zero-name None = refl
zero-name (Some h) = by h.has_pins
  where
    by : (b : Bool) → (if b then swapped 0 else 0) ≡ 0
    by true = refl
    by false = refl

abbrev with_start : SyncManagerSettings → ℕ → SyncManagerSettings
with_start m a = record m { start = a }

pub managers_cleared : ManagersAreCleared
managers_cleared o bytes n m numbered long zeros l =
    let w : Window = record { from = 2048; bytes = bytes } in
    let q : ℕ = manager_number o n in
    let few : q < 4 = numbered.few n l in
    let own : (k : ℕ) → k < 8 → (nat_lt k 5 || (k == 6)) ≡ true → setting_for o w n k ≡ Some 0
    = λ k h t.
    let at : 2048 + (8 * q + k) ≡ 2048 + 8 * q + k = omega arith in
    if_true _ _ _ (stored-setting q k few h t)
    ∙ (ap (byte_from w) (sym at) ∙ (from-inside w (8 * q + k) (omega (arith, few, h, long)) ∙ ap Some (zeros (8 * q + k) (omega (arith, few, h, long))))) in
    let byte : (k : ℕ) → k < 8 → (nat_lt k 5 || (k == 6)) ≡ true → unwrap_or (setting_for o w n k) (manager_byte (as_shown o m) k) ≡ 0
    = λ k h t. ap (λ (x : Option ℕ). unwrap_or x (manager_byte (as_shown o m) k)) (own k h t) in
    let settings : settings_written o w n m ≡ no_settings
    = ap (shown_manager o) (settings-alike (λ k. unwrap_or (setting_for o w n k) (manager_byte (as_shown o m) k)) (λ k. 0)
    (byte 0 (omega arith) refl) (byte 1 (omega arith) refl) (byte 2 (omega arith) refl) (byte 3 (omega arith) refl) (byte 4 (omega arith) refl) (byte 6 (omega arith) refl))
    ∙ ap (with_start no_settings) (zero-name o) in
    if_true _ _ _ (any_below_from 8 (λ k. is_some (setting_for o w n k)) 0 (omega arith) (ap is_some (own 0 (omega arith) refl)))
    ∙ ap (configured m) settings

pub sii_left : SiiConfigurationIsLeft
sii_left s x hidden l =
    let w : Window = record { from = 0x0500; bytes = x ∷ [] } in
    let o : Option Hardware = s.kind.hardware in
    let one : (k : ℕ) → k < 1 → (if is_missing o (0x0500 + k) then false else may_write_byte s.managers s.sii.busy (touches w) (0x0500 + k)) ≡ false
    = λ k h.
    let at : 0x0500 + k ≡ 0x0500 = omega (arith, h) in
    if_false _ _ _ (not-missing o (0x0500 + k) (inl (omega (arith, h))))
    ∙ (write-register s.managers s.sii.busy (touches w) (0x0500 + k) (omega (arith, h)) ∙ ap (takes_writes s.sii.busy) at) in
    let some : some_byte_written o s.managers s.sii.busy w ≡ false = any_below_none 1 _ one in
    let taken : dl_takes s.link 0x0500 1 ≡ false = (plain_hidden s.link hidden).takes 0x0500 1 in
    slave-idle s false true w l refl (ap (λ (b : Bool). b || dl_takes s.link 0x0500 1) some ∙ taken)

-- a slave that was just switched on, and isn't full
pub on_left : FreshSlavesAreLeft
unfolding power_on
on_left kind identity x none = sii_left (power_on kind identity) x (ap (λ (o : Option Face). (new_data_link o).visible) none) (omega arith)
