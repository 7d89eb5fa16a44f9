-- The registers of FMMUs that a slave lacks.
use Rattle.std.proofs.Common.{ℕ, ◌+◌, ◌*◌, ◌<◌, ◌≤◌, ◌≡◌, ◌⊎◌, ◌&&◌, Bool, true, false, Option, Some, None, refl, sym, ◌∙◌, ap, inl, inr, arith, if◌then◌else◌, nat_le, nat_lt, List, length, slice_index, unwrap_or}
use Rattle.std.proofs.lemmas.Bool.{and_left, and_right, cases_lt, le-ltb, lt-leb}
use Rattle.std.proofs.lemmas.List.{get_or_past}
use Rattle.ec_bits.proofs.AnyLaws.{if_true}
use Rattle.ec_device.specs.declared.hardware.Hardware.{Hardware}
use Rattle.ec_device.specs.Hardware.{fmmu_count}
use Rattle.ec_sync.specs.SyncManager.{SyncManager}
use Rattle.ec_slave.specs.Physical.{Window, byte_from, is_missing, is_stored_at, memory_written}
use Rattle.ec_slave.specs.Keeping.{length-updated}
use Rattle.ec_slave.proofs.Memory.UpdatedAlong.{get-updated0}

-- none of them lies before the FMMUs' registers or behind them
pub not-missing : (o : Option Hardware) (a : ℕ) → (a < 1536) ⊎ (1600 ≤ a) → is_missing o a ≡ false
not-missing None a h = refl
not-missing (Some x) a (inl l) = and_left _ _ (lt-leb (1536 + 16 * x.fmmus) a (omega (arith, l)))
not-missing (Some x) a (inr l) = and_right (nat_le (1536 + 16 * x.fmmus) a) _ (le-ltb a 1600 l)

-- they are those from the number of the type's FMMUs on
pub missing-from : (o : Option Hardware) (a : ℕ) → is_missing o a ≡ (nat_le (1536 + 16 * fmmu_count o) a && nat_lt a 1600)
missing-from None a = sym (elim (cases_lt a 1600) [
  | inl l ↦ and_left _ _ (lt-leb 1600 a l)
  | inr l ↦ and_right (nat_le 1600 a) _ (le-ltb a 1600 l)
])
missing-from (Some x) a = refl

-- a write leaves them
pub missing-left : (o : Option Hardware) (ms : List SyncManager) (w : Window) (memory : List ℕ) (a : ℕ) → is_missing o a ≡ true → slice_index (memory_written o ms w memory) a ≡ slice_index memory a
missing-left o ms w memory a h = elim (cases_lt a (length memory)) [
  | inl l ↦ get-updated0 memory _ a l ∙ ap (λ (b : Option ℕ). unwrap_or b (slice_index memory a)) (if_true _ _ _ h)
  | inr l ↦ get_or_past (memory_written o ms w memory) a 0 (let e = length-updated 0 memory (λ k. if is_missing o k then None else (if is_stored_at ms k then byte_from w k else None)) in omega (arith, e, l)) ∙ sym (get_or_past memory a 0 l)
]

pub skipped : {X : Type 0} (b : Bool) (x : Option X) → x ≡ None → (if b then None else x) ≡ None
skipped true x e = refl
skipped false x e = e
