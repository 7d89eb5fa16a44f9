-- Reads and writes byte by byte, and what they count.
use Rattle.std.proofs.Common.{ℕ, ◌+◌, ◌*◌, ◌<◌, ◌≡◌, if◌then◌else◌, List, length, Bool, true, false, slice_index, Option, unwrap_or, refl, ◌∙◌, ap}
use Rattle.std.specs.Int.{from_bool}
use Rattle.ec_device.specs.declared.hardware.Hardware.{Hardware}
use Rattle.ec_slave.specs.declared.role.Role.TheVariants.{Nothing, Read, Write, ReadWrite, OrRead, OrReadWrite}
use Rattle.ec_sync.specs.SyncManager.{SyncManager}
use Rattle.ec_slave.specs.Physical.{Window, byte_read, is_missing, some_byte_read, is_written, physical_met}
use Rattle.ec_slave.proofs.Memory.WindowBytes.{taken_byte}
use Rattle.ec_slave.proofs.Memory.MissingFmmus.{skipped}
use Rattle.ec_slave.specs.Keeping.{length-updated}
use Rattle.ec_slave.specs.Laws.{WritesByByte, IsWrittenAt, ReadsByByte, CountsByRole}
use Rattle.ec_bits.proofs.AnyLaws.{if_true, if_false, if_none}
use Rattle.ec_slave.proofs.Memory.UpdatedAlong.{get-updated0}

pub written_at : (o : Option Hardware) (ms : List SyncManager) (w : Window) (memory : List ℕ) (a : ℕ) → a < length memory → IsWrittenAt o ms w memory a
written_at o ms w memory a l =
    let own = get-updated0 memory (taken_byte o ms w) a l in
    record {
      taken = λ t h m. own ∙ ap (λ (b : Option ℕ). unwrap_or b (slice_index memory a)) (if_false _ _ _ h ∙ (if_true _ _ _ m ∙ if_true _ _ _ t));
      missing = λ h. own ∙ ap (λ (b : Option ℕ). unwrap_or b (slice_index memory a)) (if_true _ _ _ h);
      refused = λ m. own ∙ ap (λ (b : Option ℕ). unwrap_or b (slice_index memory a)) (skipped (is_missing o a) _ (if_false _ _ _ m));
      untouched = λ t. own ∙ ap (λ (b : Option ℕ). unwrap_or b (slice_index memory a)) (skipped (is_missing o a) _ (if_none _ _ (if_false _ _ _ t)));
    }

pub writes_by_byte : WritesByByte
writes_by_byte o ms w memory = (length-updated 0 memory (taken_byte o ms w), written_at o ms w memory)

pub reads_by_byte : ReadsByByte
reads_by_byte s joining w k l =
    let own = get-updated0 w.bytes (byte_read s joining w) k l in
    record {
      given = λ m. own ∙ ap (λ (o : Option ℕ). unwrap_or o (slice_index w.bytes k)) (if_true _ _ _ m);
      denied = λ m. own ∙ ap (λ (o : Option ℕ). unwrap_or o (slice_index w.bytes k)) (if_false _ _ _ m);
    }

alone : (b : Bool) → from_bool false + 1 * from_bool b ≡ (if b then 1 else 0)
alone true = refl
alone false = refl

only_read : (b : Bool) → from_bool b + 2 * from_bool false ≡ (if b then 1 else 0)
only_read true = refl
only_read false = refl

both : (r w : Bool) → from_bool r + 2 * from_bool w ≡ (if r then (if w then 3 else 1) else (if w then 2 else 0))
both true true = refl
both true false = refl
both false true = refl
both false false = refl

pub counts_by_role : CountsByRole
unfolding physical_met
counts_by_role s Nothing w = refl
counts_by_role s Read w = only_read (some_byte_read s.managers w)
counts_by_role s Write w = alone (is_written s w)
counts_by_role s ReadWrite w = both (some_byte_read s.managers w) (is_written s w)
counts_by_role s OrRead w = only_read (some_byte_read s.managers w)
counts_by_role s OrReadWrite w = both (some_byte_read s.managers w) (is_written s w)
