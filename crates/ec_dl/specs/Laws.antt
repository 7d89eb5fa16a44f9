-- What a master finds by the data link registers, of the definitions of this crate.
use Rattle.std.specs.Prelude.{◌⊎◌, is_some, ℕ, ◌+◌, ◌-◌, ◌*◌, ◌/◌, ◌%◌, ◌≡◌, ◌&&◌, List, length, Bool, true, false, slice_index, Some, if◌then◌else◌}
use Rattle.std.specs.Int.{bit_at}
use Rattle.ec_bits.specs.Bits.{within}
use Rattle.ec_device.specs.declared.slave_type.Face.{Face}
use Rattle.ec_dl.specs.DataLink.{DataLink, dl_byte, dl_stores, dl_takes, dl_written, new_data_link, dl_status, stored_index}

-- A slave without a face shows none of these registers and takes no write to them, whatever is written.
pub record IsHidden (d : DataLink) : Type 0 where
  pub reads : (a : ℕ) → dl_byte d a ≡ 0
  pub takes : (from count : ℕ) → dl_takes d from count ≡ false
  pub stays : (from : ℕ) (bytes : List ℕ) → dl_written d from bytes ≡ d

abbrev pub PlainSlavesHideThem : Type 0
PlainSlavesHideThem = (d : DataLink) → d.visible ≡ false → IsHidden d

-- What isn't taken changes nothing.
abbrev pub OnlyTakenIsStored : Type 0
OnlyTakenIsStored = (d : DataLink) (from : ℕ) (bytes : List ℕ) → dl_takes d from (length bytes) ≡ false → dl_written d from bytes ≡ d

-- After a datagram a register that keeps writes reads the byte that the datagram has for it; every other reads what it read.
abbrev pub WritesAreReadBack : Type 0
WritesAreReadBack =
    (d : DataLink) (from : ℕ) (bytes : List ℕ) (a : ℕ) →
    dl_byte (dl_written d from bytes) a ≡ (if within from (length bytes) a && dl_stores d a then slice_index bytes (a - from) else dl_byte d a)

-- A register that keeps writes is one of six bytes: DL control's four, PDI control, SII access.
abbrev pub StoredAreSix : Type 0
StoredAreSix =
    (a : ℕ) → is_some (stored_index a) ≡ true
    → (a ≡ 0x0100) ⊎ ((a ≡ 0x0101) ⊎ ((a ≡ 0x0102) ⊎ ((a ≡ 0x0103) ⊎ ((a ≡ 0x0140) ⊎ (a ≡ 0x0500)))))

-- What a datagram takes is what it has for a register that keeps writes.
abbrev pub OneStoredIsTaken : Type 0
OneStoredIsTaken = (d : DataLink) (from count a : ℕ) → within from count a ≡ true → dl_stores d a ≡ true → dl_takes d from count ≡ true

-- A full slave's DL status, bit by bit: the PDI works, there is a link with communication at port 0, and at port 1 exactly
-- if a slave follows; the loops of the ports without are closed.
pub record HasLinks (word : ℕ) (next : Bool) : Type 0 where
  pub operational : (bit_at word 0) ≡ 1
  pub links : (word / 16) % 16 ≡ (if next then 3 else 1)
  pub port_0 : (word / 256) % 4 ≡ 2
  pub port_1 : (word / 1024) % 4 ≡ (if next then 2 else 1)
  pub port_2 : (word / 4096) % 4 ≡ 1
  pub port_3 : word / 16384 ≡ 1

abbrev pub StatusHasLinks : Type 0
StatusHasLinks =
    (face : Face) → let d = new_data_link (Some face) in
    HasLinks (dl_byte d dl_status + 256 * dl_byte d (dl_status + 1)) d.next
