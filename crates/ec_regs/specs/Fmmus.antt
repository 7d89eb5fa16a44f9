-- The settings of an FMMU (ETG.1000.4, "FMMU").
use Rattle.std.specs.Prelude.{ℕ, ◌+◌, ◌*◌, ◌/◌, ◌%◌, ◌==◌, ◌≡◌, ◌<◌, false, List, [], ◌∷◌, slice_index}
use Rattle.std.specs.Int.{bit_at, from_bool}
use Rattle.ec_regs.specs.declared.fmmu.FmmuSettings.{FmmuSettings}

-- the settings that the sixteen bytes of an FMMU say, byte by byte
abbrev pub fmmu_of : (ℕ → ℕ) → FmmuSettings
fmmu_of byte = record {
  logical_start = byte 0 + 256 * byte 1 + 65536 * byte 2 + 16777216 * byte 3;
  length = byte 4 + 256 * byte 5;
  start_bit = byte 6 % 8;
  stop_bit = byte 7 % 8;
  physical_start = byte 8 + 256 * byte 9;
  physical_bit = byte 10 % 8;
  reads = bit_at (byte 11) 0 == 1;
  writes = bit_at (byte 11) 1 == 1;
  active = bit_at (byte 12) 0 == 1;
}

-- the sixteen bytes that say the settings, with 0 in the three that are reserved
abbrev pub fmmu_bytes : FmmuSettings → List ℕ
fmmu_bytes f =
    (f.logical_start % 256) ∷ (f.logical_start / 256 % 256) ∷ (f.logical_start / 65536 % 256) ∷ (f.logical_start / 16777216)
    ∷ (f.length % 256) ∷ (f.length / 256) ∷ f.start_bit ∷ f.stop_bit
    ∷ (f.physical_start % 256) ∷ (f.physical_start / 256) ∷ f.physical_bit ∷ (from_bool f.reads + 2 * from_bool f.writes)
    ∷ from_bool f.active ∷ 0 ∷ 0 ∷ 0 ∷ []

-- settings whose bit numbers are 0 to 7 are read back from their bytes
abbrev pub FmmuIsReadBack : Type 0
FmmuIsReadBack = (f : FmmuSettings) → f.start_bit < 8 → f.stop_bit < 8 → f.physical_bit < 8 → fmmu_of (slice_index (fmmu_bytes f)) ≡ f

-- an FMMU that maps nothing
abbrev pub no_fmmu : FmmuSettings
no_fmmu = record { logical_start = 0; length = 0; start_bit = 0; stop_bit = 0; physical_start = 0; physical_bit = 0; reads = false; writes = false; active = false }
