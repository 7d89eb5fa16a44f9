-- What a master makes of the words that it reads in the SII (ETG.1000.6, "Slave information interface area"): a reader
-- that is defined apart from what a slave shows.
use Rattle.std.specs.Prelude.{ℕ, zero, suc, ◌+◌, ◌-◌, ◌*◌, ◌/◌, ◌%◌, ◌==◌, List, [], ◌∷◌, length, map, take, drop, if◌then◌else◌, slice_index, Option, Some, None}
use Rattle.std.specs.List.{flat_map, range_with_len}
use Rattle.ec_device.specs.declared.slave_type.Entry.{Entry}
use Rattle.ec_device.specs.declared.slave_type.Pdo.{Pdo}
use Rattle.ec_sii.specs.declared.categories.SiiManager.{SiiManager}
use Rattle.ec_sii.specs.declared.image.SiiImage.{SiiImage}
use Rattle.ec_sii.specs.SiiImage.{word_at}

-- the words at all addresses from 0x40 to the end of the image, whose size stands at 0x3E in kibibits less 1
abbrev pub area_read : SiiImage → List ℕ
area_read image = map (word_at image) (range_with_len 0x40 (64 * (word_at image 0x3E + 1) - 0x40))

-- ---- categories

-- The words of the first category of a type, if one stands before the end mark 0xFFFF. A category is its type, its length
-- and so many words; first so many words are passed over.
unfoldable pub found_behind : (passed wanted : ℕ) → List ℕ → Option (List ℕ)
found_behind zero wanted (number ∷ count ∷ words) =
    if number == 0xFFFF then None
    else (if number == wanted then Some (take count words) else found_behind count wanted words)
found_behind (suc passed) wanted (word ∷ words) = found_behind passed wanted words
found_behind _ _ _ = None

abbrev pub category_found : ℕ → List ℕ → Option (List ℕ)
category_found wanted words = found_behind 0 wanted words

-- the bytes of words, of each the low one first
abbrev pub bytes_of : List ℕ → List ℕ
bytes_of words = flat_map (λ word. word % 256 ∷ word / 256 ∷ []) words

-- ---- what stands in them

-- strings: how many there are, and the letters of the first, which its length precedes
pub record ReadStrings : Type 0 where
  pub number : ℕ
  pub first : List ℕ

abbrev pub strings_read : List ℕ → ReadStrings
strings_read words =
    record { number = slice_index (bytes_of words) 0; first = take (slice_index (bytes_of words) 1) (drop 2 (bytes_of words)) }

-- sync managers: start, length, control, status, activate and usage
unfoldable pub managers_read : List ℕ → List SiiManager
managers_read (start ∷ length ∷ control ∷ last ∷ words) =
    record {
      settings = record { start = start; length = length; control = control % 256; activate = last % 256 };
      usage = last / 256;
    } ∷ managers_read words
managers_read _ = []

-- a PDO, and the sync manager that moves it
pub record ReadPdo : Type 0 where
  pub manager : ℕ
  pub pdo : Pdo

-- entries, and the PDOs behind them
pub record ReadPdos : Type 0 where
  pub entries : List Entry
  pub pdos : List ReadPdo

-- the words of so many entries, and of the PDOs behind them: a PDO has its index, the number of its entries, its sync
-- manager and three words that aren't used, and then its entries; an entry has index, subindex and bits
unfoldable pub entries_read : ℕ → List ℕ → ReadPdos
entries_read zero (index ∷ number ∷ names ∷ flags ∷ words) =
    let behind = entries_read (number % 256) words in record {
      entries = [];
      pdos = record { manager = number / 256; pdo = record { index = index; entries = behind.entries } } ∷ behind.pdos;
    }
entries_read (suc more) (index ∷ subindex ∷ bits ∷ flags ∷ words) =
    let behind = entries_read more words in record {
      entries = record { index = index; subindex = subindex % 256; bits = bits / 256 } ∷ behind.entries;
      pdos = behind.pdos;
    }
entries_read _ _ = record { entries = []; pdos = [] }

-- the PDOs in the words of a category
abbrev pub pdos_read : List ℕ → List ReadPdo
pdos_read words = (entries_read 0 words).pdos
