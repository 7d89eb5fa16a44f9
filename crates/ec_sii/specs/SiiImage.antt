-- The words of the slave information interface (ETG.1000.6, "Slave information interface area"): a slave's identity
-- and where its mailboxes lie, and of a full slave its categories. The image has 64 words, of a full slave as many more
-- as its categories need; those that are not named are 0 (this project's profile).
use Rattle.std.specs.Prelude.{ℕ, ◌+◌, ◌-◌, ◌/◌, ◌%◌, ◌==◌, List, [], ◌∷◌, length, if◌then◌else◌, nat_le, slice_get, slice_index, Option, Some, None, unwrap_or}
use Rattle.std.specs.Option.{option_map}
use Rattle.ec_bits.specs.Bits.{within}
use Rattle.ec_device.specs.declared.slave_type.Identity.{Identity}
use Rattle.ec_device.specs.declared.slave_type.Mailbox.{Mailbox}
use Rattle.ec_device.specs.Types.{SlaveKind}
use Rattle.ec_sii.specs.Categories.{categories_of}
use Rattle.ec_sii.specs.declared.image.SiiImage.{SiiImage}

-- the words of a number of 32 bits, the low one first
abbrev pub low_word : ℕ → ℕ
low_word n = n % 65536

abbrev pub high_word : ℕ → ℕ
high_word n = n / 65536

-- the eight words at 0x08 and behind
abbrev pub identity_words : Identity → List ℕ
identity_words i =
    low_word i.vendor ∷ high_word i.vendor
    ∷ low_word i.product ∷ high_word i.product
    ∷ low_word i.revision ∷ high_word i.revision
    ∷ low_word i.serial ∷ high_word i.serial ∷ []

-- the mailbox protocols of a slave that has a mailbox: bit 2, CoE
abbrev pub coe_protocol : ℕ
coe_protocol = 4

-- the five words at 0x18 and behind
abbrev pub mailbox_words : Option Mailbox → List ℕ
mailbox_words None = 0 ∷ 0 ∷ 0 ∷ 0 ∷ 0 ∷ []
mailbox_words (Some m) = m.receive_start ∷ m.receive_size ∷ m.send_start ∷ m.send_size ∷ coe_protocol ∷ []

-- ---- the size

-- the fewest kibibits, of 64 words each, that hold the first 64 words, the categories, the end mark and one word more, since a
-- read at the end mark shows two
abbrev pub kibibits : List ℕ → ℕ
kibibits categories = (0x40 + length categories + 2 + 63) / 64

-- the size of an image
abbrev pub size_of : Option (List ℕ) → ℕ
size_of None = 1
size_of (Some categories) = kibibits categories

-- ---- the words

-- what stands behind the categories, the end mark first
abbrev pub end_mark : ℕ
end_mark = 0xFFFF

-- The words that aren't those of identity and mailboxes. Those of a full slave are the size in kibibits less 1 at 0x3E,
-- the version of the area at 0x3F, and from 0x40 on the categories and the end mark, which fills the image. (The size of
-- a type's image is less than 2^16.)
abbrev pub other_word : Option (List ℕ) → ℕ → ℕ
other_word None address = 0
other_word (Some categories) address =
    if address == 0x3E then low_word (kibibits categories - 1)
    else (if address == 0x3F then 1
    else (if nat_le 0x40 address then unwrap_or (slice_get categories (address - 0x40)) end_mark else 0))

-- the word at a word address
unfoldable pub word_at : SiiImage → ℕ → ℕ
word_at image address =
    if within 0x08 8 address then slice_index (identity_words image.identity) (address - 0x08)
    else (if within 0x18 5 address then slice_index (mailbox_words image.mailbox) (address - 0x18)
    else other_word image.categories address)

-- ---- the image of a slave

-- a slave of a type is full if the type has a face
abbrev pub image_of : SlaveKind → Identity → SiiImage
image_of kind identity = record {
  identity = identity;
  mailbox = kind.mailbox;
  categories = option_map (λ f. categories_of kind f.name) kind.face;
}
