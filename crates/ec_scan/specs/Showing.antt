-- What slaves show of themselves, and how a scan reads it (ETG.1000.6, "Slave information interface area").
use Rattle.std.specs.Prelude.{ℕ, zero, suc, ◌+◌, ◌==◌, ◌≡◌, ◌≤◌, ◌<◌, ◌^◌, ◌&&◌, ◌||◌, ◌⊎◌, not, List, [], ◌∷◌, ◌++◌, map, Bool, true, false, nat_le, if◌then◌else◌, Option, Some, None}
use Rattle.std.specs.List.{range_with_len}
use Rattle.std.specs.Int.{bit_at}
use Rattle.ec_device.specs.declared.slave_type.Mailbox.{Mailbox}
use Rattle.ec_device.specs.Types.{IsMailbox}
use Rattle.ec_regs.specs.Memory.{sii_control}
use Rattle.ec_regs.specs.Words.{sii_error}
use Rattle.ec_sii.specs.Laws.{read_command}
use Rattle.ec_sii.specs.Port.{Sii, sii_byte, written, stepped, last_address}
use Rattle.ec_sii.specs.SiiImage.{word_at as word_of_image}
use Rattle.ec_coe.specs.declared.abort_code.AbortCode.TheVariants.{NoObject}
use Rattle.ec_coe.specs.declared.reply.Reply.TheVariants.{Aborted}
use Rattle.ec_coe.specs.declared.value.ValueSize.TheVariants.{Four}
use Rattle.ec_coe.specs.Messages.{message_read}
use Rattle.ec_coe.specs.Replies.{free_reply_of}
use Rattle.ec_coe.specs.Transfers.{abort_number}
use Rattle.ec_start.specs.declared.action.Action.TheVariants.{AwaitWord}
use Rattle.ec_start.specs.Verdicts.{word_at}
use Rattle.ec_scan.specs.declared.shown.Shown.{Shown}
use Rattle.ec_scan.specs.Lines.{LineState}
use Rattle.ec_scan.specs.declared.shown.ShownMailbox.{ShownMailbox}

-- ---- the SII

-- the most words of categories that a scan reads
abbrev pub most_words : ℕ
most_words = 4096

-- The two words in an answer to a wait for them: the control and status word, the word address, and at 6 the words. None if the read
-- ended with an error.
abbrev pub words_in : List ℕ → Option (ℕ × ℕ)
words_in bytes = if sii_error (word_at bytes 0) then None else Some (word_at bytes 6, word_at bytes 8)

-- the ten bytes from the control word on, as a master reads them
abbrev pub port_bytes : Sii → List ℕ
port_bytes p = map (sii_byte p) (range_with_len sii_control 10)

-- What an idle port shows behind a read of a word address is read as the two words there. (A word has 16 bits.)
abbrev pub ReadsFindWords : Type 0
ReadsFindWords =
    (p : Sii) (address : ℕ) → p.busy ≡ false → address ≤ last_address p.image → address < 2 ^ 32
    → word_of_image p.image address < 2 ^ 16 → word_of_image p.image (address + 1) < 2 ^ 16
    → words_in (port_bytes (stepped (written p sii_control (read_command address)))) ≡ Some (word_of_image p.image address, word_of_image p.image (address + 1))

-- The answer that came last is to a wait for these words, by the number that the action has of them, and shows them.
pub record AreShown (slave which : ℕ) (words : Option (ℕ × ℕ)) (l : LineState) : Type 0 where
  pub asked : l.asked ≡ Some (AwaitWord slave which)
  pub words_are : words_in l.answer ≡ words

-- ---- whole categories

-- Words reach the end mark 0xFFFF: it stands where a category would begin. Each is its type, its length and so many words; first so many
-- words are passed over.
abbrev pub is_ended : (passed : ℕ) → List ℕ → Bool
is_ended zero [] = false
is_ended zero (number ∷ []) = number == 0xFFFF
is_ended zero (number ∷ count ∷ words) = (number == 0xFFFF) || is_ended count words
is_ended (suc passed) [] = false
is_ended (suc passed) (word ∷ words) = is_ended passed words

-- An SII of one kibibit has 64 words, and no categories behind them. Its size was read last: word 0x3E, the 27th of an action's two, has
-- the kibibits less 1.
abbrev pub HasNoCategories : ℕ → LineState → Type 0
HasNoCategories slave l = (version : ℕ) × AreShown slave 27 (Some (0, version)) l

-- So words are taken as the categories of a slave: they reach the end mark, or the SII says that there are none. Words that a fault cut are
-- never taken, nor is their lack.
abbrev pub AreWhole : ℕ → List ℕ → LineState → Type 0
AreWhole slave words l = (is_ended 0 words ≡ true) ⊎ ((words ≡ []) × HasNoCategories slave l)

-- a slave as it was found has them
abbrev pub HasWholeSii : Shown → Type 0
HasWholeSii s = (is_ended 0 s.categories ≡ true) ⊎ (s.categories ≡ [])

-- A walk over words has come from one place to another: if the end mark is reached from there, whatever follows, it is from here.
abbrev pub Leads : List ℕ → (from to : ℕ) → Type 0
Leads words from to = (rest : List ℕ) → is_ended to (words ++ rest) ≡ true → is_ended from (words ++ rest) ≡ true

-- ---- objects

-- The answer that came last aborts the upload of subindex 0 of an object, since there is no object of this index (ETG.1000.6, "Abort SDO
-- transfer"). A slave that aborts it by another code may have the object, and isn't taken as one without.
abbrev pub LacksObject : ℕ → LineState → Type 0
LacksObject index l = free_reply_of index 0 Four (message_read l.answer) ≡ Aborted (abort_number NoObject)

-- ---- mailboxes

-- there are mailboxes, and bit 2 of their protocols: CoE
abbrev pub speaks_coe : ShownMailbox → Bool
speaks_coe m = not (m.place.receive_size == 0) && (bit_at m.protocols 2 == 1)

-- behind the registers
abbrev pub is_in_ram : ℕ → ℕ → Bool
is_in_ram start size = nat_le 0x1000 start && nat_le (start + size) 65536

-- 16 to 1024 bytes
abbrev pub is_size : ℕ → Bool
is_size size = nat_le 16 size && nat_le size 1024

-- the mailboxes that a scan and a table can use
abbrev pub usable : ShownMailbox → Option Mailbox
usable m =
    if speaks_coe m && (is_size m.place.receive_size && is_size m.place.send_size)
    && (is_in_ram m.place.receive_start m.place.receive_size && is_in_ram m.place.send_start m.place.send_size)
    then Some m.place else None

-- what that is worth for requests and replies
pub record IsUsable (m : Mailbox) : Type 0 where
  pub sizes : IsMailbox m
  pub receive : 0x1000 ≤ m.receive_start
  pub send : 0x1000 ≤ m.send_start
  pub receive_end : m.receive_start + m.receive_size ≤ 65536
  pub send_end : m.send_start + m.send_size ≤ 65536
