-- A frame as text (this project's profile): a line for the frame, and one for each of its datagrams. Words stand between
-- single blanks. Numbers are decimal unless they are said to be hex; hex numbers have their high digits first.
use Rattle.std.specs.Prelude.{ℕ, ◌+◌, ◌/◌, ◌%◌, ◌==◌, Bool, true, false, if◌then◌else◌, List, [], ◌∷◌, ◌++◌, length, codes}
use Rattle.std.specs.Fmt.{decimal}
use Rattle.byteorder.specs.Endian.{big_bytes}
use Rattle.hex.specs.Hex.{encode_lower}
use Rattle.ec_frame.specs.declared.command.Command.{Command}
use Rattle.ec_frame.specs.declared.command.Command.TheVariants.{Nop, Aprd, Apwr, Aprw, Fprd, Fpwr, Fprw, Brd, Bwr, Brw, Lrd, Lwr, Lrw, Armw, Frmw}
use Rattle.ec_frame.specs.Datagram.{Datagram}
use Rattle.ec_frame.specs.Frame.{Payload}

abbrev pub Text : Type 0
Text = List ℕ

-- words with a blank before each
abbrev pub spaced : List Text → Text
spaced [] = []
spaced (word ∷ words) = 32 ∷ word ++ spaced words

abbrev pub newline : Text
newline = 10 ∷ []

-- ---- words

-- the standard's names of the commands (ETG.1000.4, "Commands")
abbrev pub command_name : Command → Text
command_name Nop = codes "NOP"
command_name Aprd = codes "APRD"
command_name Apwr = codes "APWR"
command_name Aprw = codes "APRW"
command_name Fprd = codes "FPRD"
command_name Fpwr = codes "FPWR"
command_name Fprw = codes "FPRW"
command_name Brd = codes "BRD"
command_name Bwr = codes "BWR"
command_name Brw = codes "BRW"
command_name Lrd = codes "LRD"
command_name Lwr = codes "LWR"
command_name Lrw = codes "LRW"
command_name Armw = codes "ARMW"
command_name Frmw = codes "FRMW"

-- whether the four address bytes are a logical address
abbrev pub is_logical : Command → Bool
is_logical Lrd = true
is_logical Lwr = true
is_logical Lrw = true
is_logical _ = false

-- two, four and eight hex digits
abbrev pub byte_text : ℕ → Text
byte_text n = encode_lower (big_bytes 1 n)

abbrev pub word_text : ℕ → Text
word_text n = encode_lower (big_bytes 2 n)

abbrev pub long_text : ℕ → Text
long_text n = encode_lower (big_bytes 4 n)

-- bytes in hex, and a dash for none
abbrev pub data_text : List ℕ → Text
data_text [] = codes "-"
data_text (b ∷ bytes) = encode_lower (b ∷ bytes)

-- ---- a datagram's line

-- `at ADP:ADO`, or `logical ADDRESS`, in hex
abbrev pub address_words : Command → ℕ → List Text
address_words command address =
    if is_logical command
    then codes "logical" ∷ long_text address ∷ []
    else codes "at" ∷ (word_text (address % 65536) ++ 58 ∷ word_text (address / 65536)) ∷ []

-- what is seldom set: it stands there only if it isn't zero
abbrev pub irq_words : ℕ → List Text
irq_words irq = if irq == 0 then [] else codes "irq" ∷ word_text irq ∷ []

abbrev pub reserved_words : ℕ → List Text
reserved_words bits = if bits == 0 then [] else codes "reserved" ∷ decimal bits ∷ []

abbrev pub circulating_words : Bool → List Text
circulating_words circulating = if circulating then codes "circulating" ∷ [] else []

abbrev pub seldom_words : Datagram → List Text
seldom_words d = irq_words d.irq ++ (reserved_words d.reserved ++ circulating_words d.circulating)

abbrev pub datagram_words : Datagram → List Text
datagram_words d =
    (command_name d.command ∷ codes "index" ∷ byte_text d.index ∷ [])
    ++ (address_words d.command d.address ++ (seldom_words d ++ (codes "counter" ∷ decimal d.counter ∷ codes "data" ∷ data_text d.data_bytes ∷ [])))

-- the line of datagram n
unfoldable pub datagram_line : ℕ → Datagram → Text
datagram_line n d = decimal n ++ (spaced (datagram_words d) ++ newline)

-- the lines of datagrams one after another, the first of which is datagram n
abbrev pub datagram_lines : ℕ → List Datagram → Text
datagram_lines n [] = []
datagram_lines n (d ∷ ds) = datagram_line n d ++ datagram_lines (n + 1) ds

-- ---- a frame's text

-- how many datagrams there are, whether bit 11 of the header is set, and the bytes behind the datagrams
abbrev pub reserved_bit_words : Bool → List Text
reserved_bit_words reserved = if reserved then codes "reserved" ∷ [] else []

abbrev pub rest_words : List ℕ → List Text
rest_words [] = []
rest_words (b ∷ bytes) = codes "rest" ∷ encode_lower (b ∷ bytes) ∷ []

unfoldable pub heading_line : ℕ → Bool → List ℕ → Text
heading_line count reserved rest =
    codes "frame" ++ (spaced (decimal count ∷ reserved_bit_words reserved ++ rest_words rest) ++ newline)

abbrev pub frame_text : Payload → Text
frame_text p = heading_line (length p.datagrams) p.reserved p.rest ++ datagram_lines 0 p.datagrams
