-- The blocks of a file of the form pcapng (IETF, "PCAP Now Generic (pcapng) Capture File Format"). All numbers are
-- little-endian.
use Rattle.std.specs.Prelude.{ℕ, ◌+◌, ◌-◌, ◌%◌, ◌^◌, ◌<◌, ◌==◌, List, [], ◌∷◌, ◌++◌, length, take, drop, replicate, zero, suc, Option, None, Some, if◌then◌else◌}
use Rattle.std.specs.Int.{to_le_bytes, from_le_bytes, w16, w32}

-- ---- numbers, and what fills a text up

unfoldable pub half : ℕ → List ℕ
half n = to_le_bytes w16 n

unfoldable pub number : ℕ → List ℕ
number n = to_le_bytes w32 n

-- the number at a place in bytes
abbrev pub half_at : ℕ → List ℕ → ℕ
half_at k bytes = from_le_bytes w16 (take 2 (drop k bytes))

abbrev pub number_at : ℕ → List ℕ → ℕ
number_at k bytes = from_le_bytes w32 (take 4 (drop k bytes))

-- how many bytes fill n bytes up to a multiple of four
unfoldable pub padding : ℕ → ℕ
padding n = (4 - n % 4) % 4

abbrev pub zeros : ℕ → List ℕ
zeros n = replicate n 0

-- bytes, filled up with zeros
abbrev pub padded : List ℕ → List ℕ
padded bytes = bytes ++ zeros (padding (length bytes))

-- ---- options

-- the one option of a block: its code, its length, its bytes, filled up, and the end of options
abbrev pub options_bytes : ℕ → List ℕ → List ℕ
options_bytes code text = half code ++ (half (length text) ++ (text ++ (zeros (padding (length text)) ++ zeros 4)))

-- the first option in bytes, if it has this code
unfoldable pub option_in : ℕ → List ℕ → Option (List ℕ)
option_in code [] = None
option_in code (b ∷ bytes) = if half_at 0 (b ∷ bytes) == code then Some (take (half_at 2 (b ∷ bytes)) (drop 4 (b ∷ bytes))) else None

-- ---- blocks

-- a block: its type and its body
pub record Block : Type 0 where
  pub kind : ℕ
  pub body : List ℕ

-- a block's bytes: its type, its length in all, its body, and its length again
abbrev pub block_size : List ℕ → ℕ
block_size body = 12 + length body

abbrev pub block_bytes : Block → List ℕ
block_bytes b = number b.kind ++ (number (block_size b.body) ++ (b.body ++ number (block_size b.body)))

abbrev pub blocks_bytes : List Block → List ℕ
blocks_bytes [] = []
blocks_bytes (b ∷ bs) = block_bytes b ++ blocks_bytes bs

-- a block whose numbers fit into four bytes
pub record IsBlock (b : Block) : Type 0 where
  pub kind : b.kind < 2 ^ 32
  pub size : block_size b.body < 2 ^ 32

-- the first block of bytes, and the bytes behind it
unfoldable pub first_block : List ℕ → Block
first_block bytes = record { kind = number_at 0 bytes; body = take (number_at 4 bytes - 12) (drop 8 bytes) }

unfoldable pub behind_block : List ℕ → List ℕ
behind_block bytes = drop (number_at 4 bytes) bytes

-- the blocks of bytes, at most n
abbrev pub blocks_from : ℕ → List ℕ → List Block
blocks_from zero bytes = []
blocks_from (suc n) [] = []
blocks_from (suc n) (b ∷ bytes) = first_block (b ∷ bytes) ∷ blocks_from n (behind_block (b ∷ bytes))

-- the blocks of a file, of which there are no more than bytes
abbrev pub blocks_in : List ℕ → List Block
blocks_in file = blocks_from (length file) file
