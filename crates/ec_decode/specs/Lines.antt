-- What the line of a frame and the line of a datagram stand for (this project's profile).
use Rattle.std.specs.Prelude.{ℕ, ◌==◌, ◌&&◌, Bool, true, false, if◌then◌else◌, List, [], ◌∷◌, Option, Some, None, codes}
use Rattle.std.specs.Str.{bytes_eq}
use Rattle.ec_frame.specs.Datagram.{Datagram}
use Rattle.ec_decode.specs.declared.line.Fields.{Fields}
use Rattle.ec_decode.specs.FrameText.{Text}
use Rattle.ec_decode.specs.Words.{◌>>=◌, address_in, bits_in, bytes_in, command_in, counter_in, data_in, hex_in, number_in}

-- ---- words that may be left out: what they write, and the words behind them

-- a word
unfoldable pub flag_in : Text → List Text → Bool × List Text
flag_in key [] = (false, [])
flag_in key (word ∷ words) = if bytes_eq word key then (true, words) else (false, word ∷ words)

-- a word and a number, which is zero if they are left out
unfoldable pub option_in : (Text → Option ℕ) → Text → List Text → Option (ℕ × List Text)
option_in read key [] = Some (0, [])
option_in read key (word ∷ []) = Some (0, word ∷ [])
option_in read key (word ∷ value ∷ words) =
    if bytes_eq word key then read value >>= (λ n. Some (n, words)) else Some (0, word ∷ value ∷ words)

-- ---- a datagram's line

-- number, command, index and address, and what is seldom set; and the words behind them
unfoldable pub fields_in : ℕ → List Text → Option (Fields × List Text)
fields_in n (number ∷ name ∷ key ∷ index ∷ how ∷ address ∷ words) =
    number_in number >>= (λ k. if k == n && bytes_eq key (codes "index") then
    command_in name >>= (λ c. hex_in 1 index >>= (λ i. address_in c how address >>= (λ a.
    option_in (hex_in 2) (codes "irq") words >>= (λ (q, ws). option_in bits_in (codes "reserved") ws >>= (λ (r, vs).
    Some (record { command = c; index = i; address = a; irq = q; reserved = r; circulating = (flag_in (codes "circulating") vs).0 }, (flag_in (codes "circulating") vs).1))))))
    else None)
fields_in n _ = None

-- counter and data, and nothing behind them
unfoldable pub tail_in : List Text → Option (ℕ × Text)
tail_in (key ∷ counter ∷ name ∷ bytes ∷ []) =
    if bytes_eq key (codes "counter") && bytes_eq name (codes "data") then counter_in counter >>= (λ n. Some (n, bytes)) else None
tail_in _ = None

abbrev pub datagram_with : Fields → ℕ → List ℕ → Datagram
datagram_with f counter bytes = record {
  command = f.command;
  index = f.index;
  address = f.address;
  reserved = f.reserved;
  circulating = f.circulating;
  irq = f.irq;
  data_bytes = bytes;
  counter = counter;
}

-- datagram n
unfoldable pub datagram_in : ℕ → List Text → Option Datagram
datagram_in n words =
    fields_in n words >>= (λ (f, rest). tail_in rest >>= (λ (counter, word). data_in word >>= (λ bytes. Some (datagram_with f counter bytes))))

-- ---- a frame's line

-- the bytes behind the datagrams
unfoldable pub rest_in : List Text → Option (List ℕ)
rest_in [] = Some []
rest_in (key ∷ bytes ∷ []) = if bytes_eq key (codes "rest") then bytes_in bytes else None
rest_in _ = None

-- how many datagrams there are, bit 11 of the header, and the bytes behind the datagrams
pub record Heading : Type 0 where
  pub count : ℕ
  pub reserved : Bool
  pub rest : List ℕ

unfoldable pub heading_in : List Text → Option Heading
heading_in (name ∷ count ∷ words) =
    if bytes_eq name (codes "frame") then
    number_in count >>= (λ n. if n == 0 then None else
    rest_in (flag_in (codes "reserved") words).1 >>= (λ bytes. Some (record { count = n; reserved = (flag_in (codes "reserved") words).0; rest = bytes })))
    else None
heading_in _ = None
