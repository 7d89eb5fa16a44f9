-- What is written is the spelling.
use Rattle.std.proofs.Common.{◌≡◌, ◌∙◌, ℕ, ◌<◌, ◌≤◌, ◌+◌, ◌/◌, ◌%◌, ◌^◌, List, [], ◌∷◌, ◌++◌, length, refl, sym, ap, append_assoc, arith, Bool, true, false}
use Rattle.std.proofs.Common.{zero, suc, take, drop, get_or}
use Rattle.std.proofs.lemmas.List.{append-nil, length-append}
use Rattle.std.specs.List.{flat_map}
use Rattle.std.specs.Int.{to_le_bytes, w16, w32}
use Rattle.ec_capture.specs.Blocks.{block_bytes, block_size, half, number, options_bytes, padding, zeros}
use Rattle.ec_capture.specs.Captures.{Captured, comment_bytes, ethernet, ethernet_head, ethernet_size, interface_block, packet_block}

pub number_spelled : (n : ℕ) → to_le_bytes w32 n ≡ number n
unfolding number
number_spelled n = refl

pub half_spelled : (n : ℕ) → to_le_bytes w16 n ≡ half n
unfolding half
half_spelled n = refl

pub code_spelled : (n : ℕ) → n < 256 → n ∷ 0 ∷ [] ≡ half n
unfolding half
code_spelled n small =
    let low : n ≡ n % 256 = omega arith in let high : 0 ≡ n / 256 % 256 = omega arith in
    ap (λ (x : ℕ). x ∷ 0 ∷ []) low ∙ ap (λ (x : ℕ). n % 256 ∷ x ∷ []) high

pub sent_spelled : 255 ∷ 255 ∷ 255 ∷ 255 ∷ 255 ∷ 255 ∷ 0x00 ∷ 0x00 ∷ 0x00 ∷ 0x45 ∷ 0x43 ∷ 0x01 ∷ 0x88 ∷ 0xA4 ∷ [] ≡ ethernet_head false
unfolding ethernet_head
sent_spelled = refl

pub passed_spelled : 255 ∷ 255 ∷ 255 ∷ 255 ∷ 255 ∷ 255 ∷ 0x02 ∷ 0x00 ∷ 0x00 ∷ 0x45 ∷ 0x43 ∷ 0x01 ∷ 0x88 ∷ 0xA4 ∷ [] ≡ ethernet_head true
unfolding ethernet_head
passed_spelled = refl

-- ---- numbers one after the other

pub numbers_split : (ns : List ℕ) (k : ℕ) → k < length ns → flat_map number ns ≡ flat_map number (take k ns) ++ (number (get_or ns k 0) ++ flat_map number (drop (suc k) ns))
numbers_split [] k below = absurd (omega arith)
numbers_split (n ∷ ns) zero below = refl
numbers_split (n ∷ ns) (suc k) below =
    let less : k < length ns = omega arith in
    ap (λ (xs : List ℕ). number n ++ xs) (numbers_split ns k less) ∙ sym (append_assoc (number n) _ _)

pub numbers_more : (ns : List ℕ) (k : ℕ) → k < length ns → flat_map number (take k ns) ++ number (get_or ns k 0) ≡ flat_map number (take (k + 1) ns)
numbers_more [] k below = absurd (omega arith)
numbers_more (n ∷ ns) zero below = sym (append-nil (number n))
numbers_more (n ∷ ns) (suc k) below =
    let less : k < length ns = omega arith in
    let e : suc k + 1 ≡ suc (k + 1) = omega arith in
    rw e (append_assoc (number n) _ _ ∙ ap (λ (xs : List ℕ). number n ++ xs) (numbers_more ns k less))

-- ---- sizes

pub zeros-length : (n : ℕ) → length (zeros n) ≡ n
zeros-length zero = refl
zeros-length (suc n) = ap suc (zeros-length n)

pub options-length : (code : ℕ) (text : List ℕ) → length (options_bytes code text) ≡ 8 + length text + padding (length text)
unfolding half
options-length code text =
    let a : length (text ++ (zeros (padding (length text)) ++ zeros 4)) ≡ length text + length (zeros (padding (length text)) ++ zeros 4) = length-append text (zeros (padding (length text)) ++ zeros 4) in
    let b : length (zeros (padding (length text)) ++ zeros 4) ≡ length (zeros (padding (length text))) + 4 = length-append (zeros (padding (length text))) (zeros 4) in
    let d = zeros-length (padding (length text)) in
    omega (arith, a, b, d)

pub padding-few : (n : ℕ) → padding n ≤ 3
unfolding padding
padding-few n = omega arith

pub head-length : (passed : Bool) → length (ethernet_head passed) ≡ 14
unfolding ethernet_head
head-length true = refl
head-length false = refl

pub ethernet-length : (passed : Bool) (payload : List ℕ) → length (ethernet passed payload) ≡ ethernet_size payload
ethernet-length passed payload = omega (arith, length-append (ethernet_head passed) payload, head-length passed)

pub interface-length : (name : List ℕ) → block_size (interface_block name).body ≡ 28 + length name + padding (length name)
unfolding half number
interface-length name = let o = options-length 2 name in omega (arith, o)

pub packet-length : (s : Captured) → block_size (packet_block s).body ≡ 32 + (ethernet_size s.payload + padding (ethernet_size s.payload)) + length (comment_bytes s.comment)
unfolding number
packet-length s =
    let e = ethernet s.passed s.payload in let z = zeros (padding (length e)) in
    let a : length ((e ++ z) ++ comment_bytes s.comment) ≡ length (e ++ z) + length (comment_bytes s.comment) = length-append (e ++ z) (comment_bytes s.comment) in
    let b : length (e ++ z) ≡ length e + length z = length-append e z in
    let l = ethernet-length s.passed s.payload in
    let d : length z ≡ padding (ethernet_size s.payload) = zeros-length (padding (length e)) ∙ ap padding l in
    omega (arith, a, b, d, l)

-- ---- blocks

pub interface_spelled : (name : List ℕ) (size : ℕ) → size ≡ block_size (interface_block name).body
    → flat_map number (1 ∷ size ∷ 1 ∷ 65535 ∷ []) ++ (options_bytes 2 name ++ flat_map number (size ∷ [])) ≡ block_bytes (interface_block name)
unfolding half number
interface_spelled name size is = ap (λ (n : ℕ). flat_map number (1 ∷ n ∷ 1 ∷ 65535 ∷ []) ++ (options_bytes 2 name ++ flat_map number (n ∷ []))) is

-- the frame of a packet, its comment and its size
frame_spelled : (e p z m n : List ℕ) → (e ++ (p ++ z)) ++ (m ++ n) ≡ (((e ++ p) ++ z) ++ m) ++ n
frame_spelled e p z m n = sym (append_assoc (e ++ (p ++ z)) m n) ∙ ap (λ (xs : List ℕ). (xs ++ m) ++ n) (sym (append_assoc e p z))

pub packet_spelled : (s : Captured) (size : ℕ) → size ≡ block_size (packet_block s).body
    → flat_map number (6 ∷ size ∷ s.interface ∷ s.time / 2 ^ 32 ∷ s.time % 2 ^ 32 ∷ ethernet_size s.payload ∷ ethernet_size s.payload ∷ [])
    ++ ((ethernet_head s.passed ++ (s.payload ++ zeros (padding (ethernet_size s.payload)))) ++ (comment_bytes s.comment ++ flat_map number (size ∷ []))) ≡ block_bytes (packet_block s)
unfolding number
packet_spelled s size is =
    let n = block_size (packet_block s).body in
    let head = λ (size : ℕ) (rest : List ℕ). flat_map number (6 ∷ size ∷ s.interface ∷ s.time / 2 ^ 32 ∷ s.time % 2 ^ 32 ∷ ethernet_size s.payload ∷ ethernet_size s.payload ∷ []) ++ rest in
    let e = ethernet_head s.passed in let z = zeros (padding (ethernet_size s.payload)) in let m = comment_bytes s.comment in
    ap (λ (size : ℕ). head size ((e ++ (s.payload ++ z)) ++ (m ++ flat_map number (size ∷ [])))) is
    ∙ (ap (λ (rest : List ℕ). head n rest) (frame_spelled e s.payload z m (number n))
    ∙ ap (λ (k : ℕ). head n ((((e ++ s.payload) ++ zeros (padding k)) ++ m) ++ number n)) (sym (ethernet-length s.passed s.payload)))
