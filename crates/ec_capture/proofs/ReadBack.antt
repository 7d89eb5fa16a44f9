-- A capture is read back from its file.
use Rattle.std.proofs.Common.{◌^◌, get_or, ℕ, zero, suc, ◌+◌, ◌-◌, ◌*◌, ◌/◌, ◌%◌, ◌<◌, ◌≤◌, ◌≡◌, ◌==◌, refl, sym, ap, ◌∙◌, arith, List, [], ◌∷◌, ◌++◌, append_assoc, length, map, take, drop, Bool, true, false, All, Option, None, Some, unwrap_or, if◌then◌else◌}
use Rattle.std.proofs.lemmas.List.{append-nil, drop-drop, length-append}
use Rattle.std.proofs.lemmas.List.Elements.{All-append, All-cons, All-map, filter_map-append}
use Rattle.std.proofs.lemmas.Nat.{from_le_bytes-to_le_bytes_2, from_le_bytes-to_le_bytes_4}
use Rattle.std.proofs.Math.Seq.{take-append_seam, drop-append_seam}
use Rattle.std.specs.List.{filter_map}
use Rattle.std.specs.Prelude.{slice_index}
use Rattle.ec_capture.specs.Blocks.{Block, IsBlock, behind_block, block_bytes, block_size, blocks_bytes, blocks_from, blocks_in, first_block, half, half_at, number, number_at, option_in, options_bytes, padding, zeros}
use Rattle.ec_capture.specs.Captures.{Capture, IsCapture, IsComment, IsCaptured, IsText, Captured, blocks_of, capture_in, comment_bytes, ethernet, ethernet_head, ethernet_size, file_of, interface_block, kept_in, name_in, name_of, packet_block, section_block, captured_in, captured_of}
use Rattle.ec_capture.specs.Laws.{CapturesReadBack}
use Rattle.ec_capture.proofs.BlockBytes.{ethernet-length, interface-length, options-length, packet-length, padding-few, zeros-length}

-- ---- blocks

-- the number that stands first
number_first : (n : ℕ) (more : List ℕ) → n < 2 ^ 32 → number_at 0 (number n ++ more) ≡ n
unfolding number
number_first n more small = from_le_bytes-to_le_bytes_4 n small

-- what stands behind a number
number_behind : (n : ℕ) (more : List ℕ) → drop 4 (number n ++ more) ≡ more
unfolding number
number_behind n more = refl

kind_read : (b : Block) (more : List ℕ) → IsBlock b → number_at 0 (block_bytes b ++ more) ≡ b.kind
unfolding number
kind_read b more ok = from_le_bytes-to_le_bytes_4 b.kind ok.kind

size_read : (b : Block) (more : List ℕ) → IsBlock b → number_at 4 (block_bytes b ++ more) ≡ block_size b.body
unfolding number
size_read b more ok = from_le_bytes-to_le_bytes_4 (block_size b.body) ok.size

body_behind : (b : Block) (more : List ℕ) → drop 8 (block_bytes b ++ more) ≡ b.body ++ (number (block_size b.body) ++ more)
unfolding number
body_behind b more = append_assoc b.body (number (block_size b.body)) more

alike_blocks : (b d : Block) → b.kind ≡ d.kind → b.body ≡ d.body → b ≡ d
alike_blocks b d p q = ap (λ (x : ℕ). record { kind = x; body = b.body }) p ∙ ap (λ (x : List ℕ). record { kind = d.kind; body = x }) q

first_read : (b : Block) (more : List ℕ) → IsBlock b → first_block (block_bytes b ++ more) ≡ b
unfolding first_block
first_read b more ok =
    let n : number_at 4 (block_bytes b ++ more) - 12 ≡ length b.body = omega (arith, size_read b more ok) in
    alike_blocks (first_block (block_bytes b ++ more)) b (kind_read b more ok)
    (ap (λ (k : ℕ). take k (drop 8 (block_bytes b ++ more))) n
    ∙ (ap (λ (xs : List ℕ). take (length b.body) xs) (body_behind b more) ∙ take-append_seam b.body (number (block_size b.body) ++ more)))

drop_more : (m n : ℕ) (xs : List ℕ) → drop (m + n) xs ≡ drop n (drop m xs)
drop_more m n xs = sym (drop-drop n m xs)

behind_read : (b : Block) (more : List ℕ) → IsBlock b → behind_block (block_bytes b ++ more) ≡ more
unfolding behind_block
behind_read b more ok =
    let far : number_at 4 (block_bytes b ++ more) ≡ 8 + (length b.body + 4) = omega (arith, size_read b more ok) in
    ap (λ (n : ℕ). drop n (block_bytes b ++ more)) far ∙ (drop_more 8 (length b.body + 4) (block_bytes b ++ more)
    ∙ (ap (λ (xs : List ℕ). drop (length b.body + 4) xs) (body_behind b more) ∙ (drop_more (length b.body) 4 (b.body ++ (number (block_size b.body) ++ more))
    ∙ (ap (λ (xs : List ℕ). drop 4 xs) (drop-append_seam b.body (number (block_size b.body) ++ more)) ∙ number_behind (block_size b.body) more))))

not_empty : (b : Block) (more : List ℕ) (n : ℕ) → blocks_from (suc n) (block_bytes b ++ more) ≡ first_block (block_bytes b ++ more) ∷ blocks_from n (behind_block (block_bytes b ++ more))
unfolding number
not_empty b more n = refl

blocks_read : (n : ℕ) (bs : List Block) → All IsBlock bs → length bs ≤ n → blocks_from n (blocks_bytes bs) ≡ bs
blocks_read zero [] all few = refl
blocks_read (suc n) [] all few = refl
blocks_read zero (b ∷ bs) all few = absurd (omega (arith, few))
blocks_read (suc n) (b ∷ bs) all few =
    let rest = blocks_bytes bs in let l : length bs ≤ n = omega (arith, few) in
    let head : IsBlock b = all 0 b (omega arith) in let tail : All IsBlock bs = λ k d below. all (suc k) d (omega (arith, below)) in
    not_empty b rest n
    ∙ (ap (λ (x : Block). x ∷ blocks_from n (behind_block (block_bytes b ++ rest))) (first_read b rest head)
    ∙ (ap (λ (xs : List ℕ). b ∷ blocks_from n xs) (behind_read b rest head) ∙ ap (λ (xs : List Block). b ∷ xs) (blocks_read n bs tail l)))

fewer : (bs : List Block) → length bs ≤ length (blocks_bytes bs)
unfolding number
fewer [] = omega arith
fewer (b ∷ bs) =
    let rest = fewer bs in
    let a : length (block_bytes b ++ blocks_bytes bs) ≡ length (block_bytes b) + length (blocks_bytes bs) = length-append (block_bytes b) (blocks_bytes bs) in
    omega (arith, a, rest)

pub blocks_read_back : (bs : List Block) → All IsBlock bs → blocks_in (blocks_bytes bs) ≡ bs
blocks_read_back bs all = blocks_read (length (blocks_bytes bs)) bs all (fewer bs)

-- ---- interfaces and packets

option_read : (code : ℕ) (text : List ℕ) → (code == code) ≡ true → code < 2 ^ 16 → IsText text → option_in code (options_bytes code text) ≡ Some text
unfolding half option_in
option_read code text same small short =
    let bytes = options_bytes code text in
    let first : half_at 0 bytes ≡ code = from_le_bytes-to_le_bytes_2 code small in
    let size : half_at 2 bytes ≡ length text = from_le_bytes-to_le_bytes_2 (length text) short in
    let found = Some (take (half_at 2 bytes) (text ++ (zeros (padding (length text)) ++ zeros 4))) in
    ap (λ (n : ℕ). if n == code then found else None) first
    ∙ (ap (λ (b : Bool). if b then found else None) same
    ∙ (ap (λ (n : ℕ). Some (take n (text ++ (zeros (padding (length text)) ++ zeros 4)))) size
    ∙ ap (λ (xs : List ℕ). Some xs) (take-append_seam text (zeros (padding (length text)) ++ zeros 4))))

options_behind : (name : List ℕ) → drop 8 (interface_block name).body ≡ options_bytes 2 name
unfolding half number
options_behind name = refl

name_read : (name : List ℕ) → IsText name → name_in (interface_block name).body ≡ name
name_read name short = ap (λ (xs : List ℕ). unwrap_or (option_in 2 xs) []) (options_behind name) ∙ ap (λ (o : Option (List ℕ)). unwrap_or o []) (option_read 2 name refl (omega arith) short)

-- the numbers of a packet
interface_read : (s : Captured) → IsCaptured s → number_at 0 (packet_block s).body ≡ s.interface
unfolding number
interface_read s ok = from_le_bytes-to_le_bytes_4 s.interface ok.interface

high_read : (s : Captured) → IsCaptured s → number_at 4 (packet_block s).body ≡ s.time / 2 ^ 32
unfolding number
high_read s ok = let l = ok.time in from_le_bytes-to_le_bytes_4 (s.time / 2 ^ 32) (omega (arith, l))

low_read : (s : Captured) → number_at 8 (packet_block s).body ≡ s.time % 2 ^ 32
unfolding number
low_read s = from_le_bytes-to_le_bytes_4 (s.time % 2 ^ 32) (omega arith)

count_read : (s : Captured) → IsCaptured s → number_at 12 (packet_block s).body ≡ ethernet_size s.payload
unfolding number
count_read s ok = let l = ok.payload in from_le_bytes-to_le_bytes_4 (ethernet_size s.payload) (omega (arith, l))

frame_behind : (s : Captured) → drop 20 (packet_block s).body ≡ (ethernet s.passed s.payload ++ zeros (padding (length (ethernet s.passed s.payload)))) ++ comment_bytes s.comment
unfolding number
frame_behind s = refl

kept_read : (s : Captured) → IsCaptured s → kept_in (packet_block s).body ≡ ethernet s.passed s.payload
kept_read s ok =
    let e = ethernet s.passed s.payload in let z = zeros (padding (length e)) in
    let size : number_at 12 (packet_block s).body ≡ length e = count_read s ok ∙ sym (ethernet-length s.passed s.payload) in
    ap (λ (n : ℕ). take n (drop 20 (packet_block s).body)) size
    ∙ (ap (λ (xs : List ℕ). take (length e) xs) (frame_behind s ∙ append_assoc e z (comment_bytes s.comment)) ∙ take-append_seam e (z ++ comment_bytes s.comment))

passed_read : (passed : Bool) (payload : List ℕ) → (slice_index (ethernet passed payload) 6 / 2 % 2 == 1) ≡ passed
unfolding ethernet_head
passed_read true payload = refl
passed_read false payload = refl

payload_read : (passed : Bool) (payload : List ℕ) → drop 14 (ethernet passed payload) ≡ payload
unfolding ethernet_head
payload_read true payload = refl
payload_read false payload = refl

comment_of : (comment : Option (List ℕ)) → IsComment comment → option_in 1 (comment_bytes comment) ≡ comment
unfolding option_in
comment_of None ok = refl
comment_of (Some text) ok = option_read 1 text refl (omega arith) ok

comment_behind : (s : Captured) → IsCaptured s → drop (20 + (number_at 12 (packet_block s).body + padding (number_at 12 (packet_block s).body))) (packet_block s).body ≡ comment_bytes s.comment
comment_behind s ok =
    let e = ethernet s.passed s.payload in let z = zeros (padding (length e)) in
    let size : number_at 12 (packet_block s).body ≡ length e = count_read s ok ∙ sym (ethernet-length s.passed s.payload) in
    let far : length (e ++ z) ≡ length e + padding (length e) = length-append e z ∙ ap (λ (n : ℕ). length e + n) (zeros-length (padding (length e))) in
    ap (λ (n : ℕ). drop (20 + (n + padding n)) (packet_block s).body) size
    ∙ (drop_more 20 (length e + padding (length e)) (packet_block s).body
    ∙ (ap (λ (xs : List ℕ). drop (length e + padding (length e)) xs) (frame_behind s)
    ∙ (ap (λ (n : ℕ). drop n ((e ++ z) ++ comment_bytes s.comment)) (sym far) ∙ drop-append_seam (e ++ z) (comment_bytes s.comment))))

alike : (s t : Captured) → s.interface ≡ t.interface → s.time ≡ t.time → s.passed ≡ t.passed → s.payload ≡ t.payload → s.comment ≡ t.comment → s ≡ t
alike s t a b c d e =
    ap (λ (x : ℕ). record s { interface = x }) a
    ∙ (ap (λ (x : ℕ). record s { interface = t.interface; time = x }) b
    ∙ (ap (λ (x : Bool). record s { interface = t.interface; time = t.time; passed = x }) c
    ∙ (ap (λ (x : List ℕ). record s { interface = t.interface; time = t.time; passed = t.passed; payload = x }) d
    ∙ ap (λ (x : Option (List ℕ)). record t { comment = x }) e)))

seen_read : (s : Captured) → IsCaptured s → captured_in (packet_block s).body ≡ s
seen_read s ok =
    let body = (packet_block s).body in
    let high = high_read s ok in let low = low_read s in
    let time : 2 ^ 32 * number_at 4 body + number_at 8 body ≡ s.time = omega (arith, high, low) in
    let kept = kept_read s ok in
    alike (captured_in body) s (interface_read s ok) time
    (ap (λ (xs : List ℕ). slice_index xs 6 / 2 % 2 == 1) kept ∙ passed_read s.passed s.payload)
    (ap (λ (xs : List ℕ). drop 14 xs) kept ∙ payload_read s.passed s.payload)
    (ap (λ (xs : List ℕ). option_in 1 xs) (comment_behind s ok) ∙ comment_of s.comment ok.comment)

-- ---- captures

alike_captures : (c d : Capture) → c.names ≡ d.names → c.packets ≡ d.packets → c ≡ d
alike_captures c d p q = ap (λ (x : List (List ℕ)). record { names = x; packets = c.packets }) p ∙ ap (λ (x : List Captured). record { names = d.names; packets = x }) q

names_read : (names : List (List ℕ)) → All IsText names → filter_map name_of (map interface_block names) ≡ names
names_read [] all = refl
names_read (name ∷ names) all =
    ap (λ (n : List ℕ). n ∷ filter_map name_of (map interface_block names)) (name_read name (all 0 name (omega arith)))
    ∙ ap (λ (ns : List (List ℕ)). name ∷ ns) (names_read names (λ k d below. all (suc k) d (omega (arith, below))))

no_names : (ss : List Captured) → filter_map name_of (map packet_block ss) ≡ []
no_names [] = refl
no_names (s ∷ ss) = no_names ss

none_captured : (names : List (List ℕ)) → filter_map captured_of (map interface_block names) ≡ []
none_captured [] = refl
none_captured (name ∷ names) = none_captured names

all_read : (ss : List Captured) → All IsCaptured ss → filter_map captured_of (map packet_block ss) ≡ ss
all_read [] all = refl
all_read (s ∷ ss) all =
    ap (λ (x : Captured). x ∷ filter_map captured_of (map packet_block ss)) (seen_read s (all 0 s (omega arith)))
    ∙ ap (λ (xs : List Captured). s ∷ xs) (all_read ss (λ k d below. all (suc k) d (omega (arith, below))))

few_comment : (comment : Option (List ℕ)) → IsComment comment → length (comment_bytes comment) ≤ 65546
few_comment None ok = omega arith
few_comment (Some text) ok = omega (arith, options-length 1 text, padding-few (length text), ok)

is_interface : (name : List ℕ) → IsText name → IsBlock (interface_block name)
is_interface name short = record { kind = omega arith; size = omega (arith, interface-length name, padding-few (length name), short) }

is_packet : (s : Captured) → IsCaptured s → IsBlock (packet_block s)
is_packet s ok =
    let l = ok.payload in
    record { kind = omega arith; size = omega (arith, packet-length s, padding-few (ethernet_size s.payload), few_comment s.comment ok.comment, l) }

is_section : IsBlock section_block
unfolding half number
is_section = record { kind = omega arith; size = omega arith }

are_blocks : (c : Capture) → IsCapture c → All IsBlock (blocks_of c)
are_blocks c ok =
    All-cons IsBlock section_block (map interface_block c.names ++ map packet_block c.packets) is_section
    (All-append IsBlock (map interface_block c.names) (map packet_block c.packets)
    (All-map IsBlock interface_block c.names (λ k d below. is_interface (get_or c.names k d) (ok.names k d below)))
    (All-map IsBlock packet_block c.packets (λ k d below. is_packet (get_or c.packets k d) (ok.packets k d below))))

pub captures_read_back : CapturesReadBack
captures_read_back c ok =
    let blocks = blocks_read_back (blocks_of c) (are_blocks c ok) in
    let names : filter_map name_of (blocks_of c) ≡ c.names =
    filter_map-append name_of (map interface_block c.names) (map packet_block c.packets)
    ∙ (ap (λ (xs : List (List ℕ)). filter_map name_of (map interface_block c.names) ++ xs) (no_names c.packets)
    ∙ (append-nil (filter_map name_of (map interface_block c.names)) ∙ names_read c.names ok.names)) in
    let packets : filter_map captured_of (blocks_of c) ≡ c.packets =
    filter_map-append captured_of (map interface_block c.names) (map packet_block c.packets)
    ∙ (ap (λ (xs : List Captured). xs ++ filter_map captured_of (map packet_block c.packets)) (none_captured c.names) ∙ all_read c.packets ok.packets) in
    alike_captures (capture_in (file_of c)) c (ap (λ (bs : List Block). filter_map name_of bs) blocks ∙ names) (ap (λ (bs : List Block). filter_map captured_of bs) blocks ∙ packets)
