-- The fields of a spelling, read and written.
use Rattle.std.proofs.Common.{◌≡◌, ℕ, ◌+◌, ◌-◌, ◌*◌, ◌/◌, ◌%◌, ◌^◌, ◌<◌, Bool, cond, eqb, leb, List, [], ◌∷◌, ◌++◌, length, get_or, take, drop, refl, sym, ap, ◌∙◌, append_assoc, arith}
use Rattle.std.proofs.lemmas.List.{append-nil, drop_at, take_at}
use Rattle.byteorder.specs.Endian.{little_bytes, little_number}
use Rattle.ec_frame.specs.declared.command.Command.{Command}
use Rattle.ec_frame.specs.declared.datagram.Header.{Header}
use Rattle.ec_frame.specs.Commands.{number_of}
use Rattle.ec_frame.specs.Datagram.{Datagram, flags, heading, spelling, IsDatagram}
use Rattle.ec_frame.specs.Fields.{header_of, with_address, with_adp, with_data, with_counter}
use Rattle.ec_frame.proofs.Numbers.{word_again, quad_again}
use Rattle.ec_frame.proofs.Decoding.{flags_at, flags_is}
use Rattle.ec_frame.proofs.Readings.{spelling_length}

pub bare_length : (m : Bool) (d : Datagram) → length (spelling m d) ≡ 12 + length d.data_bytes
bare_length m d = ap length (sym (append-nil (spelling m d))) ∙ spelling_length m d [] ∙ omega arith

pub part_length : (part : List ℕ) (m : Bool) (d : Datagram) → part ≡ spelling m d → length part ≡ 12 + length d.data_bytes
part_length part m d e = ap length e ∙ bare_length m d

-- what stands before the counter
abbrev pub before_counter : Bool → Datagram → List ℕ
before_counter more d = heading more d ++ d.data_bytes

pub tail_at : (bytes : List ℕ) (more : Bool) (d : Datagram) (k : ℕ) → bytes ≡ spelling more d → k ≡ length bytes - 2 → (take k bytes ≡ before_counter more d) × (drop k bytes ≡ little_bytes 2 d.counter)
tail_at bytes more d k e is =
    let long = part_length bytes more d e in
    let at : length (before_counter more d) ≡ k = omega arith in (
      ap (λ (xs : List ℕ). take k xs) e ∙ take_at (before_counter more d) (little_bytes 2 d.counter) k at,
      ap (λ (xs : List ℕ). drop k xs) e ∙ drop_at (before_counter more d) (little_bytes 2 d.counter) k at,
    )

pub counter_read : (bytes : List ℕ) (more : Bool) (d : Datagram) (k n : ℕ) → IsDatagram d → bytes ≡ spelling more d → k ≡ length bytes - 2
    → n ≡ little_number 2 (take (length bytes - k) (drop k bytes)) → n ≡ d.counter
counter_read bytes more d k n good e is r =
    let long = part_length bytes more d e in
    let two : length bytes - k ≡ 2 = omega arith in
    let last = (tail_at bytes more d k e is).1 in
    r ∙ ap (λ (j : ℕ). little_number 2 (take j (drop k bytes))) two ∙ ap (λ (xs : List ℕ). little_number 2 (take 2 xs)) last ∙ word_again d.counter [] good.counter

pub data_read : (bytes : List ℕ) (more : Bool) (d : Datagram) (k : ℕ) → bytes ≡ spelling more d → k ≡ length bytes - 2 → take (k - 10) (drop 10 bytes) ≡ d.data_bytes
data_read bytes more d k e is =
    let long = part_length bytes more d e in
    ap (λ (xs : List ℕ). take (k - 10) (drop 10 xs)) e ∙ take_at d.data_bytes (little_bytes 2 d.counter) (k - 10) (omega arith)

-- a write of the last two bytes
pub counter_written : (bytes new : List ℕ) (more : Bool) (d : Datagram) (k n : ℕ) → bytes ≡ spelling more d → k ≡ length bytes - 2
    → new ≡ little_bytes 2 n ++ drop 2 (take (length bytes - k) (drop k bytes))
    → take k bytes ++ (new ++ drop (length bytes - k) (drop k bytes)) ≡ spelling more (with_counter d n)
counter_written bytes new more d k n e at is =
    let t = tail_at bytes more d k e at in
    let long = part_length bytes more d e in
    let two : length bytes - k ≡ 2 = omega arith in
    let last : drop k bytes ≡ little_bytes 2 d.counter = t.1 in
    let part : new ≡ little_bytes 2 n = is ∙ rw (two, last) refl in
    let past : drop (length bytes - k) (drop k bytes) ≡ [] = rw (two, last) refl in
    rw (part, past, t.0) (append_assoc (heading more d) d.data_bytes (little_bytes 2 n))

-- ---- the address

low_half : (a n : ℕ) → a < 2 ^ 32 → n < 65536 → let b = n + 65536 * (a / 65536) in (n % 256 ≡ b % 256) × (n / 256 % 256 ≡ b / 256 % 256) × (a / 65536 % 256 ≡ b / 65536 % 256) × (a / 16777216 % 256 ≡ b / 16777216 % 256)
low_half a n p q = (omega arith, omega arith, omega arith, omega arith)

cells_same : (c i a0 a1 a2 a3 b0 b1 b2 b3 : ℕ) (rest : List ℕ) → a0 ≡ b0 → a1 ≡ b1 → a2 ≡ b2 → a3 ≡ b3 → c ∷ i ∷ a0 ∷ a1 ∷ a2 ∷ a3 ∷ rest ≡ c ∷ i ∷ b0 ∷ b1 ∷ b2 ∷ b3 ∷ rest
cells_same c i a0 a1 a2 a3 b0 b1 b2 b3 rest p q r s = cc

pub adp_written : (bytes new : List ℕ) (more : Bool) (d : Datagram) (n : ℕ) → IsDatagram d → n < 65536 → bytes ≡ spelling more d
    → new ≡ little_bytes 2 n ++ drop 2 (take 2 (drop 2 bytes))
    → take 2 bytes ++ (new ++ drop 2 (drop 2 bytes)) ≡ spelling more (with_adp d n)
adp_written bytes new more d n good fits e is =
    let h = low_half d.address n good.address fits in
    let written : new ≡ little_bytes 2 n = is ∙ ap (λ (xs : List ℕ). little_bytes 2 n ++ drop 2 (take 2 (drop 2 xs))) e in
    ap (λ (xs : List ℕ). take 2 bytes ++ (xs ++ drop 2 (drop 2 bytes))) written ∙ ap (λ (xs : List ℕ). take 2 xs ++ (little_bytes 2 n ++ drop 2 (drop 2 xs))) e ∙ cells_same _ _ _ _ _ _ _ _ _ _ _ h.0 h.1 h.2 h.3

pub address_written : (bytes new : List ℕ) (more : Bool) (d : Datagram) (n : ℕ) → bytes ≡ spelling more d
    → new ≡ little_bytes 4 n ++ drop 4 (take 4 (drop 2 bytes))
    → take 2 bytes ++ (new ++ drop 4 (drop 2 bytes)) ≡ spelling more (with_address d n)
address_written bytes new more d n e is =
    let written : new ≡ little_bytes 4 n = is ∙ ap (λ (xs : List ℕ). little_bytes 4 n ++ drop 4 (take 4 (drop 2 xs))) e in
    ap (λ (xs : List ℕ). take 2 bytes ++ (xs ++ drop 4 (drop 2 bytes))) written ∙ ap (λ (xs : List ℕ). take 2 xs ++ (little_bytes 4 n ++ drop 4 (drop 2 xs))) e

-- ---- the data

-- data of the same length leave the heading
pub heading-with_data : (more : Bool) (d : Datagram) (bytes : List ℕ) → length bytes ≡ length d.data_bytes → heading more (with_data d bytes) ≡ heading more d
heading-with_data more d bytes same =
    ap (λ (n : ℕ). number_of d.command ∷ d.index ∷ little_bytes 4 d.address ++ little_bytes 2 (n + 2048 * d.reserved + cond d.circulating 16384 0 + cond more 32768 0) ++ little_bytes 2 d.irq) same

-- a write of the data in place
pub data_written : (part new : List ℕ) (more : Bool) (d : Datagram) (k : ℕ) → part ≡ spelling more d → k ≡ length part - 2 → length new ≡ length d.data_bytes
    → take 10 part ++ (new ++ drop (k - 10) (drop 10 part)) ≡ spelling more (with_data d new)
data_written part new more d k e at same =
    let long = part_length part more d e in
    let behind : drop (k - 10) (drop 10 part) ≡ little_bytes 2 d.counter = ap (λ (xs : List ℕ). drop (k - 10) (drop 10 xs)) e ∙ drop_at d.data_bytes (little_bytes 2 d.counter) (k - 10) (omega arith) in
    ap (λ (xs : List ℕ). take 10 part ++ (new ++ xs)) behind ∙ ap (λ (xs : List ℕ). take 10 xs ++ (new ++ little_bytes 2 d.counter)) e
    ∙ ap (λ (xs : List ℕ). xs ++ (new ++ little_bytes 2 d.counter)) (sym (heading-with_data more d new same))

-- the three parts joined again, after a write of the data
pub data_rejoined : (first new last : List ℕ) (more : Bool) (d : Datagram) → first ≡ heading more d → last ≡ little_bytes 2 d.counter → length new ≡ length d.data_bytes
    → first ++ (new ++ last) ≡ spelling more (with_data d new)
data_rejoined first new last more d p q same =
    ap (λ (xs : List ℕ). xs ++ (new ++ last)) (p ∙ sym (heading-with_data more d new same)) ∙ ap (λ (xs : List ℕ). heading more (with_data d new) ++ (new ++ xs)) q

-- ---- the header

same_header : (c : Command) (i a n r : ℕ) (k m : Bool) (t : ℕ) (h : Header) → c ≡ h.command → i ≡ h.index → a ≡ h.address → n ≡ h.data_length → r ≡ h.reserved → k ≡ h.circulating → m ≡ h.more → t ≡ h.irq
    → ◌≡◌ {A = Header} (record { command = c; index = i; address = a; data_length = n; reserved = r; circulating = k; more = m; irq = t }) h
same_header c i a n r k m t h p1 p2 p3 p4 p5 p6 p7 p8 = rw (p1, p2, p3, p4, p5, p6, p7, p8) refl

pub header_read : (part : List ℕ) (more : Bool) (d : Datagram) (c : Command) (i a w t : ℕ) → IsDatagram d → part ≡ spelling more d
    → c ≡ d.command → i ≡ get_or part 1 0 → a ≡ little_number 4 (drop 2 part) → w ≡ little_number 2 (drop 6 part) → t ≡ little_number 2 (drop 8 part)
    → ◌≡◌ {A = Header} (record { command = c; index = i; address = a; data_length = w % 2048; reserved = w / 2048 % 8; circulating = eqb (w / 16384 % 2) 1; more = leb 32768 w; irq = t }) (header_of more d)
header_read part more d c i a w t good e pc pi pa pw pt =
    let says = flags_is more d good in
    let word : w ≡ flags more d = pw ∙ ap (λ (xs : List ℕ). little_number 2 (drop 6 xs)) e ∙ flags_at more d [] good in
    same_header _ _ _ _ _ _ _ _ (header_of more d) pc (pi ∙ ap (λ (xs : List ℕ). get_or xs 1 0) e)
    (pa ∙ ap (λ (xs : List ℕ). little_number 4 (drop 2 xs)) e ∙ quad_again d.address [] good.address)
    (ap (λ (x : ℕ). x % 2048) word ∙ says.len) (ap (λ (x : ℕ). x / 2048 % 8) word ∙ says.reserved) (ap (λ (x : ℕ). eqb (x / 16384 % 2) 1) word ∙ says.circulating) (ap (λ (x : ℕ). leb 32768 x) word ∙ says.more)
    (pt ∙ ap (λ (xs : List ℕ). little_number 2 (drop 8 xs)) e ∙ word_again d.irq [] good.irq)
