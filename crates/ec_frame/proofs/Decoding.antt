-- Bytes as the spelling of a datagram, and back.
use Rattle.std.proofs.Common.{◌≡◌, ℕ, ◌+◌, ◌*◌, ◌/◌, ◌%◌, ◌<◌, ◌≤◌, Bool, true, false, cond, leb, eqb, List, [], ◌∷◌, ◌++◌, length, get_or, take, drop, refl, sym, ap, ◌∙◌, append_assoc, arith}
use Rattle.std.proofs.lemmas.List.{take_at, drop_at, take-append-drop, length-take, length-take-le, length-drop}
use Rattle.std.proofs.lemmas.Bool.Decides.{nat_tests}
use Rattle.byteorder.specs.Endian.{little_bytes, little_number}
use Rattle.ec_frame.specs.declared.command.Command.{Command}
use Rattle.ec_frame.specs.Datagram.{Datagram, flags, spelling, IsDatagram, data_length}
use Rattle.ec_frame.specs.Decoded.{after_data, decoded}
use Rattle.ec_frame.proofs.Numbers.{command_again, command_back, IsBytes, IsBytes-drop, word_back, word_fits, quad_fits, word_again, quad_again, word_of, quad_of}

abbrev pub more_at : List ℕ → Bool
more_at bytes = leb 32768 (little_number 2 (drop 6 bytes))

flag_cases : (w n : ℕ) → w < 65536 → n ≡ w % 2048 → n + 2048 * (w / 2048 % 8) + cond (eqb (w / 16384 % 2) 1) 16384 0 + cond (leb 32768 w) 32768 0 ≡ w
flag_cases w n lt e = grind (arith, nat_tests)

-- from the eleventh byte on
body_back : (n : ℕ) (tail : List ℕ) → IsBytes tail → n + 2 ≤ length tail → (take n tail ++ little_bytes 2 (little_number 2 (drop n tail))) ++ drop 2 (drop n tail) ≡ tail
body_back n tail h le =
    append_assoc (take n tail) (little_bytes 2 (little_number 2 (drop n tail))) (drop 2 (drop n tail))
    ∙ ap (λ (xs : List ℕ). take n tail ++ xs) (word_back (drop n tail) (IsBytes-drop n tail h) (omega (arith, length-drop n tail)))
    ∙ take-append-drop n tail

same_cells : (b0 b1 c0 c2 c3 c4 c5 c6 c7 c8 c9 b2 b3 b4 b5 b6 b7 b8 b9 : ℕ) (xs ys : List ℕ) → c0 ≡ b0 → c2 ≡ b2 → c3 ≡ b3 → c4 ≡ b4 → c5 ≡ b5 → c6 ≡ b6 → c7 ≡ b7 → c8 ≡ b8 → c9 ≡ b9 → xs ≡ ys
    → c0 ∷ b1 ∷ c2 ∷ c3 ∷ c4 ∷ c5 ∷ c6 ∷ c7 ∷ c8 ∷ c9 ∷ xs ≡ b0 ∷ b1 ∷ b2 ∷ b3 ∷ b4 ∷ b5 ∷ b6 ∷ b7 ∷ b8 ∷ b9 ∷ ys
same_cells b0 b1 c0 c2 c3 c4 c5 c6 c7 c8 c9 b2 b3 b4 b5 b6 b7 b8 b9 xs ys p0 p2 p3 p4 p5 p6 p7 p8 p9 p = cc

ten_back : (b0 b1 b2 b3 b4 b5 b6 b7 b8 b9 : ℕ) (tail : List ℕ) → let bytes = b0 ∷ b1 ∷ b2 ∷ b3 ∷ b4 ∷ b5 ∷ b6 ∷ b7 ∷ b8 ∷ b9 ∷ tail in IsBytes bytes → 12 + data_length bytes ≤ length bytes → b0 ≤ 14 → spelling (more_at bytes) (decoded bytes) ++ drop 2 (after_data bytes) ≡ bytes
ten_back b0 b1 b2 b3 b4 b5 b6 b7 b8 b9 tail h le known =
    let bytes = b0 ∷ b1 ∷ b2 ∷ b3 ∷ b4 ∷ b5 ∷ b6 ∷ b7 ∷ b8 ∷ b9 ∷ tail in
    let n : ℕ = data_length bytes in
    let tail_bytes : IsBytes tail = IsBytes-drop 10 bytes h in
    let long : length (take n tail) ≡ n = length-take-le n tail (omega arith) in
    let w : little_number 2 (b6 ∷ b7 ∷ []) < 65536 = word_fits (drop 6 bytes) (IsBytes-drop 6 bytes h) in
    let flags_is : flags (more_at bytes) (decoded bytes) ≡ little_number 2 (b6 ∷ b7 ∷ []) = flag_cases (little_number 2 (b6 ∷ b7 ∷ [])) (length (take n tail)) w long in
    let body = body_back n tail tail_bytes (omega arith) in
    let q = quad_of b2 b3 b4 b5 (little_number 4 (drop 2 bytes)) (h 2) (h 3) (h 4) (h 5) refl in
    let r = word_of b6 b7 (h 6) (h 7) in
    let s = word_of b8 b9 (h 8) (h 9) in
    same_cells b0 b1 _ _ _ _ _ _ _ _ _ b2 b3 b4 b5 b6 b7 b8 b9 _ tail (command_back b0 known) q.0 q.1 q.2 q.3 (ap (λ (x : ℕ). x % 256) flags_is ∙ r.0) (ap (λ (x : ℕ). x / 256 % 256) flags_is ∙ r.1) s.0 s.1 body

pub decodes : (bytes : List ℕ) → IsBytes bytes → 12 ≤ length bytes → 12 + data_length bytes ≤ length bytes → get_or bytes 0 0 ≤ 14 → spelling (more_at bytes) (decoded bytes) ++ drop 2 (after_data bytes) ≡ bytes
decodes [] h few le known = absurd (omega arith)
decodes (a ∷ []) h few le known = absurd (omega arith)
decodes (a ∷ b ∷ []) h few le known = absurd (omega arith)
decodes (a ∷ b ∷ c ∷ []) h few le known = absurd (omega arith)
decodes (a ∷ b ∷ c ∷ d ∷ []) h few le known = absurd (omega arith)
decodes (a ∷ b ∷ c ∷ d ∷ e ∷ []) h few le known = absurd (omega arith)
decodes (a ∷ b ∷ c ∷ d ∷ e ∷ f ∷ []) h few le known = absurd (omega arith)
decodes (a ∷ b ∷ c ∷ d ∷ e ∷ f ∷ g ∷ []) h few le known = absurd (omega arith)
decodes (a ∷ b ∷ c ∷ d ∷ e ∷ f ∷ g ∷ i ∷ []) h few le known = absurd (omega arith)
decodes (a ∷ b ∷ c ∷ d ∷ e ∷ f ∷ g ∷ i ∷ j ∷ []) h few le known = absurd (omega arith)
decodes (a ∷ b ∷ c ∷ d ∷ e ∷ f ∷ g ∷ i ∷ j ∷ k ∷ tail) h few le known = ten_back a b c d e f g i j k tail h le known

-- ---- from a datagram to its bytes and back

pub good_decoded : (bytes : List ℕ) → IsBytes bytes → IsDatagram (decoded bytes)
good_decoded bytes h =
    let w = word_fits (drop 6 bytes) (IsBytes-drop 6 bytes h) in
    record {
      index = h 1;
      address = quad_fits (drop 2 bytes) (IsBytes-drop 2 bytes h);
      reserved = omega arith;
      irq = word_fits (drop 8 bytes) (IsBytes-drop 8 bytes h);
      data_bytes = omega (arith, length-take (data_length bytes) (drop 10 bytes));
      counter = word_fits (after_data bytes) (IsBytes-drop (data_length bytes) (drop 10 bytes) (IsBytes-drop 10 bytes h));
    }

-- what the word of flags says again
pub record FlagsSay (w n r : ℕ) (k m : Bool) : Type 0 where
  pub fit : w < 65536
  pub len : w % 2048 ≡ n
  pub reserved : w / 2048 % 8 ≡ r
  pub circulating : eqb (w / 16384 % 2) 1 ≡ k
  pub more : leb 32768 w ≡ m

abbrev pub flag_word : ℕ → ℕ → Bool → Bool → ℕ
flag_word n r k more = n + 2048 * r + cond k 16384 0 + cond more 32768 0

flags_say : (n r : ℕ) (k more : Bool) → n < 2048 → r < 8 → FlagsSay (flag_word n r k more) n r k more
flags_say n r true true p q = record { fit = omega arith; len = omega arith; reserved = omega arith; circulating = grind (arith, nat_tests); more = grind (arith, nat_tests) }
flags_say n r true false p q = record { fit = omega arith; len = omega arith; reserved = omega arith; circulating = grind (arith, nat_tests); more = grind (arith, nat_tests) }
flags_say n r false true p q = record { fit = omega arith; len = omega arith; reserved = omega arith; circulating = grind (arith, nat_tests); more = grind (arith, nat_tests) }
flags_say n r false false p q = record { fit = omega arith; len = omega arith; reserved = omega arith; circulating = grind (arith, nat_tests); more = grind (arith, nat_tests) }

pub flags_is : (more : Bool) (d : Datagram) → IsDatagram d → FlagsSay (flags more d) (length d.data_bytes) d.reserved d.circulating more
flags_is more d f = flags_say (length d.data_bytes) d.reserved d.circulating more f.data_bytes f.reserved

-- the word of flags in a spelling
pub flags_at : (more : Bool) (d : Datagram) (rest : List ℕ) → IsDatagram d → little_number 2 (drop 6 (spelling more d ++ rest)) ≡ flags more d
flags_at more d rest f = word_again (flags more d) (drop 8 (spelling more d ++ rest)) (flags_is more d f).fit

pub data_length_again : (more : Bool) (d : Datagram) (rest : List ℕ) → IsDatagram d → data_length (spelling more d ++ rest) ≡ length d.data_bytes
data_length_again more d rest f = ap (λ (x : ℕ). x % 2048) (flags_at more d rest f) ∙ (flags_is more d f).len

pub more_again : (more : Bool) (d : Datagram) (rest : List ℕ) → IsDatagram d → more_at (spelling more d ++ rest) ≡ more
more_again more d rest f = ap (λ (x : ℕ). leb 32768 x) (flags_at more d rest f) ∙ (flags_is more d f).more

pub after_again : (more : Bool) (d : Datagram) (rest : List ℕ) → IsDatagram d → after_data (spelling more d ++ rest) ≡ little_bytes 2 d.counter ++ rest
after_again more d rest f =
    rw (data_length_again more d rest f, append_assoc d.data_bytes (little_bytes 2 d.counter) rest) (drop_at d.data_bytes (little_bytes 2 d.counter ++ rest) (length d.data_bytes) refl)

same_datagram : (c : Command) (i a r : ℕ) (k : Bool) (t w : ℕ) (s : List ℕ) (d : Datagram) → c ≡ d.command → i ≡ d.index → a ≡ d.address → r ≡ d.reserved → k ≡ d.circulating → t ≡ d.irq → s ≡ d.data_bytes → w ≡ d.counter
    → ◌≡◌ {A = Datagram} (record { command = c; index = i; address = a; reserved = r; circulating = k; irq = t; data_bytes = s; counter = w }) d
same_datagram c i a r k t w s d p1 p2 p3 p4 p5 p6 p7 p8 = rw (p1, p2, p3, p4, p5, p6, p7, p8) refl

pub decoded_again : (more : Bool) (d : Datagram) (rest : List ℕ) → IsDatagram d → decoded (spelling more d ++ rest) ≡ d
decoded_again more d rest f =
    let bytes = spelling more d ++ rest in
    let w = flags_at more d rest f in
    let says = flags_is more d f in
    let inner : take (data_length bytes) (drop 10 bytes) ≡ d.data_bytes =
    rw (data_length_again more d rest f, append_assoc d.data_bytes (little_bytes 2 d.counter) rest) (take_at d.data_bytes (little_bytes 2 d.counter ++ rest) (length d.data_bytes) refl) in
    same_datagram _ _ _ _ _ _ _ _ d (command_again d.command) refl (quad_again d.address [] f.address) (ap (λ (x : ℕ). x / 2048 % 8) w ∙ says.reserved) (ap (λ (x : ℕ). eqb (x / 16384 % 2) 1) w ∙ says.circulating) (word_again d.irq [] f.irq) inner (ap (λ (xs : List ℕ). little_number 2 xs) (after_again more d rest f) ∙ word_again d.counter rest f.counter)

-- no spelling begins another, so what follows is the same too
pub one_spelling : (m n : Bool) (d e : Datagram) (x y : List ℕ) → IsDatagram d → IsDatagram e → spelling m d ++ x ≡ spelling n e ++ y → (m ≡ n) × (d ≡ e) × (x ≡ y)
one_spelling m n d e x y f g same =
    let tails : little_bytes 2 d.counter ++ x ≡ little_bytes 2 e.counter ++ y = sym (after_again m d x f) ∙ ap after_data same ∙ after_again n e y g in
    (sym (more_again m d x f) ∙ ap more_at same ∙ more_again n e y g, sym (decoded_again m d x f) ∙ ap decoded same ∙ decoded_again n e y g, ap (λ (xs : List ℕ). drop 2 xs) tails)
