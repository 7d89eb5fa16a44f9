-- Bytes as numbers, and a command as its number.
use Rattle.std.proofs.Common.{◌≡◌, ℕ, zero, suc, Bool, true, false, Option, Some, None, IfSome, IfNone, nat_eq, ◌+◌, ◌*◌, ◌/◌, ◌%◌, ◌^◌, ◌<◌, ◌≤◌, List, [], ◌∷◌, ◌++◌, length, set, get_or, take, drop, refl, sym, ap, ◌∙◌, arith, inl, inr}
use Rattle.std.specs.Int.RustNames.{bit_and}
use Rattle.std.specs.Option.{is_some}
use Rattle.std.specs.List.{AllByRecursion}
use Rattle.std.proofs.Math.Bool.{not}
use Rattle.std.proofs.lemmas.Nat.Bits.{and_pow}
use Rattle.std.proofs.lemmas.Bool.Decides.{nat_tests}
use Rattle.std.proofs.lemmas.List.{length-take, get_or-drop, get_or-take, get_or_past}
use Rattle.std.proofs.lemmas.Bool.{cases_lt}
use Rattle.byteorder.specs.Endian.{little_bytes, little_number}
use Rattle.ec_frame.specs.declared.command.Command.{Command}
use Rattle.ec_frame.specs.declared.command.Command.TheVariants.{Nop, Aprd, Apwr, Aprw, Fprd, Fpwr, Fprw, Brd, Bwr, Brw, Lrd, Lwr, Lrw, Armw, Frmw}
use Rattle.ec_frame.specs.Commands.{number_of}
use Rattle.ec_frame.specs.Decoded.{command_at}
use Rattle.ec_frame.specs.Frame.{IsByte}

-- ---- commands

pub command_again : (c : Command) → command_at (number_of c) ≡ c
command_again Nop = refl
command_again Aprd = refl
command_again Apwr = refl
command_again Aprw = refl
command_again Fprd = refl
command_again Fpwr = refl
command_again Fprw = refl
command_again Brd = refl
command_again Bwr = refl
command_again Brw = refl
command_again Lrd = refl
command_again Lwr = refl
command_again Lrw = refl
command_again Armw = refl
command_again Frmw = refl

pub command_back : (n : ℕ) → n ≤ 14 → number_of (command_at n) ≡ n
command_back zero le = refl
command_back (suc zero) le = refl
command_back (suc (suc zero)) le = refl
command_back (suc (suc (suc zero))) le = refl
command_back (suc (suc (suc (suc zero)))) le = refl
command_back (suc (suc (suc (suc (suc zero))))) le = refl
command_back (suc (suc (suc (suc (suc (suc zero)))))) le = refl
command_back (suc (suc (suc (suc (suc (suc (suc zero))))))) le = refl
command_back (suc (suc (suc (suc (suc (suc (suc (suc zero)))))))) le = refl
command_back (suc (suc (suc (suc (suc (suc (suc (suc (suc zero))))))))) le = refl
command_back (suc (suc (suc (suc (suc (suc (suc (suc (suc (suc zero)))))))))) le = refl
command_back (suc (suc (suc (suc (suc (suc (suc (suc (suc (suc (suc zero))))))))))) le = refl
command_back (suc (suc (suc (suc (suc (suc (suc (suc (suc (suc (suc (suc zero)))))))))))) le = refl
command_back (suc (suc (suc (suc (suc (suc (suc (suc (suc (suc (suc (suc (suc zero))))))))))))) le = refl
command_back (suc (suc (suc (suc (suc (suc (suc (suc (suc (suc (suc (suc (suc (suc zero)))))))))))))) le = refl
command_back (suc (suc (suc (suc (suc (suc (suc (suc (suc (suc (suc (suc (suc (suc (suc n))))))))))))))) le = absurd (omega arith)

pub number_most : (c : Command) → number_of c ≤ 14
number_most Nop = omega arith
number_most Aprd = omega arith
number_most Apwr = omega arith
number_most Aprw = omega arith
number_most Fprd = omega arith
number_most Fpwr = omega arith
number_most Fprw = omega arith
number_most Brd = omega arith
number_most Bwr = omega arith
number_most Brw = omega arith
number_most Lrd = omega arith
number_most Lwr = omega arith
number_most Lrw = omega arith
number_most Armw = omega arith
number_most Frmw = omega arith

-- a command is known by its number
pub one_command : (c d : Command) → number_of c ≡ number_of d → c ≡ d
one_command c d e = sym (command_again c) ∙ ap command_at e ∙ command_again d

-- ---- bytes

abbrev pub IsBytes : List ℕ → Type 0
IsBytes bytes = (i : ℕ) → get_or bytes i 0 < 256

-- each of them a byte, said by recursion
pub all_bytes : (bytes : List ℕ) → IsBytes bytes → AllByRecursion IsByte bytes
all_bytes [] h = tt
all_bytes (b ∷ bytes) h = (h 0, all_bytes bytes (λ i. h (suc i)))

pub bytes_of_all : (bytes : List ℕ) → AllByRecursion IsByte bytes → IsBytes bytes
bytes_of_all [] h i = omega arith
bytes_of_all (b ∷ bytes) h zero = h.0
bytes_of_all (b ∷ bytes) h (suc i) = bytes_of_all bytes h.1 i

pub all_left : (xs ys : List ℕ) → AllByRecursion IsByte (xs ++ ys) → AllByRecursion IsByte xs
all_left [] ys h = tt
all_left (x ∷ xs) ys h = (h.0, all_left xs ys h.1)

pub all_right : (xs ys : List ℕ) → AllByRecursion IsByte (xs ++ ys) → AllByRecursion IsByte ys
all_right [] ys h = h
all_right (x ∷ xs) ys h = all_right xs ys h.1

pub all_append : (xs ys : List ℕ) → AllByRecursion IsByte xs → AllByRecursion IsByte ys → AllByRecursion IsByte (xs ++ ys)
all_append [] ys g h = h
all_append (x ∷ xs) ys g h = (g.0, all_append xs ys g.1 h)

pub all_set : (xs : List ℕ) (k n : ℕ) → AllByRecursion IsByte xs → n < 256 → AllByRecursion IsByte (set xs k n)
all_set [] k n h f = tt
all_set (x ∷ xs) zero n h f = (f, h.1)
all_set (x ∷ xs) (suc k) n h f = (h.0, all_set xs k n h.1 f)

pub all_drop : (n : ℕ) (xs : List ℕ) → AllByRecursion IsByte xs → AllByRecursion IsByte (drop n xs)
all_drop zero xs h = h
all_drop (suc n) [] h = tt
all_drop (suc n) (x ∷ xs) h = all_drop n xs h.1

pub word_bytes : (n : ℕ) → AllByRecursion IsByte (little_bytes 2 n)
word_bytes n = (omega arith, (omega arith, tt))

pub IsBytes-drop : (n : ℕ) (bytes : List ℕ) → IsBytes bytes → IsBytes (drop n bytes)
IsBytes-drop n bytes h i = rw get_or-drop (h (n + i))

pub IsBytes-take : (n : ℕ) (bytes : List ℕ) → IsBytes bytes → IsBytes (take n bytes)
IsBytes-take n bytes h i =
    elim (cases_lt i n) [
      | inl lt ↦ rw (get_or-take n bytes i 0 lt) (h i)
      | inr le ↦ rw (get_or_past (take n bytes) i 0 (omega (arith, length-take n bytes))) (omega arith)
    ]

-- two bytes are those of their number
pub word_back : (bytes : List ℕ) → IsBytes bytes → 2 ≤ length bytes → little_bytes 2 (little_number 2 bytes) ++ drop 2 bytes ≡ bytes
word_back [] h le = absurd (omega arith)
word_back (a ∷ []) h le = absurd (omega arith)
word_back (a ∷ b ∷ bytes) h le =
    let p : a < 256 = h 0 in
    let q : b < 256 = h 1 in
    let low : little_number 2 (a ∷ b ∷ bytes) % 256 ≡ a = omega arith in
    let high : little_number 2 (a ∷ b ∷ bytes) / 256 % 256 ≡ b = omega arith in
    rw (low, high) refl

pub word_fits : (bytes : List ℕ) → IsBytes bytes → little_number 2 bytes < 65536
word_fits bytes h = let p : get_or bytes 0 0 < 256 = h 0 in let q : get_or bytes 1 0 < 256 = h 1 in omega arith

pub quad_fits : (bytes : List ℕ) → IsBytes bytes → little_number 4 bytes < 2 ^ 32
quad_fits bytes h =
    let p : get_or bytes 0 0 < 256 = h 0 in
    let q : get_or bytes 1 0 < 256 = h 1 in
    let r : get_or bytes 2 0 < 256 = h 2 in
    let s : get_or bytes 3 0 < 256 = h 3 in
    omega arith

-- a number is that of its two bytes
pub word_again : (n : ℕ) (rest : List ℕ) → n < 65536 → little_number 2 (little_bytes 2 n ++ rest) ≡ n
word_again n rest lt = omega arith

pub quad_again : (n : ℕ) (rest : List ℕ) → n < 2 ^ 32 → little_number 4 (little_bytes 4 n ++ rest) ≡ n
quad_again n rest lt = omega arith

pub word_of : (a b : ℕ) → a < 256 → b < 256 → (little_number 2 (a ∷ b ∷ []) % 256 ≡ a) × (little_number 2 (a ∷ b ∷ []) / 256 % 256 ≡ b)
word_of a b p q = (omega arith, omega arith)

pub quad_of : (a b c d n : ℕ) → a < 256 → b < 256 → c < 256 → d < 256 → n ≡ little_number 4 (a ∷ b ∷ c ∷ d ∷ [])
    → (n % 256 ≡ a) × (n / 256 % 256 ≡ b) × (n / 65536 % 256 ≡ c) × (n / 16777216 % 256 ≡ d)
quad_of a b c d n p q r s e = (omega arith, omega arith, omega arith, omega arith)

-- the test of bit 14
multiple : (b x p : ℕ) → b < 2 → 0 < p → x ≡ b * p → not (nat_eq x 0) ≡ nat_eq b 1
multiple zero x p few some e = grind (arith, nat_tests)
multiple (suc zero) x p few some e = grind (arith, nat_tests)
multiple (suc (suc n)) x p few some e = absurd (omega arith)

pub circulating_flag : (w : ℕ) → not (nat_eq (bit_and w 16384) 0) ≡ nat_eq (w / 16384 % 2) 1
circulating_flag w = multiple (w / 16384 % 2) (bit_and w 16384) 16384 (omega arith) (omega arith) (and_pow w 14)

-- ---- what a search for a command's number returns

pub unknown_command : (o : Option Command) (b : Bool) (n : ℕ) → IfNone o (14 < n) → is_some o ≡ not b → b ≡ true → 14 < n
unknown_command None b n h e t = h
unknown_command (Some c) true n h e t = absurd cc
unknown_command (Some c) false n h e t = absurd cc

pub known_command : (o : Option Command) (b : Bool) (n : ℕ) → IfSome o (λ (c : Command). n ≡ number_of c) → is_some o ≡ not b → b ≡ false → n ≤ 14
known_command (Some c) b n h e t = omega (arith, h, number_most c)
known_command None true n h e t = absurd cc
known_command None false n h e t = absurd cc
