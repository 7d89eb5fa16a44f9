-- The tests of which register bytes take writes say what the table says.
use Rattle.std.proofs.Common.{◌≡◌, ◌==◌, ℕ, ◌+◌, ◌%◌, ◌<◌, ◌≤◌, ◌⊎◌, inl, inr, Bool, true, false, ◌&&◌, ◌||◌, nat_lt, List, [], ◌∷◌, refl, ap, sym, ◌∙◌, arith, lit≤}
use Rattle.std.specs.Prelude.{not, if◌then◌else◌}
use Rattle.std.specs.List.{list_any}
use Rattle.std.proofs.lemmas.Bool.Decides.{nat_tests}
use Rattle.ec_bits.specs.Bits.{within}
use Rattle.ec_regs.specs.Memory.{Access, Fixed, Row, access_in, access_of, manager_rows, register_rows, is_stored, takes_writes, is_stored_access, takes_effect, AccessIsTheTable}

-- the rows stand by address, from `low` on, and don't overlap
abbrev Rises : ℕ → List Row → Type 0
Rises low [] = Unit {0}
Rises low (r ∷ rs) = (low ≤ r.first) × Rises (r.first + r.length) rs

outside : (f n a : ℕ) → (a < f) ⊎ (f + n ≤ a) → within f n a ≡ false
outside f n a h = grind (arith, nat_tests, h)

inside : (f n a : ℕ) → within f n a ≡ true → (f ≤ a) × (a < f + n)
inside f n a h = grind (arith, nat_tests, h)

-- a row that passes a test and has the byte
abbrev has_row : (Access → Bool) → ℕ → List Row → Bool
has_row test a rs = list_any (λ r. test r.access && within r.first r.length a) rs

last : (t : Bool) → t ≡ ((t && true) || false)
last true = refl
last false = refl

first : (t l : Bool) → ((t && false) || l) ≡ l
first true l = refl
first false l = refl

both_false : (t w l : Bool) → w ≡ false → l ≡ false → ((t && w) || l) ≡ false
both_false true w l e f = rw (e, f) refl
both_false false w l e f = f

-- a byte before all rows is in none
none_before : (test : Access → Bool) (a low : ℕ) (rs : List Row) → Rises low rs → a < low → has_row test a rs ≡ false
none_before test a low [] rises before = refl
none_before test a low (r ∷ rs) rises before =
    let first : a < r.first = omega (arith, rises.0) in
    both_false (test r.access) (within r.first r.length a) (has_row test a rs) (outside r.first r.length a (inl first))
    (none_before test a (r.first + r.length) rs rises.1 (omega (arith, first)))

-- what a row says where it has the byte, and what the rest says where it hasn't
at_row : (test : Access → Bool) (x y : Access) (w l : Bool) → (w ≡ true → l ≡ false) → test y ≡ l → test (if w then x else y) ≡ ((test x && w) || l)
at_row test x y true l none rest = rw (none refl) (last (test x))
at_row test x y false l none rest = rest ∙ sym (first (test x) l)

-- a test that fixed bytes fail, of what the table says of a byte
table_test : (test : Access → Bool) → test Fixed ≡ false → (a low : ℕ) (rs : List Row) → Rises low rs → test (access_in rs a) ≡ has_row test a rs
table_test test fixed a low [] rises = fixed
table_test test fixed a low (r ∷ rs) rises =
    at_row test r.access (access_in rs a) (within r.first r.length a) (has_row test a rs)
    (λ here. none_before test a (r.first + r.length) rs rises.1 (inside r.first r.length a here).1)
    (table_test test fixed a (r.first + r.length) rs rises.1)

-- a byte of a sync manager
settings : (r : ℕ) → (nat_lt r 5 || (r == 6)) ≡ (within 0 4 r || (within 4 1 r || (within 6 1 r || false)))
settings r = grind (arith, nat_tests)

-- the SII port's two rows
port : (a : ℕ) → within 1282 6 a ≡ (within 1282 2 a || within 1284 4 a)
port a = grind (arith, nat_tests)

regroup : (s t u p q w n : Bool) → w ≡ (p || q) → ((s || (t || (u || false))) || (w && n)) ≡ (s || (t || ((n && p) || ((n && q) || (u || false)))))
regroup true t u p q w n e = refl
regroup false true u p q w n e = refl
regroup false false true p q w false e = refl
regroup false false true true q w true e = refl
regroup false false true false true w true e = refl
regroup false false true false false w true e = refl
regroup false false false true q w true e = rw e refl
regroup false false false false true w true e = rw e refl
regroup false false false false false w true e = rw e refl
regroup false false false true q w false e = rw e refl
regroup false false false false true w false e = rw e refl
regroup false false false false false w false e = rw e refl

registers_rise : Rises 0 register_rows
registers_rise = (lit≤ tt, (lit≤ tt, (lit≤ tt, (lit≤ tt, (lit≤ tt, (lit≤ tt, (lit≤ tt, (lit≤ tt, (lit≤ tt, (lit≤ tt, (lit≤ tt, tt)))))))))))

manager_rises : Rises 0 manager_rows
manager_rises = (lit≤ tt, (lit≤ tt, (lit≤ tt, (lit≤ tt, (lit≤ tt, tt)))))

only_last : (s t u w x : Bool) → s ≡ false → t ≡ false → u ≡ false → w ≡ true → (s || (t || (u || (w && x)))) ≡ x
only_last s t u w x e f g here = rw (e, f, g, here) refl

but_last : (s t u w x : Bool) → w ≡ false → (s || (t || (u || (w && x)))) ≡ (s || (t || (u || false)))
but_last s t u w x none = rw none refl

only_first : (s w n x : Bool) → s ≡ x → w ≡ false → (s || (w && n)) ≡ x
only_first s w n true here none = rw here refl
only_first s w n false here none = rw (here, none) refl

in_manager : (a : ℕ) (busy : Bool) → within 2048 32 a ≡ true → (is_stored a ≡ is_stored_access (access_of a)) × (takes_writes busy a ≡ takes_effect busy (access_of a))
unfolding access_of
in_manager a busy h =
    let from : 2048 ≤ a = (inside 2048 32 a h).0 in
    let here : access_of a ≡ access_in manager_rows (a % 8) = rw h refl in
    let stored : is_stored a ≡ (nat_lt (a % 8) 5 || (a % 8 == 6)) =
    only_last (within 16 2 a) (within 288 2 a) (within 1536 64 a) (within 2048 32 a) (nat_lt (a % 8) 5 || (a % 8 == 6))
    (outside 16 2 a (inr (omega arith))) (outside 288 2 a (inr (omega arith))) (outside 1536 64 a (inr (omega arith))) h in (
      stored ∙ settings (a % 8) ∙ sym (ap is_stored_access here ∙ table_test is_stored_access refl (a % 8) 0 manager_rows manager_rises),
      only_first (is_stored a) (within 1282 6 a) (not busy) (nat_lt (a % 8) 5 || (a % 8 == 6)) stored (outside 1282 6 a (inr (omega arith)))
          ∙ settings (a % 8) ∙ sym (ap (takes_effect busy) here ∙ table_test (takes_effect busy) refl (a % 8) 0 manager_rows manager_rises),
    )

in_registers : (a : ℕ) (busy : Bool) → within 2048 32 a ≡ false → (is_stored a ≡ is_stored_access (access_of a)) × (takes_writes busy a ≡ takes_effect busy (access_of a))
unfolding access_of
in_registers a busy h =
    let here : access_of a ≡ access_in register_rows a = rw h refl in
    let stored : is_stored a ≡ (within 16 2 a || (within 288 2 a || (within 1536 64 a || false))) =
    but_last (within 16 2 a) (within 288 2 a) (within 1536 64 a) (within 2048 32 a) (nat_lt (a % 8) 5 || (a % 8 == 6)) h in (
      stored ∙ sym (ap is_stored_access here ∙ table_test is_stored_access refl a 0 register_rows registers_rise),
      ap (λ s. s || (within 1282 6 a && not busy)) stored
          ∙ regroup (within 16 2 a) (within 288 2 a) (within 1536 64 a) (within 1282 2 a) (within 1284 4 a) (within 1282 6 a) (not busy) (port a)
          ∙ sym (ap (takes_effect busy) here ∙ table_test (takes_effect busy) refl a 0 register_rows registers_rise),
    )

cases : (b : Bool) → (b ≡ true) ⊎ (b ≡ false)
cases true = inl refl
cases false = inr refl

by_place : (a : ℕ) (busy : Bool) → (is_stored a ≡ is_stored_access (access_of a)) × (takes_writes busy a ≡ takes_effect busy (access_of a))
by_place a busy = elim (cases (within 2048 32 a)) [ inl h ↦ in_manager a busy h | inr h ↦ in_registers a busy h ]

pub access_law : AccessIsTheTable
access_law = record { stored = λ a. (by_place a false).0; taken = λ a busy. (by_place a busy).1 }
