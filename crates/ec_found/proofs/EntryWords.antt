-- The words of a PDO's entries, and of the PDOs behind them.
use Rattle.std.proofs.Common.{ℕ, zero, suc, ◌*◌, ◌/◌, ◌%◌, ◌<◌, ◌≤◌, ◌≡◌, List, [], ◌∷◌, length, take, drop, refl, ap, ◌∙◌, arith}
use Rattle.ec_device.specs.declared.slave_type.Entry.{Entry}
use Rattle.ec_sii.specs.Reading.{entries_read, pdos_read, ReadPdo, ReadPdos}
use Rattle.ec_found.specs.Founds.{entries_of}
use Rattle.ec_found.proofs.Steps.{a_pdo, an_entry, cut_none, cut_one, cut_three, cut_two}

-- four times a number, as its words are taken one by one
abbrev pub fourfold : ℕ → ℕ
fourfold zero = zero
fourfold (suc n) = suc (suc (suc (suc (fourfold n))))

pub fourfold-is : (n : ℕ) → fourfold n ≡ 4 * n
fourfold-is zero = refl
fourfold-is (suc n) = let e = fourfold-is n in omega (arith, e)

abbrev entries : ReadPdos → List Entry
entries r = r.entries

abbrev behind : ReadPdos → List ReadPdo
behind r = r.pdos

no-entries : (ws : List ℕ) → (entries_read 0 ws).entries ≡ []
no-entries [] = ap entries (cut_none 0)
no-entries (a ∷ []) = ap entries (cut_one 0 a)
no-entries (a ∷ b ∷ []) = ap entries (cut_two 0 a b)
no-entries (a ∷ b ∷ c ∷ []) = ap entries (cut_three 0 a b c)
no-entries (a ∷ b ∷ c ∷ d ∷ ws) = ap entries (a_pdo a b c d ws)

-- all words of the entries are there
whole-entries : (n : ℕ) (ws : List ℕ) → fourfold n ≤ length ws → (entries_read n ws).entries ≡ entries_of (take (fourfold n) ws)
whole-entries zero ws l = no-entries ws
whole-entries (suc n) [] l = absurd (omega (arith, l))
whole-entries (suc n) (a ∷ []) l = absurd (omega (arith, l))
whole-entries (suc n) (a ∷ b ∷ []) l = absurd (omega (arith, l))
whole-entries (suc n) (a ∷ b ∷ c ∷ []) l = absurd (omega (arith, l))
whole-entries (suc n) (a ∷ b ∷ c ∷ d ∷ ws) l =
    ap entries (an_entry n a b c d ws)
    ∙ ap (λ (es : List Entry). record { index = a; subindex = b % 256; bits = c / 256 } ∷ es) (whole-entries n ws (omega (arith, l)))

whole-pdos : (n : ℕ) (ws : List ℕ) → fourfold n ≤ length ws → (entries_read n ws).pdos ≡ pdos_read (drop (fourfold n) ws)
whole-pdos zero ws l = refl
whole-pdos (suc n) [] l = absurd (omega (arith, l))
whole-pdos (suc n) (a ∷ []) l = absurd (omega (arith, l))
whole-pdos (suc n) (a ∷ b ∷ []) l = absurd (omega (arith, l))
whole-pdos (suc n) (a ∷ b ∷ c ∷ []) l = absurd (omega (arith, l))
whole-pdos (suc n) (a ∷ b ∷ c ∷ d ∷ ws) l = ap behind (an_entry n a b c d ws) ∙ whole-pdos n ws (omega (arith, l))

-- some are missing
cut-entries : (n : ℕ) (ws : List ℕ) → length ws < fourfold n → (entries_read n ws).entries ≡ entries_of ws
cut-entries zero ws l = absurd (omega (arith, l))
cut-entries (suc n) [] l = ap entries (cut_none (suc n))
cut-entries (suc n) (a ∷ []) l = ap entries (cut_one (suc n) a)
cut-entries (suc n) (a ∷ b ∷ []) l = ap entries (cut_two (suc n) a b)
cut-entries (suc n) (a ∷ b ∷ c ∷ []) l = ap entries (cut_three (suc n) a b c)
cut-entries (suc n) (a ∷ b ∷ c ∷ d ∷ ws) l =
    ap entries (an_entry n a b c d ws)
    ∙ ap (λ (es : List Entry). record { index = a; subindex = b % 256; bits = c / 256 } ∷ es) (cut-entries n ws (omega (arith, l)))

cut-pdos : (n : ℕ) (ws : List ℕ) → length ws < fourfold n → (entries_read n ws).pdos ≡ []
cut-pdos zero ws l = absurd (omega (arith, l))
cut-pdos (suc n) [] l = ap behind (cut_none (suc n))
cut-pdos (suc n) (a ∷ []) l = ap behind (cut_one (suc n) a)
cut-pdos (suc n) (a ∷ b ∷ []) l = ap behind (cut_two (suc n) a b)
cut-pdos (suc n) (a ∷ b ∷ c ∷ []) l = ap behind (cut_three (suc n) a b c)
cut-pdos (suc n) (a ∷ b ∷ c ∷ d ∷ ws) l = ap behind (an_entry n a b c d ws) ∙ cut-pdos n ws (omega (arith, l))

-- ---- a PDO whose head comes first

-- with these entries, and these PDOs behind it
abbrev pub headed : (index number : ℕ) → List Entry → List ReadPdo → List ReadPdo
headed index number es ps = record { manager = number / 256; pdo = record { index = index; entries = es } } ∷ ps

pub whole-pdo : (index number names flags : ℕ) (ws : List ℕ) → 4 * (number % 256) ≤ length ws
    → pdos_read (index ∷ number ∷ names ∷ flags ∷ ws) ≡ headed index number (entries_of (take (4 * (number % 256)) ws)) (pdos_read (drop (4 * (number % 256)) ws))
whole-pdo index number names flags ws l =
    let e = fourfold-is (number % 256) in
    let l2 : fourfold (number % 256) ≤ length ws = omega (arith, e, l) in
    ap behind (a_pdo index number names flags ws)
    ∙ ap (λ (es : List Entry). headed index number es (entries_read (number % 256) ws).pdos) (whole-entries (number % 256) ws l2)
    ∙ ap (headed index number (entries_of (take (fourfold (number % 256)) ws))) (whole-pdos (number % 256) ws l2)
    ∙ ap (λ (k : ℕ). headed index number (entries_of (take k ws)) (pdos_read (drop k ws))) e

pub cut-pdo : (index number names flags : ℕ) (ws : List ℕ) → length ws < 4 * (number % 256)
    → pdos_read (index ∷ number ∷ names ∷ flags ∷ ws) ≡ headed index number (entries_of ws) []
cut-pdo index number names flags ws l =
    let e = fourfold-is (number % 256) in
    let l2 : length ws < fourfold (number % 256) = omega (arith, e, l) in
    ap behind (a_pdo index number names flags ws)
    ∙ ap (λ (es : List Entry). headed index number es (entries_read (number % 256) ws).pdos) (cut-entries (number % 256) ws l2)
    ∙ ap (headed index number (entries_of ws)) (cut-pdos (number % 256) ws l2)

pub no_pdos : (ws : List ℕ) → length ws < 4 → pdos_read ws ≡ []
no_pdos [] l = ap behind (cut_none 0)
no_pdos (a ∷ []) l = ap behind (cut_one 0 a)
no_pdos (a ∷ b ∷ []) l = ap behind (cut_two 0 a b)
no_pdos (a ∷ b ∷ c ∷ []) l = ap behind (cut_three 0 a b c)
no_pdos (a ∷ b ∷ c ∷ d ∷ ws) l = absurd (omega (arith, l))
