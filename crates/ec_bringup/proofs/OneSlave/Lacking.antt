-- The registers of FMMUs that a slave lacks, and those that it has.
use Rattle.ec_bringup.proofs.Words.{ℕ, ◌+◌, ◌*◌, ◌<◌, ◌≤◌, ◌≡◌, Bool, true, false, refl, ◌∙◌, inl, inr, arith, Option, Some, None, nat_le, nat_lt, cases_Bool, and_parts, leb-true, ltb-true, if_false, Hardware, fmmu_count, is_missing, keeps, is_stored, shown_fmmu, no_fmmu, if◌then◌else◌}

-- a byte below all FMMUs, above them, or of one that the slave has
pub has-below : (o : Option Hardware) (a : ℕ) → a < 0x0600 → is_missing o a ≡ false
has-below None a l = refl
has-below (Some h) a l = elim (cases_Bool (is_missing (Some h) a)) [
  | inl t ↦ absurd (let b = leb-true (0x0600 + 16 * h.fmmus) a (and_parts (nat_le (0x0600 + 16 * h.fmmus) a) (nat_lt a 0x0640) t).0 in omega (arith, b, l))
  | inr f ↦ f
]

pub has-above : (o : Option Hardware) (a : ℕ) → 0x0640 ≤ a → is_missing o a ≡ false
has-above None a l = refl
has-above (Some h) a l = elim (cases_Bool (is_missing (Some h) a)) [
  | inl t ↦ absurd (let b = ltb-true a 0x0640 (and_parts (nat_le (0x0600 + 16 * h.fmmus) a) (nat_lt a 0x0640) t).1 in omega (arith, b, l))
  | inr f ↦ f
]

pub has-own : (o : Option Hardware) (n b : ℕ) → n < fmmu_count o → b < 16 → is_missing o (0x0600 + 16 * n + b) ≡ false
has-own None n b l m = refl
has-own (Some h) n b l m = elim (cases_Bool (is_missing (Some h) (0x0600 + 16 * n + b))) [
  | inl t ↦ absurd (let q = leb-true (0x0600 + 16 * h.fmmus) (0x0600 + 16 * n + b) (and_parts (nat_le (0x0600 + 16 * h.fmmus) (0x0600 + 16 * n + b)) (nat_lt (0x0600 + 16 * n + b) 0x0640) t).0 in omega (arith, q, l, m))
  | inr f ↦ f
]

-- a register that every slave has is kept as ever
pub keeps-there : (o : Option Hardware) (a : ℕ) → is_missing o a ≡ false → is_stored a ≡ true → keeps o a ≡ true
keeps-there o a e h = if_false _ _ _ e ∙ h

pub keeps-below : (o : Option Hardware) (a : ℕ) → a < 0x0600 → is_stored a ≡ true → keeps o a ≡ true
keeps-below o a l h = keeps-there o a (has-below o a l) h

-- the register of no FMMU: no address has another name at 0
pub no-other : (o : Option Hardware) → shown_fmmu o no_fmmu ≡ no_fmmu
no-other None = refl
no-other (Some h) = by h.has_pins
  where
    by : (b : Bool) → record no_fmmu { physical_start = if b then 0 else 0 } ≡ no_fmmu
    by true = refl
    by false = refl
