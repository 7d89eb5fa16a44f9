-- The FMMUs of a slave that holds a plan's registers are the plan's.
use Rattle.ec_bringup.proofs.Words.{ℕ, ◌+◌, ◌*◌, ◌/◌, ◌%◌, ◌<◌, ◌≡◌, ◌==◌, Bool, true, false, refl, ◌∙◌, ap, arith, [], ◌∷◌, slice_index, bit_at, from_bool, FmmuSettings, fmmu_of, fmmu_bytes, SlaveState, fmmus, fmmu_at, Config, IsConfigured, IsFmmu, shown_fmmu, settings_go_back}

-- the thirteen bytes that count
same-fmmu : (b c : ℕ → ℕ) → ((k : ℕ) → k < 16 → b k ≡ c k) → fmmu_of b ≡ fmmu_of c
same-fmmu b c h =
    let e0 = h 0 (omega arith) in let e1 = h 1 (omega arith) in let e2 = h 2 (omega arith) in let e3 = h 3 (omega arith) in
    let e4 = h 4 (omega arith) in let e5 = h 5 (omega arith) in let e6 = h 6 (omega arith) in let e7 = h 7 (omega arith) in
    let e8 = h 8 (omega arith) in let e9 = h 9 (omega arith) in let e10 = h 10 (omega arith) in let e11 = h 11 (omega arith) in
    let e12 = h 12 (omega arith) in
    rw (e0, e1, e2, e3, e4, e5, e6, e7, e8, e9, e10, e11, e12) refl

bits-back : (r w : Bool) → ((bit_at (from_bool r + 2 * from_bool w) 0 == 1) ≡ r) × ((bit_at (from_bool r + 2 * from_bool w) 1 == 1) ≡ w)
bits-back true true = (refl, refl)
bits-back false true = (refl, refl)
bits-back _ _ = (refl, refl)

bit-back : (a : Bool) → (bit_at (from_bool a) 0 == 1) ≡ a
bit-back true = refl
bit-back false = refl

pub read-back : (f : FmmuSettings) → IsFmmu f → fmmu_of (slice_index (fmmu_bytes f)) ≡ f
read-back f h =
    let s = h.start in let t = h.stop in let p = h.physical in
    let a : f.logical_start % 256 + 256 * (f.logical_start / 256 % 256) + 65536 * (f.logical_start / 65536 % 256) + 16777216 * (f.logical_start / 16777216) ≡ f.logical_start = omega arith in
    let b : f.length % 256 + 256 * (f.length / 256) ≡ f.length = omega arith in
    let c : f.start_bit % 8 ≡ f.start_bit = omega (arith, s) in
    let d : f.stop_bit % 8 ≡ f.stop_bit = omega (arith, t) in
    let e : f.physical_start % 256 + 256 * (f.physical_start / 256) ≡ f.physical_start = omega arith in
    let g : f.physical_bit % 8 ≡ f.physical_bit = omega (arith, p) in
    fields (fmmu_of (slice_index (fmmu_bytes f))) f a b c d e g (bits-back f.reads f.writes).0 (bits-back f.reads f.writes).1 (bit-back f.active)
  where
    fields : (x y : FmmuSettings) → x.logical_start ≡ y.logical_start → x.length ≡ y.length → x.start_bit ≡ y.start_bit → x.stop_bit ≡ y.stop_bit
        → x.physical_start ≡ y.physical_start → x.physical_bit ≡ y.physical_bit → x.reads ≡ y.reads → x.writes ≡ y.writes → x.active ≡ y.active → x ≡ y
    fields x y a b c d e g r w v =
        ap (λ (n : ℕ). record x { logical_start = n }) a ∙ (ap (λ (n : ℕ). record x { logical_start = y.logical_start; length = n }) b
        ∙ (ap (λ (n : ℕ). record x { logical_start = y.logical_start; length = y.length; start_bit = n }) c
        ∙ (ap (λ (n : ℕ). record y { stop_bit = n; physical_start = x.physical_start; physical_bit = x.physical_bit; reads = x.reads; writes = x.writes; active = x.active }) d
        ∙ (ap (λ (n : ℕ). record y { physical_start = n; physical_bit = x.physical_bit; reads = x.reads; writes = x.writes; active = x.active }) e
        ∙ (ap (λ (n : ℕ). record y { physical_bit = n; reads = x.reads; writes = x.writes; active = x.active }) g
        ∙ (ap (λ (n : Bool). record y { reads = n; writes = x.writes; active = x.active }) r
        ∙ (ap (λ (n : Bool). record y { writes = n; active = x.active }) w ∙ ap (λ (n : Bool). record y { active = n }) v)))))))

-- the four FMMUs of a slave that is configured
pub fmmus-held : (i : ℕ) (c : Config) (s : SlaveState) → ((n : ℕ) → n < 4 → IsFmmu (fmmu_at c.fmmus n)) → IsConfigured i c s
    → fmmus s ≡ fmmu_at c.fmmus 0 ∷ fmmu_at c.fmmus 1 ∷ fmmu_at c.fmmus 2 ∷ fmmu_at c.fmmus 3 ∷ []
fmmus-held i c s good h =
    ap (λ (f : FmmuSettings). f ∷ at 1 ∷ at 2 ∷ at 3 ∷ []) (one 0 (omega arith))
    ∙ (ap (λ (f : FmmuSettings). fmmu_at c.fmmus 0 ∷ f ∷ at 2 ∷ at 3 ∷ []) (one 1 (omega arith))
    ∙ (ap (λ (f : FmmuSettings). fmmu_at c.fmmus 0 ∷ fmmu_at c.fmmus 1 ∷ f ∷ at 3 ∷ []) (one 2 (omega arith))
    ∙ ap (λ (f : FmmuSettings). fmmu_at c.fmmus 0 ∷ fmmu_at c.fmmus 1 ∷ fmmu_at c.fmmus 2 ∷ f ∷ []) (one 3 (omega arith))))
  where
    at : ℕ → FmmuSettings
    at n = shown_fmmu s.kind.hardware (fmmu_of (λ k. slice_index s.memory (0x0600 + 16 * n + k)))

    -- as the registers have it
    shown : ℕ → FmmuSettings
    shown n = shown_fmmu s.kind.hardware (fmmu_at c.fmmus n)

    fits : (n : ℕ) → n < 4 → IsFmmu (shown n)
    fits n l = let g = good n l in record { start = g.start; stop = g.stop; physical = g.physical }

    one : (n : ℕ) → n < 4 → at n ≡ fmmu_at c.fmmus n
    one n l =
        ap (shown_fmmu s.kind.hardware) (same-fmmu (λ k. slice_index s.memory (0x0600 + 16 * n + k)) (slice_index (fmmu_bytes (shown n))) (λ k b. h.fmmus n k l b) ∙ read-back (shown n) (fits n l))
        ∙ settings_go_back.fmmu s.kind.hardware (fmmu_at c.fmmus n)
