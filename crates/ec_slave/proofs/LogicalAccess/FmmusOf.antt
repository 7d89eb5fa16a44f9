-- The FMMUs as the registers say them.
use Rattle.std.proofs.Common.{ℕ, ◌+◌, ◌*◌, ◌<◌, ◌≤◌, ◌≡◌, ◌⊎◌, ◌&&◌, Bool, refl, sym, ◌∙◌, ap, arith, List, [], ◌∷◌, length, get_or, slice_index, unwrap_or, inl, inr, if◌then◌else◌, nat_lt, Option}
use Rattle.ec_device.specs.declared.hardware.Hardware.{Hardware}
use Rattle.ec_regs.specs.Names.{shown_fmmu}
use Rattle.ec_regs.specs.Fmmus.{fmmu_of}
use Rattle.ec_sync.specs.SyncManager.{SyncManager}
use Rattle.ec_slave.specs.State.{fmmus_of}
use Rattle.ec_slave.specs.Physical.{Window, memory_written}
use Rattle.ec_slave.proofs.Memory.UpdatedAlong.{get-updated0}
use Rattle.ec_slave.proofs.Memory.WindowBytes.{taken_byte, taken-outside}
use Rattle.std.proofs.lemmas.Bool.{cases_lt, and_from, and_left, and_right, lt-ltb, le-ltb}
use Rattle.ec_bits.proofs.AnyLaws.{if_true, if_false}
use Rattle.ec_regs.specs.declared.fmmu.FmmuSettings.{FmmuSettings}

-- sixteen bytes that are alike say one FMMU
pub fmmu_of-alike : (f g : ℕ → ℕ) → ((k : ℕ) → k < 16 → f k ≡ g k) → fmmu_of f ≡ fmmu_of g
fmmu_of-alike f g h =
    let e0 = h 0 (omega arith) in let e1 = h 1 (omega arith) in let e2 = h 2 (omega arith) in let e3 = h 3 (omega arith) in
    let e4 = h 4 (omega arith) in let e5 = h 5 (omega arith) in let e6 = h 6 (omega arith) in let e7 = h 7 (omega arith) in
    let e8 = h 8 (omega arith) in let e9 = h 9 (omega arith) in let e10 = h 10 (omega arith) in let e11 = h 11 (omega arith) in
    let e12 = h 12 (omega arith) in
    rw (e0, e1, e2, e3, e4, e5, e6, e7, e8, e9, e10, e11, e12) refl

abbrev record_at : List ℕ → ℕ → ℕ → ℕ
record_at memory n k = slice_index memory (1536 + 16 * n + k)

-- where the bytes from 0x0600 to 0x063F are alike
pub fmmus_of-alike : (o : Option Hardware) (xs ys : List ℕ) → ((a : ℕ) → 1536 ≤ a → a < 1600 → slice_index xs a ≡ slice_index ys a) → fmmus_of o xs ≡ fmmus_of o ys
fmmus_of-alike o xs ys h =
    let f : (ℕ → ℕ) → FmmuSettings = λ byte. shown_fmmu o (fmmu_of byte) in
    let e0 = fmmu_of-alike (record_at xs 0) (record_at ys 0) (λ k l. h _ (omega arith) (omega arith)) in
    let e1 = fmmu_of-alike (record_at xs 1) (record_at ys 1) (λ k l. h _ (omega arith) (omega arith)) in
    let e2 = fmmu_of-alike (record_at xs 2) (record_at ys 2) (λ k l. h _ (omega arith) (omega arith)) in
    let e3 = fmmu_of-alike (record_at xs 3) (record_at ys 3) (λ k l. h _ (omega arith) (omega arith)) in
    ap (λ x. shown_fmmu o x ∷ f (record_at xs 1) ∷ f (record_at xs 2) ∷ f (record_at xs 3) ∷ []) e0
    ∙ (ap (λ x. f (record_at ys 0) ∷ shown_fmmu o x ∷ f (record_at xs 2) ∷ f (record_at xs 3) ∷ []) e1
    ∙ (ap (λ x. f (record_at ys 0) ∷ f (record_at ys 1) ∷ shown_fmmu o x ∷ f (record_at xs 3) ∷ []) e2
    ∙ ap (λ x. f (record_at ys 0) ∷ f (record_at ys 1) ∷ f (record_at ys 2) ∷ shown_fmmu o x ∷ []) e3))

-- a write that lies behind the FMMUs' registers, or before them, leaves them
pub fmmus_of-beyond : (o : Option Hardware) (ms : List SyncManager) (w : Window) (memory : List ℕ) → length memory ≡ 12288 → (1600 ≤ w.from) ⊎ (w.from + length w.bytes ≤ 1536)
    → fmmus_of o memory ≡ fmmus_of o (memory_written o ms w memory)
fmmus_of-beyond o ms w memory e aside = fmmus_of-alike o memory (memory_written o ms w memory) (λ a lo hi.
    let outside : (a < w.from) ⊎ (w.from + length w.bytes ≤ a) = elim aside [ inl x ↦ inl (omega arith) | inr x ↦ inr (omega arith) ] in
    sym (get-updated0 memory (taken_byte o ms w) a (omega arith) ∙ ap (λ b. unwrap_or b (get_or memory a 0)) (taken-outside o ms w a outside)))

-- the FMMUs stay as the registers say them, whether they were decoded again or left
pub decoded-kept : (o : Option Hardware) (ms : List SyncManager) (w : Window) (memory : List ℕ) (fs : List FmmuSettings) → length memory ≡ 12288 → fs ≡ fmmus_of o memory
    → (if nat_lt w.from 1600 && nat_lt 1536 (w.from + length w.bytes) then fmmus_of o (memory_written o ms w memory) else fs) ≡ fmmus_of o (memory_written o ms w memory)
decoded-kept o ms w memory fs e d =
    let behind : Bool = nat_lt w.from 1600 in
    let before : Bool = nat_lt 1536 (w.from + length w.bytes) in
    elim (cases_lt w.from 1600) [
      | inl l ↦ elim (cases_lt 1536 (w.from + length w.bytes)) [
        | inl m ↦ if_true (behind && before) _ _ (and_from behind before (lt-ltb _ _ l) (lt-ltb _ _ m))
        | inr m ↦ if_false (behind && before) _ _ (and_right behind before (le-ltb _ _ m)) ∙ (d ∙ fmmus_of-beyond o ms w memory e (inr m))
      ]
      | inr l ↦ if_false (behind && before) _ _ (and_left behind before (le-ltb _ _ l)) ∙ (d ∙ fmmus_of-beyond o ms w memory e (inl l))
    ]
