-- A slave that was just switched on maps nothing.
use Rattle.ec_bringup.proofs.Words.{ℕ, ◌+◌, ◌*◌, ◌≡◌, ◌==◌, false, Option, refl, ap, ◌∙◌, List, [], ◌∷◌, slice_index, bit_at, Hardware, FmmuSettings, fmmu_of, shown_fmmu, SlaveState, power_on, switched_on}
use Rattle.ec_fmmu.specs.Applied.{LogicalSpan, inside_span}
use Rattle.ec_fmmu.specs.Sets.{target, source, readers, writers}
use Rattle.ec_slave.specs.State.{fmmus_of}
use Rattle.ec_slave.specs.LogicalLaws.{Misses}

four_idle : (f0 f1 f2 f3 : FmmuSettings) → f0.reads ≡ false → f1.reads ≡ false → f2.reads ≡ false → f3.reads ≡ false → readers (f0 ∷ f1 ∷ f2 ∷ f3 ∷ []) ≡ []
four_idle f0 f1 f2 f3 e0 e1 e2 e3 = rw (e0, e1, e2, e3) refl

four_mute : (f0 f1 f2 f3 : FmmuSettings) → f0.writes ≡ false → f1.writes ≡ false → f2.writes ≡ false → f3.writes ≡ false → writers (f0 ∷ f1 ∷ f2 ∷ f3 ∷ []) ≡ []
four_mute f0 f1 f2 f3 e0 e1 e2 e3 = rw (e0, e1, e2, e3) refl

-- an FMMU whose registers are zeros, by whatever name
fmmu_off : (o : Option Hardware) (byte : ℕ → ℕ) → ((k : ℕ) → byte k ≡ 0) → ((shown_fmmu o (fmmu_of byte)).reads ≡ false) × ((shown_fmmu o (fmmu_of byte)).writes ≡ false)
fmmu_off o byte z = (ap (λ x. bit_at x 0 == 1) (z 11), ap (λ x. bit_at x 1 == 1) (z 11))

blank : (o : Option Hardware) (memory : List ℕ) → ((i : ℕ) → slice_index memory i ≡ 0) → (readers (fmmus_of o memory) ≡ []) × (writers (fmmus_of o memory) ≡ [])
blank o memory z =
    let at : ℕ → FmmuSettings = λ n. shown_fmmu o (fmmu_of (λ k. slice_index memory (0x0600 + 16 * n + k))) in
    let off : (n : ℕ) → ((at n).reads ≡ false) × ((at n).writes ≡ false) = λ n. fmmu_off o (λ k. slice_index memory (0x0600 + 16 * n + k)) (λ k. z (0x0600 + 16 * n + k)) in
    (four_idle (at 0) (at 1) (at 2) (at 3) (off 0).0 (off 1).0 (off 2).0 (off 3).0, four_mute (at 0) (at 1) (at 2) (at 3) (off 0).1 (off 1).1 (off 2).1 (off 3).1)

pub blank-misses : (s : SlaveState) → s ≡ power_on s.kind s.identity → (p : LogicalSpan) → Misses s p
blank-misses s e p =
    let none = blank s.kind.hardware s.memory (λ i. ap (λ (x : SlaveState). slice_index x.memory i) e ∙ (switched_on s.kind s.identity).memory i) in
    record { reads = λ i l. ap (λ fs. target fs (p.from + i)) none.0; writes = λ q. ap (λ fs. inside_span p (source fs q)) none.1 }
