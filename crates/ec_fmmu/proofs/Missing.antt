-- A datagram of which no FMMU has a bit in its range neither reads nor writes.
use Rattle.std.proofs.Common.{ℕ, ◌+◌, ◌-◌, ◌<◌, ◌≡◌, List, [], length, get_or, true, Some, None, ◌∙◌, ap, inl, inr, arith}
use Rattle.std.proofs.lemmas.Bool.{cases_Bool}
use Rattle.ec_bits.specs.Bits.{within}
use Rattle.ec_bits.proofs.AnyLaws.{if_false, within_true}
use Rattle.ec_regs.specs.declared.fmmu.FmmuSettings.{FmmuSettings}
use Rattle.ec_regs.specs.Fmmus.{no_fmmu}
use Rattle.ec_fmmu.specs.Pairs.{reaches}
use Rattle.ec_fmmu.specs.Sets.{target, source, readers, writers}
use Rattle.ec_fmmu.specs.Applied.{LogicalSpan, inside_span, data_bit_for}
use Rattle.ec_fmmu.proofs.PairLaws.{none_or_some, pair_reaches}
use Rattle.ec_fmmu.proofs.RangeLaws.{reading_pair}
use Rattle.ec_fmmu.proofs.AloneWriting.{writing_pair}

-- no FMMU has one of the bits in its range
abbrev pub AllOutside : List FmmuSettings → ℕ → ℕ → Type 0
AllOutside fs from bits = (j : ℕ) → j < length fs → (l : ℕ) → reaches (get_or fs j no_fmmu) l ≡ true → within from bits l ≡ true → ⊥

pub none_read : (fs : List FmmuSettings) (from bits i : ℕ) → AllOutside fs from bits → i < bits → target (readers fs) (from + i) ≡ None
none_read fs from bits i h l = elim (none_or_some (target (readers fs) (from + i))) [
  | inl z ↦ z
  | inr s ↦
      let p = reading_pair fs (from + i) s.0 s.1 in
      absurd (h p.0 p.1 (from + i) (pair_reaches (get_or fs p.0 no_fmmu) (from + i) s.0 p.3) (within_true from bits (from + i) (omega arith) (omega arith)))
]

pub none_brought : (fs : List FmmuSettings) (from bits q : ℕ) → AllOutside fs from bits → data_bit_for fs (record { from = from; bits = bits }) q ≡ None
none_brought fs from bits q h =
    let place : LogicalSpan = record { from = from; bits = bits } in
    elim (none_or_some (source (writers fs) q)) [
      | inl z ↦ ap (inside_span place) z
      | inr s ↦
          let p = writing_pair [] fs s.0 q s.1 in
          ap (inside_span place) s.1
          ∙ (elim (cases_Bool (within from bits s.0)) [
            | inl t ↦ absurd (h p.0 p.1 s.0 (pair_reaches (get_or fs p.0 no_fmmu) s.0 q p.3) t)
            | inr f ↦ if_false (within from bits s.0) (Some (s.0 - from)) None f
          ])
    ]
