use Rattle.std.proofs.Common.{ℕ, ◌+◌, ◌*◌, ◌<◌, ◌≤◌, ◌≡◌, ◌⊎◌, ◌&&◌, Bool, true, false, Option, inl, inr, refl, sym, ◌∙◌, ap, subst, arith, length, nat_le, nat_lt}
use Rattle.std.proofs.lemmas.Bool.{and_from, and_parts, both_ways, cases_lt, lt-ltb, ltb-true}
use Rattle.ec_device.specs.declared.hardware.Hardware.{Hardware}
use Rattle.ec_device.specs.Hardware.{fmmu_count}
use Rattle.ec_slave.specs.Physical.{Window, is_missing, touches}
use Rattle.ec_slave.proofs.Memory.AroundFmmus.{apart-memory, apart-some, untouched}
use Rattle.ec_slave.proofs.Memory.MissingFmmus.{missing-from}
use Rattle.ec_slave.proofs.physical.bytes.write_memory.Goals as goal

-- a write reaches registers of missing FMMUs, or none of them
abbrev is_reached : ℕ → ℕ → ℕ → Bool
is_reached missing from len = (nat_lt missing 1600 && nat_lt from 1600) && nat_lt missing (from + len)

abbrev IsApart : ℕ → ℕ → ℕ → Type 0
IsApart missing from len = (from + len ≤ missing) ⊎ ((1600 ≤ from) ⊎ (missing ≡ 1600))

record Reached (missing from len : ℕ) : Type 0 where
  pub last : missing < 1600
  pub low : from < 1600
  pub high : missing < from + len

reached : (missing from len : ℕ) → is_reached missing from len ≡ true → Reached missing from len
reached missing from len h =
    let p = and_parts (nat_lt missing 1600 && nat_lt from 1600) (nat_lt missing (from + len)) h in
    let q = and_parts (nat_lt missing 1600) (nat_lt from 1600) p.0 in
    record { last = ltb-true missing 1600 q.0; low = ltb-true from 1600 q.1; high = ltb-true missing (from + len) p.1 }

apart : (missing from len : ℕ) → missing ≤ 1600 → is_reached missing from len ≡ false → IsApart missing from len
apart missing from len few h = elim (cases_lt missing 1600) as (λ _. IsApart missing from len) [
  | inr x ↦ inr (inr (omega (arith, x, few)))
  | inl x ↦ elim (cases_lt from 1600) as (λ _. IsApart missing from len) [
    | inr y ↦ inr (inl y)
    | inl y ↦ elim (cases_lt missing (from + len)) as (λ _. IsApart missing from len) [
      | inr z ↦ inl z
      | inl z ↦ absurd (both_ways (is_reached missing from len) h
          (and_from (nat_lt missing 1600 && nat_lt from 1600) (nat_lt missing (from + len)) (and_from (nat_lt missing 1600) (nat_lt from 1600) (lt-ltb missing 1600 x) (lt-ltb from 1600 y)) (lt-ltb missing (from + len) z)))
    ]
  ]
]

-- the same by the type's number of FMMUs
left : (o : Option Hardware) (w : Window) (count : ℕ) → count ≡ fmmu_count o → count ≤ 4 → is_reached (1536 + 16 * count) w.from (length w.bytes) ≡ false → (a : ℕ) → is_missing o a ≡ true → touches w a ≡ false
left o w count e few h = untouched o w (subst (λ (n : ℕ). IsApart (1536 + 16 * n) w.from (length w.bytes)) e (apart (1536 + 16 * count) w.from (length w.bytes) (omega (arith, few)) h))

begin : (o : Option Hardware) (count : ℕ) → count ≡ fmmu_count o → (a : ℕ) → is_missing o a ≡ (nat_le (1536 + 16 * count) a && nat_lt a 1600)
begin o count e a = missing-from o a ∙ ap (λ (n : ℕ). nat_le (1536 + 16 * n) a && nat_lt a 1600) (sym e)

pub returns-then-reaches-clause-memory : goal.returns-then-reaches-clause-memory
returns-then-reaches-clause-memory c =
    c.write_around.ensures.memory c.args.kind.now.hardware c.args.managers.now (begin c.args.kind.now.hardware c.from.result (c.from.ensures ∙ c.fmmu_count.ensures.value))

pub returns-then-reaches-clause-some : goal.returns-then-reaches-clause-some
returns-then-reaches-clause-some c =
    c.write_around.ensures.some c.args.kind.now.hardware c.args.managers.now c.args.is_busy refl (begin c.args.kind.now.hardware c.from.result (c.from.ensures ∙ c.fmmu_count.ensures.value))

pub returns-clause-memory : goal.returns-clause-memory
returns-clause-memory c =
    let w : Window = record { from = c.args.from; bytes = c.args.bytes.now } in
    let n = c.fmmu_count.ensures in
    let count = c.from.ensures in
    let most = n.few in
    let few : c.from.result ≤ 4 = omega (arith, count, most) in
    c.write_physical.ensures.memory
    ∙ apart-memory c.args.kind.now.hardware c.args.managers.now w c.args.memory.now (left c.args.kind.now.hardware w c.from.result (count ∙ n.value) few (sym c.reaches.ensures ∙ c.if-reaches.false))

pub returns-clause-some : goal.returns-clause-some
returns-clause-some c =
    let w : Window = record { from = c.args.from; bytes = c.args.bytes.now } in
    let n = c.fmmu_count.ensures in
    let count = c.from.ensures in
    let most = n.few in
    let few : c.from.result ≤ 4 = omega (arith, count, most) in
    c.write_physical.ensures.some
    ∙ apart-some c.args.kind.now.hardware c.args.managers.now c.args.is_busy w (left c.args.kind.now.hardware w c.from.result (count ∙ n.value) few (sym c.reaches.ensures ∙ c.if-reaches.false))

pub write_around-requires-clause-last : goal.write_around-requires-clause-last
write_around-requires-clause-last c = (reached _ _ _ (sym c.reaches.ensures ∙ c.if-reaches.true)).last

pub write_around-requires-clause-low : goal.write_around-requires-clause-low
write_around-requires-clause-low c = (reached _ _ _ (sym c.reaches.ensures ∙ c.if-reaches.true)).low

pub write_around-requires-clause-high : goal.write_around-requires-clause-high
write_around-requires-clause-high c = (reached _ _ _ (sym c.reaches.ensures ∙ c.if-reaches.true)).high
