use Rattle.std.proofs.Common.{ℕ, ◌+◌, ◌-◌, ◌<◌, ◌≤◌, ◌≡◌, ◌⊎◌, ◌||◌, Bool, List, None, inl, inr, sym, ◌∙◌, ap, arith, length, take, drop, length-drop, take_all, min}
use Rattle.std.proofs.lemmas.Bool.{cases_lt}
use Rattle.std.proofs.lemmas.List.{length-take-le}
use Rattle.ec_slave.specs.Physical.{Window, memory_written, some_byte_written}
use Rattle.ec_slave.proofs.Memory.AroundFmmus.{IsCut, behind, front, memory-around, some-around}
use Rattle.ec_slave.proofs.physical.bytes.write_around.Goals as goal

-- the two ends of the part that is left out
cut : (w : Window) (missing n m : ℕ) → 1536 ≤ missing → missing < 1600 → w.from < 1600 → missing < w.from + length w.bytes → length w.bytes < 2048
    → n ≡ missing - w.from → m ≡ min (1600 - w.from) (length w.bytes) → IsCut w missing n m
cut w missing n m first last low high few front back = record {
  first = first;
  last = last;
  low = low;
  high = high;
  few = few;
  before = elim (cases_lt missing w.from) as (λ _. (w.from + n ≡ missing) ⊎ ((n ≡ 0) × (missing ≤ w.from))) [
    | inl x ↦ inr (omega (arith, x, front), omega (arith, x))
    | inr x ↦ inl (omega (arith, x, front))
  ];
  inside = omega (arith, back);
  after = elim (cases_lt (w.from + length w.bytes) 1600) as (λ _. (w.from + m ≡ 1600) ⊎ ((m ≡ length w.bytes) × (w.from + m ≤ 1600))) [
    | inl x ↦ inr (omega (arith, x, back), omega (arith, x, back))
    | inr x ↦ inl (omega (arith, x, back, low))
  ];
}

-- all that lies behind a place
rest : (m : ℕ) (xs : List ℕ) → take (length xs - m) (drop m xs) ≡ drop m xs
rest m xs = let long = length-drop m xs in take_all (length xs - m) (drop m xs) (omega (arith, long))

pub returns-clause-memory : goal.returns-clause-memory
returns-clause-memory c = λ o ms from.
    let w : Window = record { from = c.args.from; bytes = c.args.bytes.now } in
    let n : ℕ = c.saturating_sub-before.result in
    let m : ℕ = c.min-behind.result in
    let r = c.requires in
    c.write_registers-is_behind.ensures.memory ms
    ∙ (ap (λ (xs : List ℕ). memory_written None ms (record { from = 1600; bytes = xs }) c.write_registers-is_before.new.memory) (rest m c.args.bytes.now)
    ∙ (ap (memory_written None ms (behind 1600 m w)) (c.write_registers-is_before.ensures.memory ms)
    ∙ memory-around o ms w c.args.missing n m c.args.memory.now from (cut w c.args.missing n m r.first r.last r.low r.high r.few c.saturating_sub-before.ensures c.min-behind.ensures)))

pub returns-clause-some : goal.returns-clause-some
returns-clause-some c = λ o ms busy same from.
    let w : Window = record { from = c.args.from; bytes = c.args.bytes.now } in
    let n : ℕ = c.saturating_sub-before.result in
    let m : ℕ = c.min-behind.result in
    let r = c.requires in
    ap (λ (b : Bool). b || c.write_registers-is_behind.result) (c.write_registers-is_before.ensures.some ms)
    ∙ (ap (λ (b : Bool). some_byte_written None ms c.args.is_busy (front n w) || b)
    (c.write_registers-is_behind.ensures.some ms ∙ ap (λ (xs : List ℕ). some_byte_written None ms c.args.is_busy (record { from = 1600; bytes = xs })) (rest m c.args.bytes.now))
    ∙ (some-around o ms c.args.is_busy w c.args.missing n m from (cut w c.args.missing n m r.first r.last r.low r.high r.few c.saturating_sub-before.ensures c.min-behind.ensures)
    ∙ ap (λ (b : Bool). some_byte_written o ms b w) (sym same)))

pub write_registers-is_before-requires-clause-inside : goal.write_registers-is_before-requires-clause-inside
write_registers-is_before-requires-clause-inside c =
    let n : ℕ = c.saturating_sub-before.result in
    let r = c.requires in
    let last = r.last in
    let low = r.low in
    let high = r.high in
    let front = c.saturating_sub-before.ensures in
    let long = length-take-le n c.args.bytes.now (omega (arith, front, high)) in
    omega (arith, long, front, last, low)

pub write_registers-is_behind-requires-clause-inside : goal.write_registers-is_behind-requires-clause-inside
write_registers-is_behind-requires-clause-inside c =
    let few = c.requires.few in
    let rest = length-drop c.min-behind.result c.args.bytes.now in
    omega (arith, rest, few)
