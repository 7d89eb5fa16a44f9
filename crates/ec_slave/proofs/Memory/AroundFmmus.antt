-- A write over registers, of which those of missing FMMUs take none: what lies before them and what lies behind them.
use Rattle.std.proofs.Common.{ℕ, zero, suc, ◌+◌, ◌-◌, ◌*◌, ◌<◌, ◌≤◌, ◌≡◌, ◌⊎◌, ◌&&◌, ◌||◌, Bool, true, false, Option, Some, None, unwrap_or, refl, sym, ◌∙◌, ap, inl, inr, arith, if◌then◌else◌, List, [], ◌∷◌, length, take, drop, slice_index, nat_le, nat_lt, length-drop}
use Rattle.std.proofs.lemmas.Bool.{and_from, and_left, and_parts, and_right, both_ways, cases_Bool, cases_lt, le-leb, le-ltb, leb-true, lt-leb, lt-ltb, ltb-true}
use Rattle.std.proofs.lemmas.List.{get_or-drop, get_or-take, length-take-le}
use Rattle.ec_bits.specs.Bits.{any_below}
use Rattle.ec_bits.proofs.AnyLaws.{any_below-alike, if_false, if_none, if_true, within_above, within_below, within_true}
use Rattle.ec_device.specs.declared.hardware.Hardware.{Hardware}
use Rattle.ec_device.specs.Hardware.{fmmu_count}
use Rattle.ec_regs.specs.Memory.{ram_start, takes_writes}
use Rattle.ec_sync.specs.SyncManager.{SyncManager}
use Rattle.ec_slave.specs.Physical.{Window, byte_from, is_missing, is_stored_at, may_write_byte, memory_written, some_byte_written, touches, updated_from}
use Rattle.ec_slave.proofs.Memory.AgainstAll.{updated_alike}
use Rattle.ec_slave.proofs.Memory.AnyBelow.{any-at, any-none, any-part}
use Rattle.ec_slave.proofs.Memory.MissingFmmus.{missing-from}
use Rattle.ec_slave.proofs.Memory.WindowBytes.{from-outside, kept_byte, kept-outside, taken_byte, write-register}

-- ---- a write that reaches none of them

-- the bounds of a missing register
missing-bounds : (o : Option Hardware) (a : ℕ) → is_missing o a ≡ true → (1536 + 16 * fmmu_count o ≤ a) × (a < 1600)
missing-bounds o a h =
    let p = and_parts (nat_le (1536 + 16 * fmmu_count o) a) _ (sym (missing-from o a) ∙ h) in
    (leb-true (1536 + 16 * fmmu_count o) a p.0, ltb-true a 1600 p.1)

pub untouched : (o : Option Hardware) (w : Window) → (w.from + length w.bytes ≤ 1536 + 16 * fmmu_count o) ⊎ ((1600 ≤ w.from) ⊎ (1536 + 16 * fmmu_count o ≡ 1600))
    → (a : ℕ) → is_missing o a ≡ true → touches w a ≡ false
untouched o w h a m =
    let b = missing-bounds o a m in
    let low = b.0 in
    let high = b.1 in
    elim h [
      | inl x ↦ within_above w.from (length w.bytes) a (omega (arith, x, low))
      | inr (inl x) ↦ within_below w.from (length w.bytes) a (omega (arith, x, high))
      | inr (inr x) ↦ absurd (omega (arith, x, low, high))
    ]

pub apart-memory : (o : Option Hardware) (ms : List SyncManager) (w : Window) (memory : List ℕ) → ((a : ℕ) → is_missing o a ≡ true → touches w a ≡ false)
    → memory_written None ms w memory ≡ memory_written o ms w memory
apart-memory o ms w memory h =
    updated_alike 0 memory (kept_byte ms w) (taken_byte o ms w) (λ a l. elim (cases_Bool (is_missing o a)) as (λ _. kept_byte ms w a ≡ taken_byte o ms w a) [
      | inl m ↦ if_none (is_stored_at ms a) (byte_from w a) (if_false _ _ _ (h a m)) ∙ sym (if_true _ _ _ m)
      | inr m ↦ sym (if_false _ _ _ m)
    ])

pub apart-some : (o : Option Hardware) (ms : List SyncManager) (busy : Bool) (w : Window) → ((a : ℕ) → is_missing o a ≡ true → touches w a ≡ false)
    → some_byte_written None ms busy w ≡ some_byte_written o ms busy w
apart-some o ms busy w h =
    any_below-alike (length w.bytes) _ _ (λ k l. elim (cases_Bool (is_missing o (w.from + k)))
    as (λ _. may_write_byte ms busy (touches w) (w.from + k) ≡ (if is_missing o (w.from + k) then false else may_write_byte ms busy (touches w) (w.from + k))) [
      | inl m ↦ absurd (both_ways (touches w (w.from + k)) (h (w.from + k) m) (within_true w.from (length w.bytes) (w.from + k) (omega arith) (omega arith)))
      | inr m ↦ sym (if_false _ _ _ m)
    ])

-- ---- one write behind another

abbrev or_else : Option ℕ → Option ℕ → Option ℕ
or_else None o = o
or_else (Some x) o = Some x

unwrap-twice : (a b : Option ℕ) (x : ℕ) → unwrap_or a (unwrap_or b x) ≡ unwrap_or (or_else a b) x
unwrap-twice None b x = refl
unwrap-twice (Some y) b x = refl

updated-twice : (k : ℕ) (xs : List ℕ) (f g : ℕ → Option ℕ) → updated_from k (updated_from k xs f) g ≡ updated_from k xs (λ i. or_else (g i) (f i))
updated-twice k [] f g = refl
updated-twice k (x ∷ xs) f g =
    ap (λ (y : ℕ). y ∷ updated_from (k + 1) (updated_from (k + 1) xs f) g) (unwrap-twice (g k) (f k) x)
    ∙ ap (λ (ys : List ℕ). unwrap_or (or_else (g k) (f k)) x ∷ ys) (updated-twice (k + 1) xs f g)

-- ---- the bytes of the two parts

abbrev pub front : ℕ → Window → Window
front n w = record { from = w.from; bytes = take n w.bytes }

abbrev pub behind : ℕ → ℕ → Window → Window
behind a n w = record { from = a; bytes = drop n w.bytes }

front-byte : (n : ℕ) (w : Window) (a : ℕ) → n ≤ length w.bytes → a < w.from + n → byte_from (front n w) a ≡ byte_from w a
front-byte n w a few l = elim (cases_lt a w.from) [
  | inl x ↦ from-outside (front n w) a (inl x) ∙ sym (from-outside w a (inl x))
  | inr x ↦
      let long : length (take n w.bytes) ≡ n = length-take-le n w.bytes few in
      if_true _ _ _ (within_true w.from (length (take n w.bytes)) a x (omega (arith, l, long)))
      ∙ (ap Some (get_or-take n w.bytes (a - w.from) 0 (omega (arith, x, l)))
      ∙ sym (if_true _ _ _ (within_true w.from (length w.bytes) a x (omega (arith, l, few)))))
]

behind-byte : (n : ℕ) (w : Window) (b a : ℕ) → n ≤ length w.bytes → b ≤ a → (b ≡ w.from + n) ⊎ ((n ≡ length w.bytes) × (w.from + n ≤ b)) → byte_from (behind b n w) a ≡ byte_from w a
behind-byte n w b a few low (inr e) =
    let long : length (drop n w.bytes) ≡ length w.bytes - n = length-drop n w.bytes in
    let last = e.0 in
    let past = e.1 in
    from-outside (behind b n w) a (inr (omega (arith, long, last, low))) ∙ sym (from-outside w a (inr (omega (arith, last, past, low))))
behind-byte n w b a few low (inl e) =
    let long : length (drop n w.bytes) ≡ length w.bytes - n = length-drop n w.bytes in
    elim (cases_lt a (w.from + length w.bytes)) [
      | inl x ↦
          let at : n + (a - b) ≡ a - w.from = omega (arith, e, low) in
          if_true _ _ _ (within_true b (length (drop n w.bytes)) a low (omega (arith, x, e, long, few)))
          ∙ (ap Some (get_or-drop n w.bytes (a - b) 0 ∙ ap (slice_index w.bytes) at)
          ∙ sym (if_true _ _ _ (within_true w.from (length w.bytes) a (omega (arith, e, low)) x)))
      | inr x ↦ from-outside (behind b n w) a (inr (omega (arith, long, e, x, few))) ∙ sym (from-outside w a (inr x))
    ]

or_none : (o : Option ℕ) → or_else o None ≡ o
or_none None = refl
or_none (Some x) = refl

-- where a write is cut: before the missing registers, and behind them
pub record IsCut (w : Window) (missing n m : ℕ) : Type 0 where
  pub first : 1536 ≤ missing
  pub last : missing < 1600
  pub low : w.from < 1600
  pub high : missing < w.from + length w.bytes
  pub few : length w.bytes < 2048
  pub before : (w.from + n ≡ missing) ⊎ ((n ≡ 0) × (missing ≤ w.from))
  pub inside : m ≤ length w.bytes
  pub after : (w.from + m ≡ 1600) ⊎ ((m ≡ length w.bytes) × (w.from + m ≤ 1600))

abbrev IsFrom : Option Hardware → ℕ → Type 0
IsFrom o missing = (a : ℕ) → is_missing o a ≡ (nat_le missing a && nat_lt a 1600)

-- a byte that is kept of the two parts is one that is taken of the whole
byte-around : (o : Option Hardware) (ms : List SyncManager) (w : Window) (missing n m a : ℕ) → IsFrom o missing → IsCut w missing n m
    → or_else (kept_byte ms (behind 1600 m w) a) (kept_byte ms (front n w) a) ≡ taken_byte o ms w a
byte-around o ms w missing n m a from c =
    let first = c.first in let last = c.last in let low = c.low in let high = c.high in
    let few : n ≤ length w.bytes = elim c.before [ inl x ↦ omega (arith, x, high) | inr x ↦ let z = x.0 in omega (arith, z) ] in
    let all : m ≤ length w.bytes = c.inside in
    elim (cases_lt a 1600) as (λ _. or_else (kept_byte ms (behind 1600 m w) a) (kept_byte ms (front n w) a) ≡ taken_byte o ms w a) [
      | inl x ↦
          let none : kept_byte ms (behind 1600 m w) a ≡ None = kept-outside ms (behind 1600 m w) a (inl x) in
          ap (λ (b : Option ℕ). or_else b (kept_byte ms (front n w) a)) none
          ∙ elim (cases_lt a missing) as (λ _. kept_byte ms (front n w) a ≡ taken_byte o ms w a) [
            | inl y ↦
                let there : is_missing o a ≡ false = from a ∙ and_left _ _ (lt-leb missing a y) in
                elim c.before as (λ _. kept_byte ms (front n w) a ≡ taken_byte o ms w a) [
                  | inl z ↦ ap (λ (b : Option ℕ). if is_stored_at ms a then b else None) (front-byte n w a few (omega (arith, y, z))) ∙ sym (if_false _ _ _ there)
                  | inr z ↦
                      let start = z.1 in
                      kept-outside ms (front n w) a (inl (omega (arith, y, start)))
                      ∙ sym (if_false _ _ _ there ∙ kept-outside ms w a (inl (omega (arith, y, start))))
                ]
            | inr y ↦
                let gone : is_missing o a ≡ true = from a ∙ and_from (nat_le missing a) _ (le-leb missing a y) (lt-ltb a 1600 x) in
                let long : length (take n w.bytes) ≡ n = length-take-le n w.bytes few in
                elim c.before as (λ _. kept_byte ms (front n w) a ≡ taken_byte o ms w a) [
                  | inl z ↦ kept-outside ms (front n w) a (inr (omega (arith, y, z, long))) ∙ sym (if_true _ _ _ gone)
                  | inr z ↦ kept-outside ms (front n w) a (let empty = z.0 in elim (cases_lt a w.from) [ inl v ↦ inl v | inr v ↦ inr (omega (arith, v, empty, long)) ]) ∙ sym (if_true _ _ _ gone)
                ]
          ]
      | inr x ↦
          let there : is_missing o a ≡ false = from a ∙ and_right (nat_le missing a) _ (le-ltb a 1600 x) in
          let long : length (take n w.bytes) ≡ n = length-take-le n w.bytes few in
          let none : kept_byte ms (front n w) a ≡ None
          = kept-outside ms (front n w) a (inr (elim c.before [ inl z ↦ omega (arith, z, long, last, x) | inr z ↦ let empty = z.0 in omega (arith, empty, long, low, x) ])) in
          let own : byte_from (behind 1600 m w) a ≡ byte_from w a
          = behind-byte m w 1600 a all x (elim c.after [ inl z ↦ inl (sym z) | inr z ↦ inr z ]) in
          ap (or_else (kept_byte ms (behind 1600 m w) a)) none
          ∙ (or_none (kept_byte ms (behind 1600 m w) a)
          ∙ (ap (λ (b : Option ℕ). if is_stored_at ms a then b else None) own ∙ sym (if_false _ _ _ there)))
    ]

-- the memory after the two parts is that after the whole
pub memory-around : (o : Option Hardware) (ms : List SyncManager) (w : Window) (missing n m : ℕ) (memory : List ℕ) → IsFrom o missing → IsCut w missing n m
    → memory_written None ms (behind 1600 m w) (memory_written None ms (front n w) memory) ≡ memory_written o ms w memory
memory-around o ms w missing n m memory from c =
    updated-twice 0 memory (kept_byte ms (front n w)) (kept_byte ms (behind 1600 m w))
    ∙ updated_alike 0 memory (λ i. or_else (kept_byte ms (behind 1600 m w) i) (kept_byte ms (front n w) i)) (taken_byte o ms w) (λ a l. byte-around o ms w missing n m a from c)

-- ---- whether one is written

any-zero : (p : ℕ → Bool) → any_below zero p ≡ false
any-zero p = sym (any-none p)

or_false : (b : Bool) → (b || false) ≡ b
or_false true = refl
or_false false = refl

-- those of a front, and those behind it
any-split : (i j : ℕ) (p : ℕ → Bool) → any_below (i + j) p ≡ (any_below i p || any_below j (λ k. p (i + k)))
any-split i zero p =
    let z : i + 0 ≡ i = omega arith in
    ap (λ (n : ℕ). any_below n p) z ∙ (sym (or_false (any_below i p)) ∙ ap (λ (b : Bool). any_below i p || b) (sym (any-zero (λ k. p (i + k)))))
any-split i (suc j) p =
    let z : i + suc j ≡ i + j + 1 = omega arith in
    let y : suc j ≡ j + 1 = omega arith in
    ap (λ (n : ℕ). any_below n p) z
    ∙ (any-at (i + j) p
    ∙ (ap (λ (b : Bool). if p (i + j) then true else b) (any-split i j p)
    ∙ (one-more (p (i + j)) (any_below i p) (any_below j (λ k. p (i + k)))
    ∙ ap (λ (b : Bool). any_below i p || b) (sym (ap (λ (n : ℕ). any_below n (λ k. p (i + k))) y ∙ any-at j (λ k. p (i + k)))))))
  where
    one-more : (x a b : Bool) → (if x then true else (a || b)) ≡ (a || (if x then true else b))
    one-more true true b = refl
    one-more true false b = refl
    one-more false a b = refl

-- a register of the whole takes its byte
abbrev takes : Option Hardware → Bool → ℕ → Bool
takes o busy a = if is_missing o a then false else takes_writes busy a

-- of registers alone
registers-some : (o : Option Hardware) (ms : List SyncManager) (busy : Bool) (w : Window) → w.from + length w.bytes ≤ ram_start
    → some_byte_written o ms busy w ≡ any_below (length w.bytes) (λ k. takes o busy (w.from + k))
registers-some o ms busy w h =
    any_below-alike (length w.bytes) _ _ (λ k l. ap (λ (b : Bool). if is_missing o (w.from + k) then false else b) (write-register ms busy (touches w) (w.from + k) (omega arith)))

-- none behind the bytes of a window
none-behind : (n len : ℕ) (p : ℕ → Bool) → n ≤ len → ((k : ℕ) → n ≤ k → k < len → p k ≡ false) → any_below n p ≡ any_below len p
none-behind n len p l h =
    let z : n + (len - n) ≡ len = omega (arith, l) in
    any-part (len - n) n p (any_below n p) refl (λ i a b. h i a (omega (arith, b, l))) ∙ ap (λ (m : ℕ). any_below m p) z

pub some-around : (o : Option Hardware) (ms : List SyncManager) (busy : Bool) (w : Window) (missing n m : ℕ) → IsFrom o missing → IsCut w missing n m
    → (some_byte_written None ms busy (front n w) || some_byte_written None ms busy (behind 1600 m w)) ≡ some_byte_written o ms busy w
some-around o ms busy w missing n m from c =
    let first = c.first in let last = c.last in let low = c.low in let high = c.high in let short = c.few in let all = c.inside in
    let p : ℕ → Bool = λ k. takes o busy (w.from + k) in
    let few : n ≤ length w.bytes = elim c.before [ inl x ↦ omega (arith, x, high) | inr x ↦ let z = x.0 in omega (arith, z) ] in
    let long : length (take n w.bytes) ≡ n = length-take-le n w.bytes few in
    let rest : length (drop m w.bytes) ≡ length w.bytes - m = length-drop m w.bytes in
    let before : some_byte_written None ms busy (front n w) ≡ any_below m p
    = registers-some None ms busy (front n w) (elim c.before [ inl x ↦ omega (arith, x, long, last) | inr x ↦ let z = x.0 in omega (arith, z, long, low) ])
    ∙ (ap (λ (k : ℕ). any_below k (λ i. takes_writes busy (w.from + i))) long
    ∙ (any_below-alike n _ _ (λ k l. sym (if_false _ _ _ (from (w.from + k) ∙ and_left _ _ (lt-leb missing (w.from + k) (elim c.before [ inl x ↦ omega (arith, x, l) | inr x ↦ let z = x.0 in omega (arith, z, l) ])))))
    ∙ none-behind n m p (elim c.after [ inl x ↦ elim c.before [ inl y ↦ omega (arith, x, y, last) | inr y ↦ let z = y.0 in omega (arith, z) ] | inr x ↦ let z = x.0 in omega (arith, z, few) ])
    (λ k a b. if_true _ _ _ (from (w.from + k)
    ∙ and_from _ _ (le-leb missing (w.from + k) (elim c.before [ inl x ↦ omega (arith, x, a) | inr x ↦ let z = x.1 in omega (arith, z) ]))
    (lt-ltb (w.from + k) 1600 (elim c.after [ inl x ↦ omega (arith, x, b) | inr x ↦ let z = x.1 in omega (arith, z, b) ])))))) in
    let after : some_byte_written None ms busy (behind 1600 m w) ≡ any_below (length w.bytes - m) (λ k. p (m + k))
    = registers-some None ms busy (behind 1600 m w) (omega (arith, rest, short))
    ∙ (ap (λ (k : ℕ). any_below k (λ i. takes_writes busy (1600 + i))) rest
    ∙ any_below-alike (length w.bytes - m) _ _ (λ k l.
    let at : 1600 + k ≡ w.from + (m + k) = elim c.after [ inl x ↦ omega (arith, x) | inr x ↦ let z = x.0 in absurd (omega (arith, z, l)) ] in
    ap (takes_writes busy) at ∙ sym (if_false _ _ _ (from (w.from + (m + k)) ∙ and_right (nat_le missing (w.from + (m + k))) _ (le-ltb (w.from + (m + k)) 1600 (omega (arith, at)))))))
    in
    let whole : m + (length w.bytes - m) ≡ length w.bytes = omega (arith, all) in
    ap (λ (b : Bool). b || some_byte_written None ms busy (behind 1600 m w)) before
    ∙ (ap (λ (b : Bool). any_below m p || b) after
    ∙ (sym (any-split m (length w.bytes - m) p)
    ∙ (ap (λ (k : ℕ). any_below k p) whole
    ∙ sym (registers-some o ms busy w (omega (arith, low, short))))))
