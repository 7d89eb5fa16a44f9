-- What a datagram sees of the managers, against what may be read.
use Rattle.std.proofs.Common.{ℕ, zero, suc, ◌+◌, ◌-◌, ◌*◌, ◌/◌, ◌%◌, ◌<◌, ◌≤◌, ◌≡◌, ◌==◌, ◌&&◌, Bool, true, false, Option, Some, None, refl, sym, ◌∙◌, ap, subst, inl, inr, arith, if◌then◌else◌, is_some, List, [], ◌∷◌, length, get_or, unwrap_or, option_and_then, option_map, slice_index}
use Rattle.std.specs.Int.{bit_at}
use Rattle.std.specs.List.{position_from}
use Rattle.std.proofs.lemmas.Bool.{cases_Bool, and_parts}
use Rattle.ec_bits.specs.Bits.{bit, overlay, any_below}
use Rattle.ec_bits.proofs.BitLaws.{overlay_alike}
use Rattle.ec_bits.proofs.AnyLaws.{any_below-alike, if_true, if_false, within_parts}
use Rattle.ec_regs.specs.declared.fmmu.FmmuSettings.{FmmuSettings}
use Rattle.ec_regs.specs.Managers.{is_set, span}
use Rattle.ec_sync.specs.SyncManager.{SyncManager, may_read}
use Rattle.ec_sync.specs.Governing.{governor, governs, covers}
use Rattle.ec_fmmu.specs.Sets.{target, readers}
use Rattle.ec_fmmu.specs.Applied.{LogicalSpan, read_updates, touched_by_reading}
use Rattle.ec_fmmu.proofs.PairLaws.{none_or_some}
use Rattle.ec_slave.specs.State.{manager_at}
use Rattle.ec_slave.specs.Managers.{reads_under, visible_under}
use Rattle.ec_slave.specs.Logical.{readable_bit, read_bit, some_read}
use Rattle.ec_slave.specs.ReadViews.{view_behind, view_under, view_bit}
use Rattle.ec_slave.proofs.Memory.AgainstAll.{position_from-below}

some-same : (k n : ℕ) → Some k ≡ Some n → k ≡ n
some-same k n e = cc

-- the manager that the search finds passes the test
passes : (t : SyncManager → Bool) (k : ℕ) (ms : List SyncManager) (n : ℕ) → position_from t k ms ≡ Some n → (i : ℕ) × (n ≡ k + i) × (t (manager_at ms i) ≡ true)
passes t k [] n e = absurd (let x : None ≡ Some n = e in cc)
passes t k (m ∷ ms) n e = elim (cases_Bool (t m)) [
  | inl h ↦
      let s : k ≡ n = some-same k n (sym (if_true (t m) (Some k) (position_from t (k + 1) ms) h) ∙ e) in
      (0, omega arith, h)
  | inr h ↦
      let r = passes t (k + 1) ms n (sym (if_false (t m) (Some k) (position_from t (k + 1) ms) h) ∙ e) in
      let at : n ≡ k + 1 + r.0 = r.1 in
      (suc r.0, omega arith, r.2)
]

-- a byte's governor begins at the byte or before it
-- the governor of a byte has it in its span
pub governor-has : (ms : List SyncManager) (a n : ℕ) → governor ms a ≡ Some n → governs (manager_at ms n) a ≡ true
governor-has ms a n e =
    let r = passes (λ m. governs m a) 0 ms n e in
    let at : n ≡ 0 + r.0 = r.1 in
    let same : r.0 ≡ n = omega arith in
    subst (λ (i : ℕ). governs (manager_at ms i) a ≡ true) same r.2

pub governor-start : (ms : List SyncManager) (a n : ℕ) → governor ms a ≡ Some n → (manager_at ms n).settings.start ≤ a
governor-start ms a n e =
    let g : governs (manager_at ms n) a ≡ true = governor-has ms a n e in
    let m : SyncManager = manager_at ms n in
    (within_parts m.settings.start (span m.settings) a (and_parts (is_set m.settings) _ g).1).0

pub governor-below : (ms : List SyncManager) (a n : ℕ) → governor ms a ≡ Some n → n < length ms
governor-below ms a n e =
    let b : n < 0 + length ms = position_from-below (λ m. governs m a) 0 ms n e in
    omega arith

-- a bit of the byte that lies there
pub bit-byte : (xs : List ℕ) (start q : ℕ) → start ≤ q / 8 → bit (slice_index xs (q / 8 - start) ∷ []) (q % 8) ≡ bit xs (q - 8 * start)
unfolding bit
bit-byte xs start q h =
    let zero_is : q % 8 / 8 ≡ 0 = omega arith in
    let twice : q % 8 % 8 ≡ q % 8 = omega arith in
    let byte : (q - 8 * start) / 8 ≡ q / 8 - start = omega arith in
    let rest : (q - 8 * start) % 8 ≡ q % 8 = omega arith in
    let left : (bit_at (slice_index (slice_index xs (q / 8 - start) ∷ []) (q % 8 / 8)) (q % 8 % 8) == 1) ≡ (bit_at (slice_index xs (q / 8 - start)) (q % 8) == 1)
    = ap (λ i. bit_at (slice_index (slice_index xs (q / 8 - start) ∷ []) i) (q % 8 % 8) == 1) zero_is
    ∙ ap (λ j. bit_at (slice_index xs (q / 8 - start)) j == 1) twice in
    let right : (bit_at (slice_index xs ((q - 8 * start) / 8)) ((q - 8 * start) % 8) == 1) ≡ (bit_at (slice_index xs (q / 8 - start)) (q % 8) == 1)
    = ap (λ i. bit_at (slice_index xs i) ((q - 8 * start) % 8) == 1) byte
    ∙ ap (λ j. bit_at (slice_index xs (q / 8 - start)) j == 1) rest in
    left ∙ sym right

-- the truth values say of each manager whether the datagram gets at it
pub record Readable (ms : List SyncManager) (fs : List FmmuSettings) (p : LogicalSpan) (readable : List Bool) : Type 0 where
  pub each : (n : ℕ) → n < length ms → get_or readable n false ≡ (covers (touched_by_reading fs p) (manager_at ms n) && may_read (manager_at ms n))

pub four : (ms : List SyncManager) (fs : List FmmuSettings) (p : LogicalSpan) (a b c d : Bool) → length ms ≡ 4
    → a ≡ (covers (touched_by_reading fs p) (manager_at ms 0) && may_read (manager_at ms 0))
    → b ≡ (covers (touched_by_reading fs p) (manager_at ms 1) && may_read (manager_at ms 1))
    → c ≡ (covers (touched_by_reading fs p) (manager_at ms 2) && may_read (manager_at ms 2))
    → d ≡ (covers (touched_by_reading fs p) (manager_at ms 3) && may_read (manager_at ms 3))
    → Readable ms fs p (a ∷ b ∷ c ∷ d ∷ [])
four ms fs p a b c d l ea eb ec ed = record { each = by_number }
  where
    by_number : (n : ℕ) → n < length ms → get_or (a ∷ b ∷ c ∷ d ∷ []) n false ≡ (covers (touched_by_reading fs p) (manager_at ms n) && may_read (manager_at ms n))
    by_number zero h = ea
    by_number (suc zero) h = eb
    by_number (suc (suc zero)) h = ec
    by_number (suc (suc (suc zero))) h = ed
    by_number (suc (suc (suc (suc n)))) h = absurd (omega arith)

abbrev told_under : List ℕ → List SyncManager → (ℕ → Bool) → ℕ → Option ℕ → Option Bool
told_under memory ms touched q o = if reads_under ms touched (q / 8) o then Some (visible_under memory ms q o) else None

pub seen-readable : (memory : List ℕ) (ms : List SyncManager) (readable : List Bool) (fs : List FmmuSettings) (p : LogicalSpan) (q : ℕ) → Readable ms fs p readable
    → view_bit memory ms readable q ≡ readable_bit memory ms fs p q
seen-readable memory ms readable fs p q r = elim (none_or_some (governor ms (q / 8))) [
  | inl none ↦ ap (view_under memory ms readable q) none ∙ sym (ap (told_under memory ms (touched_by_reading fs p) q) none)
  | inr some ↦
      let n : ℕ = some.0 in
      let g : governor ms (q / 8) ≡ Some n = some.1 in
      ap (view_under memory ms readable q) g
      ∙ (ap (λ b. view_behind (manager_at ms n) b q) (r.each n (governor-below ms (q / 8) n g))
      ∙ sym (ap (told_under memory ms (touched_by_reading fs p) q) g))
]

pub and_then-alike : (f g : ℕ → Option Bool) (o : Option ℕ) → ((q : ℕ) → f q ≡ g q) → option_and_then f o ≡ option_and_then g o
and_then-alike f g None h = refl
and_then-alike f g (Some q) h = h q

told-read : (memory : List ℕ) (ms : List SyncManager) (readable : List Bool) (fs : List FmmuSettings) (p : LogicalSpan) (i : ℕ) → Readable ms fs p readable
    → read_updates fs (view_bit memory ms readable) p.from i ≡ read_bit memory ms fs p i
told-read memory ms readable fs p i r =
    and_then-alike (view_bit memory ms readable) (readable_bit memory ms fs p) (target (readers fs) (p.from + i)) (λ q. seen-readable memory ms readable fs p q r)

pub overlay-read : (bytes memory : List ℕ) (ms : List SyncManager) (readable : List Bool) (fs : List FmmuSettings) (p : LogicalSpan) → Readable ms fs p readable
    → overlay bytes (read_updates fs (view_bit memory ms readable) p.from) ≡ overlay bytes (read_bit memory ms fs p)
overlay-read bytes memory ms readable fs p r =
    overlay_alike bytes _ _ (λ i l. ap (λ o. unwrap_or o (bit bytes i)) (told-read memory ms readable fs p i r))

pub any-read : (memory : List ℕ) (ms : List SyncManager) (readable : List Bool) (fs : List FmmuSettings) (p : LogicalSpan) → Readable ms fs p readable
    → any_below p.bits (λ i. is_some (read_updates fs (view_bit memory ms readable) p.from i)) ≡ some_read memory ms fs p
any-read memory ms readable fs p r =
    any_below-alike p.bits _ _ (λ i l. ap is_some (told-read memory ms readable fs p i r))

-- ---- writing

-- whether a plain bit is overwritten does not rest on the data
pub is_some-plain : (b : Bool) (bytes : List ℕ) (o : Option ℕ) → is_some (if b then option_map (bit bytes) o else None) ≡ (b && is_some o)
is_some-plain true bytes None = refl
is_some-plain true bytes (Some i) = refl
is_some-plain false bytes o = refl
