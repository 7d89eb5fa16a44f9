-- A value of which each bit is overwritten doesn't depend on what it held, and whether a datagram writes a manager.
use Rattle.std.proofs.Common.{ℕ, ◌+◌, ◌-◌, ◌*◌, ◌/◌, ◌%◌, ◌<◌, ◌≡◌, ◌&&◌, ◌||◌, [], ◌∷◌, ◌++◌, take, drop, append_assoc, ap₂, Bool, true, false, Option, Some, None, is_some, is_none, unwrap_or, option_map, refl, sym, ◌∙◌, ap, arith, List, length, get_or}
use Rattle.std.proofs.lemmas.Bool.{and_parts, and_from}
use Rattle.std.proofs.lemmas.List.{take_more, length-take-le, length-replicate}
use Rattle.ec_bits.specs.Bits.{bit, any_below, copied, run_updates, within, zeros}
use Rattle.ec_bits.proofs.AnyLaws.{any_below_from, any_below_some, if_true, within_true}
use Rattle.ec_bits.proofs.BitLaws.{overlay_alike}
use Rattle.ec_regs.specs.declared.fmmu.FmmuSettings.{FmmuSettings}
use Rattle.ec_sync.specs.SyncManager.{SyncManager, may_write}
use Rattle.ec_sync.specs.Governing.{covers, governor}
use Rattle.ec_fmmu.specs.Applied.{LogicalSpan, touched_by_writing, data_bit_for}
use Rattle.ec_slave.specs.Managers.{is_ungoverned, is_written_by}
use Rattle.ec_slave.specs.Logical.{brought, logical_managers, logical_value, plain_bit}
use Rattle.ec_slave.specs.Written.{some_brought}
use Rattle.ec_slave.proofs.LogicalAccess.ExchangedFrom.{one_written, exchanged_from, written_from, written_from-next, take_front, drop_front}
use Rattle.ec_slave.proofs.LogicalAccess.SomeWritten.{same_truth, if-some}

-- ---- one manager

some-mapped : (bytes : List ℕ) (o : Option ℕ) → is_some (option_map (bit bytes) o) ≡ is_some o
some-mapped bytes None = refl
some-mapped bytes (Some n) = refl

plain-some : (lower : List SyncManager) (fs : List FmmuSettings) (p : LogicalSpan) (bytes : List ℕ) (q : ℕ) → is_ungoverned lower (q / 8) ≡ true → is_some (data_bit_for fs p q) ≡ true
    → is_some (plain_bit lower fs p bytes q) ≡ true
plain-some lower fs p bytes q u s = ap is_some (if_true (is_ungoverned lower (q / 8)) (brought fs p bytes q) None u) ∙ (some-mapped bytes (data_bit_for fs p q) ∙ s)

brought-own : (lower : List SyncManager) (fs : List FmmuSettings) (p : LogicalSpan) (bytes : List ℕ) (start len : ℕ)
    → any_below len (λ k. touched_by_writing fs p (start + k) && is_ungoverned lower (start + k)) ≡ true → some_brought lower fs p bytes start len ≡ true
brought-own lower fs p bytes start len h =
    let r = any_below_some len (λ k. touched_by_writing fs p (start + k) && is_ungoverned lower (start + k)) h in
    let parts = and_parts (touched_by_writing fs p (start + r.0)) (is_ungoverned lower (start + r.0)) r.2 in
    let t = any_below_some 8 (λ j. is_some (data_bit_for fs p (8 * (start + r.0) + j))) parts.0 in
    let k : ℕ = 8 * r.0 + t.0 in
    let q : ℕ = 8 * start + k in
    let inside : k < 8 * len = let a = r.1 in let b = t.1 in omega (arith, a, b) in
    let at : q ≡ 8 * (start + r.0) + t.0 = omega arith in
    let byte : q / 8 ≡ start + r.0 = let b = t.1 in omega (arith, b) in
    any_below_from (8 * len) (λ i. is_some (plain_bit lower fs p bytes (8 * start + i))) k inside
    (plain-some lower fs p bytes q (ap (is_ungoverned lower) byte ∙ parts.1) (ap (λ (n : ℕ). is_some (data_bit_for fs p n)) at ∙ t.2))

own-brought : (lower : List SyncManager) (fs : List FmmuSettings) (p : LogicalSpan) (bytes : List ℕ) (start len : ℕ) → some_brought lower fs p bytes start len ≡ true
    → any_below len (λ k. touched_by_writing fs p (start + k) && is_ungoverned lower (start + k)) ≡ true
own-brought lower fs p bytes start len h =
    let r = any_below_some (8 * len) (λ i. is_some (plain_bit lower fs p bytes (8 * start + i))) h in
    let i : ℕ = r.0 in
    let q : ℕ = 8 * start + i in
    let parts = if-some (is_none (governor lower (q / 8))) (brought fs p bytes q) r.2 in
    let inside : i / 8 < len = let a = r.1 in omega (arith, a) in
    let byte : q / 8 ≡ start + i / 8 = omega arith in
    let at : q ≡ 8 * (start + i / 8) + i % 8 = omega arith in
    let bit_there : is_some (data_bit_for fs p (8 * (start + i / 8) + i % 8)) ≡ true
    = ap (λ (n : ℕ). is_some (data_bit_for fs p n)) (sym at) ∙ (sym (some-mapped bytes (data_bit_for fs p q)) ∙ parts.1) in
    let touched : touched_by_writing fs p (start + i / 8) ≡ true = any_below_from 8 (λ j. is_some (data_bit_for fs p (8 * (start + i / 8) + j))) (i % 8) (omega arith) bit_there in
    let own : is_ungoverned lower (start + i / 8) ≡ true = ap (is_ungoverned lower) (sym byte) ∙ parts.0 in
    any_below_from len (λ k. touched_by_writing fs p (start + k) && is_ungoverned lower (start + k)) (i / 8) inside (and_from _ _ touched own)

-- a datagram that writes gets at a manager exactly where it brings it a bit outside the bytes that lower ones govern
pub written_by-is : (lower : List SyncManager) (fs : List FmmuSettings) (p : LogicalSpan) (bytes : List ℕ) (m : SyncManager)
    → is_written_by (touched_by_writing fs p) (is_ungoverned lower) m ≡ one_written lower fs p bytes m
written_by-is lower fs p bytes m = same_truth _ _
    (λ h.
    let a = and_parts (may_write m) _ h in
    let b = and_parts (covers (touched_by_writing fs p) m) _ a.1 in
    and_from _ _ b.0 (and_from _ _ a.0 (brought-own lower fs p bytes m.settings.start m.settings.length b.1)))
    (λ h.
    let a = and_parts (covers (touched_by_writing fs p) m) _ h in
    let b = and_parts (may_write m) _ a.1 in
    and_from _ _ b.0 (and_from _ _ a.0 (own-brought lower fs p bytes m.settings.start m.settings.length b.1)))

-- a bit that is brought outside the bytes that lower ones govern is touched
plain-touched : (lower : List SyncManager) (fs : List FmmuSettings) (p : LogicalSpan) (bytes : List ℕ) (q a : ℕ) → q / 8 ≡ a → is_some (plain_bit lower fs p bytes q) ≡ true → touched_by_writing fs p a ≡ true
plain-touched lower fs p bytes q a e h =
    let parts = if-some (is_none (governor lower (q / 8))) (brought fs p bytes q) h in
    let at : q ≡ 8 * a + q % 8 = omega arith in
    let bit_there : is_some (data_bit_for fs p (8 * a + q % 8)) ≡ true
    = ap (λ (n : ℕ). is_some (data_bit_for fs p n)) (sym at) ∙ (sym (some-mapped bytes (data_bit_for fs p q)) ∙ parts.1) in
    any_below_from 8 (λ j. is_some (data_bit_for fs p (8 * a + j))) (q % 8) (omega arith) bit_there

-- a manager that may be written and to all of whose value bits are brought is written
pub wholly-written : (lower : List SyncManager) (fs : List FmmuSettings) (p : LogicalSpan) (bytes : List ℕ) (m : SyncManager) → may_write m ≡ true → 0 < m.settings.length
    → ((k : ℕ) → k < 8 * m.settings.length → is_some (plain_bit lower fs p bytes (8 * m.settings.start + k)) ≡ true)
    → is_written_by (touched_by_writing fs p) (is_ungoverned lower) m ≡ true
wholly-written lower fs p bytes m may some h =
    let start : ℕ = m.settings.start in
    let len : ℕ = m.settings.length in
    let first : touched_by_writing fs p start ≡ true = plain-touched lower fs p bytes (8 * start + 0) start (omega arith) (h 0 (omega arith)) in
    let last : touched_by_writing fs p (start + len - 1) ≡ true = plain-touched lower fs p bytes (8 * start + 8 * (len - 1)) (start + len - 1) (omega arith) (h (8 * (len - 1)) (omega arith)) in
    let brought : some_brought lower fs p bytes start len ≡ true = any_below_from (8 * len) (λ k. is_some (plain_bit lower fs p bytes (8 * start + k))) 0 (omega arith) (h 0 (omega arith)) in
    written_by-is lower fs p bytes m ∙ and_from _ _ (and_from _ _ first last) (and_from _ _ may brought)

-- and its value is one copy
pub wholly-copied : (lower : List SyncManager) (fs : List FmmuSettings) (p : LogicalSpan) (bytes : List ℕ) (start len at : ℕ)
    → ((k : ℕ) → k < 8 * len → plain_bit lower fs p bytes (8 * start + k) ≡ Some (bit bytes (at + k)))
    → copied (zeros len) 0 bytes at (8 * len) ≡ logical_value lower fs p bytes start len
wholly-copied lower fs p bytes start len at h =
    let n : length (zeros len) ≡ len = length-replicate len 0 in
    overlay_alike (zeros len) (run_updates 0 bytes at (8 * len)) (λ k. plain_bit lower fs p bytes (8 * start + k)) (λ k l.
    let i : k < 8 * len = omega (arith, l, n) in
    let o : k - 0 ≡ k = omega arith in
    ap (λ (x : Option Bool). unwrap_or x (bit (zeros len) k))
    (if_true (within 0 (8 * len) k) (Some (bit bytes (at + (k - 0)))) None (within_true 0 (8 * len) k (omega arith) (omega (arith, i)))
    ∙ (ap (λ (x : ℕ). Some (bit bytes (at + x))) o ∙ sym (h k i))))

-- ---- from the last manager to the first

and-nothing : (w : Bool) → false ≡ (w && false)
and-nothing true = refl
and-nothing false = refl

pub written_from-end : (ms : List SyncManager) (writing : Bool) (fs : List FmmuSettings) (p : LogicalSpan) (bytes : List ℕ) → length ms ≡ 4
    → false ≡ (writing && written_from ms fs p bytes 4)
written_from-end [] writing fs p bytes e = absurd (omega arith)
written_from-end (a ∷ []) writing fs p bytes e = absurd (omega arith)
written_from-end (a ∷ b ∷ []) writing fs p bytes e = absurd (omega arith)
written_from-end (a ∷ b ∷ c ∷ []) writing fs p bytes e = absurd (omega arith)
written_from-end (a ∷ b ∷ c ∷ d ∷ []) writing fs p bytes e = and-nothing writing
written_from-end (a ∷ b ∷ c ∷ d ∷ x ∷ xs) writing fs p bytes e = absurd (omega arith)

either-way : (w a o : Bool) → ((w && a) || (w && o)) ≡ (w && (o || a))
either-way true true true = refl
either-way true true false = refl
either-way true false true = refl
either-way true false false = refl
either-way false a o = refl

-- one more, number n
pub written_from-step : (ms before : List SyncManager) (reading writing : Bool) (fs : List FmmuSettings) (p : LogicalSpan) (bytes : List ℕ) (n : ℕ) (d : SyncManager) (a b : Bool)
    → n < length ms → before ≡ exchanged_from ms reading writing fs p bytes (n + 1)
    → a ≡ (writing && written_from ms fs p bytes (n + 1))
    → b ≡ (writing && is_written_by (touched_by_writing fs p) (is_ungoverned (take n before)) (get_or (drop n before) 0 d))
    → (a || b) ≡ (writing && written_from ms fs p bytes n)
written_from-step ms before reading writing fs p bytes n d a b l was ha hb =
    let A : List SyncManager = take n ms in
    let m : SyncManager = get_or ms n d in
    let R : List SyncManager = logical_managers (A ++ m ∷ []) reading writing fs p bytes (drop (n + 1) ms) in
    let eA : length A ≡ n = length-take-le n ms (omega arith) in
    let eT : take (n + 1) ms ≡ A ++ m ∷ [] = take_more ms n d l in
    let eB : before ≡ A ++ m ∷ R = was ∙ (ap (λ t. t ++ logical_managers t reading writing fs p bytes (drop (n + 1) ms)) eT ∙ append_assoc A (m ∷ []) R) in
    let tB : take n before ≡ A = ap (take n) eB ∙ take_front A (m ∷ R) n eA in
    let dB : drop n before ≡ m ∷ R = ap (drop n) eB ∙ drop_front A (m ∷ R) n eA in
    let by = λ (t : List SyncManager) (x : SyncManager). writing && is_written_by (touched_by_writing fs p) (is_ungoverned t) x in
    let one : b ≡ (writing && one_written A fs p bytes m)
    = hb ∙ (ap (λ (t : List SyncManager). by t (get_or (drop n before) 0 d)) tB
    ∙ (ap (λ (t : List SyncManager). by A (get_or t 0 d)) dB ∙ ap (λ (z : Bool). writing && z) (written_by-is A fs p bytes m))) in
    ap₂ (λ (x y : Bool). x || y) ha one
    ∙ (either-way writing (written_from ms fs p bytes (n + 1)) (one_written A fs p bytes m)
    ∙ ap (λ (z : Bool). writing && z) (sym (written_from-next ms fs p bytes n d l)))
