-- What the bytes of an application's outputs come to, read one after the other.
use Rattle.std.proofs.Common.{ℕ, zero, suc, ◌+◌, ◌<◌, ◌≤◌, ◌≡◌, ◌==◌, ◌&&◌, List, length, true, if◌then◌else◌, Option, Some, None, refl, sym, ◌∙◌, ap, subst, add-one, arith}
use Rattle.std.proofs.lemmas.Bool.{eq-eqb, ne_eqb, lt-ltb}
use Rattle.ec_bits.proofs.AnyLaws.{if_true, if_false}
use Rattle.ec_regs.specs.Managers.{is_set, is_buffered}
use Rattle.ec_sync.specs.Buffer.{app_read, view_next}
use Rattle.ec_sync.specs.SyncManager.{SyncManager, is_enabled, may_app_get, app_got, after_get}
use Rattle.ec_slave.specs.State.{SlaveState, manager_at}
use Rattle.ec_slave.specs.Sound.{IsSlave}
use Rattle.ec_slave.specs.Application.{get_size, is_running, with_manager, output_got, output_taken, outputs_taken}
use Rattle.ec_slave.proofs.AppAccess.Bytes.{got_after}
use Rattle.ec_slave.proofs.AppAccess.WholeInputs.{both_true, long_as, own_manager, sized, with_twice}

get-enabled : (m : SyncManager) → may_app_get m ≡ true → (is_set m.settings ≡ true) × (is_buffered m.settings ≡ true)
get-enabled m e =
    let a = both_true (is_enabled m) _ e in
    ((both_true (is_set m.settings) _ a.0).0, (both_true (is_buffered m.settings) _ a.1).0)

-- there are so many bytes of outputs
record MayRead (s : SlaveState) (n : ℕ) : Type 0 where
  running : is_running s.al.state ≡ true
  may : may_app_get (manager_at s.managers 2) ≡ true
  whole : length (manager_at s.managers 2).buffer.published ≡ n
  there : 2 < length s.managers

may-read : (s : SlaveState) (n : ℕ) → IsSlave s → n ≡ get_size s → 0 < n → MayRead s n
may-read s n good e l =
    let m : SyncManager = manager_at s.managers 2 in
    let k = sized (is_running s.al.state && may_app_get m) m.settings.length n e l in
    let r = both_true (is_running s.al.state) _ k.0 in
    let set = get-enabled m r.1 in
    let four = good.managers in
    record {
      running = r.0;
      may = r.1;
      whole = long_as m n (good.each_manager 2) set.0 set.1 k.1;
      there = omega (arith, four);
    }

-- a byte of an open view; the last one closes it
got-opened : (m : SyncManager) (i : ℕ) (v : List ℕ) → may_app_get m ≡ true → i < length m.buffer.published → (if i == 0 then Some m.buffer.published else m.buffer.view) ≡ Some v
    → after_get m (app_got m i) ≡ record m { buffer = record m.buffer { view = if i + 1 == length m.buffer.published then None else Some v } }
unfolding app_read
got-opened m i v may l is_open =
    ap (after_get m) (if_true _ _ _ may ∙ (if_true _ _ _ (lt-ltb i (length m.buffer.published) l) ∙ ap (view_next m.buffer i) is_open))

abbrev pub with_view : SyncManager → Option (List ℕ) → SyncManager
with_view m o = record m { buffer = record m.buffer { view = o } }

-- the view after n bytes: the last one closes it
abbrev view_after : SyncManager → ℕ → Option (List ℕ)
view_after m n = if n == length m.buffer.published then None else Some m.buffer.published

-- a slave whose application read so many bytes of its outputs
record IsReading (s : SlaveState) (n : ℕ) (t : SlaveState) : Type 0 where
  none : n ≡ 0 → t ≡ s
  some : 0 < n → t ≡ with_manager s 2 (with_view (manager_at s.managers 2) (view_after (manager_at s.managers 2) n))

first-read : (s : SlaveState) (size : ℕ) → MayRead s size → 0 < size → output_taken s (output_got s 0) ≡ with_manager s 2 (with_view (manager_at s.managers 2) (view_after (manager_at s.managers 2) 1))
first-read s size k l =
    let m : SyncManager = manager_at s.managers 2 in
    let whole = k.whole in
    sym (got_after s 0 (with_view m (view_after m 1)) k.running (sym (got-opened m 0 m.buffer.published k.may (omega (arith, whole, l)) refl)))

later-read : (s t : SlaveState) (size j : ℕ) → MayRead s size → suc j < size → t ≡ with_manager s 2 (with_view (manager_at s.managers 2) (view_after (manager_at s.managers 2) (suc j)))
    → output_taken t (output_got t (suc j)) ≡ with_manager s 2 (with_view (manager_at s.managers 2) (view_after (manager_at s.managers 2) (suc j + 1)))
later-read s t size j k l is_t =
    let i : ℕ = suc j in
    let m : SyncManager = manager_at s.managers 2 in
    let whole = k.whole in
    let n : SyncManager = with_view m (Some m.buffer.published) in
    let t0 : SlaveState = with_manager s 2 n in
    let open_still : view_after m i ≡ Some m.buffer.published = if_false _ _ _ (ne_eqb i (length m.buffer.published) (λ z. omega (arith, z, whole, l))) in
    let is_t0 : t ≡ t0 = is_t ∙ ap (λ (o : Option (List ℕ)). with_manager s 2 (with_view m o)) open_still in
    let at : manager_at t0.managers 2 ≡ n = own_manager s 2 n k.there in
    let after : SyncManager = with_view m (view_after m (i + 1)) in
    let there : (if i == 0 then Some n.buffer.published else n.buffer.view) ≡ Some m.buffer.published = if_false _ _ _ (ne_eqb i 0 (λ z. omega (arith, z))) in
    let made : after ≡ after_get n (app_got n i) = sym (got-opened n i m.buffer.published k.may (omega (arith, whole, l)) there) in
    let made_at : after ≡ after_get (manager_at t0.managers 2) (app_got (manager_at t0.managers 2) i) = subst (λ (y : SyncManager). after ≡ after_get y (app_got y i)) (sym at) made in
    ap (λ (y : SlaveState). output_taken y (output_got y i)) is_t0
    ∙ (sym (got_after t0 i after k.running made_at) ∙ with_twice s 2 n after)

-- the first n bytes
below : (s : SlaveState) (n : ℕ) → IsSlave s → n ≤ get_size s → IsReading s n (outputs_taken s n)
unfolding outputs_taken
below s zero good l = record { none = λ z. refl; some = λ p. absurd (omega (arith, p)) }
below s (suc zero) good l =
    let k = may-read s (get_size s) good refl (omega (arith, l)) in
    record { none = λ z. absurd (omega (arith, z)); some = λ p. first-read s (get_size s) k (omega (arith, l)) }
below s (suc (suc j)) good l =
    let k = may-read s (get_size s) good refl (omega (arith, l)) in
    let before = below s (suc j) good (omega (arith, l)) in
    record {
      none = λ z. absurd (omega (arith, z));
      some = λ p. later-read s (outputs_taken s (suc j)) (get_size s) j k (omega (arith, l)) (before.some (omega arith))
          ∙ ap (λ (n : ℕ). with_manager s 2 (with_view (manager_at s.managers 2) (view_after (manager_at s.managers 2) n))) (add-one (suc j));
    }

-- all bytes of the outputs, one after the other, close the view
pub all_taken : (s : SlaveState) → IsSlave s → 0 < get_size s → outputs_taken s (get_size s) ≡ with_manager s 2 (with_view (manager_at s.managers 2) None)
all_taken s good l =
    let k = may-read s (get_size s) good refl l in
    (below s (get_size s) good (omega arith)).some l
    ∙ ap (λ (o : Option (List ℕ)). with_manager s 2 (with_view (manager_at s.managers 2) o)) (if_true _ _ _ (eq-eqb (get_size s) (length (manager_at s.managers 2).buffer.published) (sym k.whole)))

-- a slave without outputs stays
pub none_taken : (s : SlaveState) (n : ℕ) → n ≡ 0 → outputs_taken s n ≡ s
unfolding outputs_taken
none_taken s n e = ap (outputs_taken s) e
