-- What an application reads and writes as a whole.
use Rattle.std.proofs.Common.{ℕ, zero, suc, ◌+◌, ◌*◌, ◌%◌, ◌<◌, ◌≤◌, ◌≡◌, ◌==◌, ◌&&◌, ◌||◌, List, [], length, take, Bool, true, false, if◌then◌else◌, nat_lt, nat_le, refl, sym, ◌∙◌, ap, arith}
use Rattle.std.proofs.lemmas.Bool.{ne_eqb, eqb-true, leb-true}
use Rattle.std.proofs.lemmas.List.{take_all}
use Rattle.ec_bits.proofs.AnyLaws.{if_true, if_false}
use Rattle.ec_regs.specs.declared.manager.SyncManagerSettings.{SyncManagerSettings}
use Rattle.ec_regs.specs.Managers.{is_set, is_mailbox, is_buffered, is_master_read, is_master_written, span}
use Rattle.ec_sync.specs.SyncManager.{SyncManager, is_enabled, may_app_get, may_app_put}
use Rattle.ec_slave.specs.State.{SlaveState, manager_at}
use Rattle.ec_slave.specs.Sound.{IsSlave}
use Rattle.ec_slave.specs.Application.{get_size, put_size, is_running, with_manager, inputs_put, outputs_shown, outputs_taken}
use Rattle.ec_slave.specs.Interface.{view_closed, inputs_published, ApplicationsGoWhole, FewInputs}
use Rattle.ec_slave.proofs.AppAccess.WholeInputs.{all_put, both_true, long_as, none_put, sized}
use Rattle.ec_slave.proofs.AppAccess.WholeOutputs.{all_taken, none_taken}

-- ---- how many bytes there are at most

small-if : (b : Bool) (x : ℕ) → (b ≡ true → x ≤ 2730) → (if b then x else 0) ≤ 2730
small-if true x h = h refl
small-if false x h = omega arith

-- a buffered manager has three lengths in the RAM
few-set : (m : SyncManagerSettings) → is_set m ≡ true → is_buffered m ≡ true → m.length ≤ 2730
unfolding is_set
few-set m set buffered =
    let a = both_true (m.activate % 2 == 1) _ set in
    let b = both_true (is_mailbox m || is_buffered m) _ a.1 in
    let c = both_true (is_master_written m || is_master_read m) _ b.1 in
    let d = both_true (nat_lt 0 m.length) _ c.1 in
    let e = both_true (nat_le 0x1000 m.start) _ d.1 in
    let low = leb-true 0x1000 m.start e.0 in
    let high = leb-true (m.start + span m) 0x3000 e.1 in
    let mode : m.control % 4 ≡ 0 = eqb-true (m.control % 4) 0 buffered in
    let other : is_mailbox m ≡ false = ap (λ (x : ℕ). x == 2) mode in
    let three : span m ≡ 3 * m.length = if_false _ _ _ other in
    omega (arith, low, high, three)

put-enabled : (m : SyncManager) → may_app_put m ≡ true → (is_set m.settings ≡ true) × (is_buffered m.settings ≡ true)
put-enabled m e =
    let a = both_true (is_enabled m) _ e in
    ((both_true (is_set m.settings) _ a.0).0, (both_true (is_buffered m.settings) _ a.1).0)

pub few_inputs : FewInputs
few_inputs s =
    let m : SyncManager = manager_at s.managers 3 in
    small-if (is_running s.al.state && may_app_put m) m.settings.length
    (λ e. let k = put-enabled m (both_true (is_running s.al.state) _ e).1 in few-set m.settings k.0 k.1)

some : (n : ℕ) → (suc n == 0) ≡ false
some n = ne_eqb (suc n) 0 (λ z. omega (arith, z))

-- ---- reading

get-enabled : (m : SyncManager) → may_app_get m ≡ true → (is_set m.settings ≡ true) × (is_buffered m.settings ≡ true)
get-enabled m e =
    let a = both_true (is_enabled m) _ e in
    ((both_true (is_set m.settings) _ a.0).0, (both_true (is_buffered m.settings) _ a.1).0)

-- so many bytes are all that is shown
whole-visible : (s : SlaveState) (n : ℕ) → IsSlave s → n ≡ get_size s → 0 < n → take n (outputs_shown s) ≡ (manager_at s.managers 2).buffer.published
whole-visible s n good e l =
    let m : SyncManager = manager_at s.managers 2 in
    let k = sized (is_running s.al.state && may_app_get m) m.settings.length n e l in
    let set = get-enabled m (both_true (is_running s.al.state) _ k.0).1 in
    let both_set : (is_set m.settings && is_buffered m.settings) ≡ true = rw (set.0, set.1) refl in
    let visible : outputs_shown s ≡ m.buffer.published = if_true _ _ _ both_set in
    let whole = long_as m n (good.each_manager 2) set.0 set.1 k.1 in
    ap (take n) visible ∙ take_all n m.buffer.published (omega (arith, whole))

seen-by : (s : SlaveState) (n : ℕ) → IsSlave s → n ≡ get_size s → take n (outputs_shown s) ≡ (if n == 0 then [] else (manager_at s.managers 2).buffer.published)
seen-by s zero good e = refl
seen-by s (suc n) good e = whole-visible s (suc n) good e (omega arith) ∙ sym (if_false _ _ _ (some n))

taken-by : (s : SlaveState) (n : ℕ) → IsSlave s → n ≡ get_size s → outputs_taken s (get_size s) ≡ (if n == 0 then s else with_manager s 2 (view_closed (manager_at s.managers 2)))
taken-by s zero good e = none_taken s (get_size s) (sym e)
taken-by s (suc n) good e = all_taken s good (omega (arith, e)) ∙ sym (if_false _ _ _ (some n))

-- ---- writing

put-by : (s : SlaveState) (inputs : List ℕ) (n : ℕ) → IsSlave s → n ≡ length inputs → length inputs ≡ put_size s
    → inputs_put s inputs (length inputs) ≡ (if n == 0 then s else with_manager s 3 (inputs_published (manager_at s.managers 3) inputs))
put-by s inputs zero good is e = none_put s inputs (sym is)
put-by s inputs (suc n) good is e = all_put s inputs good e (omega (arith, is)) ∙ sym (if_false _ _ _ (some n))

pub go_whole : ApplicationsGoWhole
go_whole s good = record {
  seen = seen-by s (get_size s) good refl;
  taken = taken-by s (get_size s) good refl;
  put = λ inputs e.
      put-by s inputs (length inputs) good refl e
      ∙ ap (λ (n : ℕ). if n == 0 then s else with_manager s 3 (inputs_published (manager_at s.managers 3) inputs)) e;
}
