-- What is read of a manager is what its run shows.
use Rattle.std.proofs.Common.{ℕ, zero, suc, ◌+◌, ◌-◌, ◌*◌, ◌/◌, ◌≡◌, ◌≤◌, ◌&&◌, ◌||◌, Bool, true, false, Option, Some, None, option_map, refl, sym, ◌∙◌, ap, subst, inl, inr, if◌then◌else◌, List, [], ◌∷◌, ◌++◌}
use Rattle.std.specs.Prelude.{nat_lt, slice_index, option_and_then}
use Rattle.std.proofs.lemmas.Bool.{cases_Bool, le-ltb}
use Rattle.ec_bits.specs.Bits.{bit}
use Rattle.ec_bits.proofs.AnyLaws.{if_true, if_false}
use Rattle.ec_device.specs.declared.slave_type.Identity.{Identity}
use Rattle.ec_regs.specs.Memory.{ram_start, ram_end}
use Rattle.ec_device.specs.Types.{SlaveKind}
use Rattle.ec_sync.specs.Buffer.{Got}
use Rattle.ec_sync.specs.SyncManager.{SyncManager, no_manager, may_read, visible, app_got}
use Rattle.ec_sync.specs.Governing.{covers, governor, in_first_buffer}
use Rattle.ec_sync.specs.Runs.{Operation, RingRead, AppGet, run, visible_to, viewed}
use Rattle.ec_sync.proofs.WholeValues.{whole_values, view_bytes}
use Rattle.ec_fmmu.specs.Sets.{target, readers}
use Rattle.ec_fmmu.specs.Applied.{LogicalSpan, touched_by_reading}
use Rattle.ec_slave.specs.State.{SlaveState, manager_at, fmmus, power_on}
use Rattle.ec_slave.specs.Managers.{reads_under, visible_under}
use Rattle.ec_slave.specs.Physical.{Window, touches, byte_read, byte_at, ram_byte, may_read_byte}
use Rattle.ec_slave.specs.Logical.{readable_bit, read_bit}
use Rattle.ec_slave.specs.Application.{is_running, output_got}
use Rattle.ec_slave.specs.Steps.{IsRunTo, Happening, Meets, Serves, Faults, Puts, Gets, Resets, after_one, steps_at, is_of_ring, is_of_firmware, is_of_application}
use Rattle.ec_slave.specs.Showing.{IsShown, as_read, ReadsShowTheRun, after_all, steps_behind, steps_since, ShowsWholeValues, SlavesShowWholeValues}
use Rattle.ec_slave.proofs.Always.ManagersGoByRuns.{managers_go_by_runs, run-append}
use Rattle.ec_slave.proofs.AppAccess.WholeInputs.{both_true}

some_same : {X : Type 0} (x y : X) → Some x ≡ Some y → x ≡ y
some_same x y e = cc

or_rest : (a b : Bool) → a ≡ false → (a || b) ≡ true → b ≡ true
or_rest false b f e = e
or_rest true b f e = absurd (let g : true ≡ false = f in cc)

-- ---- what a read brings

-- a read that is granted is shown what the manager shows
granted : (m : SyncManager) (covered : Bool) → (covered && may_read m) ≡ true → visible_to m (RingRead covered) ≡ Some (visible m)
granted m covered e = if_true _ _ _ e

byte_visible : (s : SlaveState) (joining : Bool) (w : Window) (k n x : ℕ) → ram_start ≤ w.from + k → governor s.managers (w.from + k) ≡ Some n
    → byte_read s joining w k ≡ Some x
    → IsShown (manager_at s.managers n) (RingRead (covers (touches w) (manager_at s.managers n)))
    (λ value. as_read joining (slice_index w.bytes k) (slice_index value (w.from + k - (manager_at s.managers n).settings.start))) x
unfolding may_read_byte byte_at
byte_visible s joining w k n x l g e =
    let a : ℕ = w.from + k in
    let ms = s.managers in
    let m = manager_at ms n in
    let low : nat_lt a ram_start ≡ false = le-ltb a ram_start l in
    let read : ℕ = as_read joining (slice_index w.bytes k) (byte_at s a) in
    elim (cases_Bool (may_read_byte ms (touches w) a)) [
      | inl t ↦
          let value : read ≡ x = some_same _ _ (sym (if_true _ (Some read) None t) ∙ e) in
          let rest : (nat_lt a ram_end && reads_under ms (touches w) a (governor ms a)) ≡ true = or_rest (nat_lt a ram_start) _ low t in
          let under : reads_under ms (touches w) a (Some n) ≡ true = subst (λ (o : Option ℕ). reads_under ms (touches w) a o ≡ true) g (both_true (nat_lt a ram_end) _ rest).1 in
          record {
            value = visible m;
            visible = granted m (covers (touches w) m) (both_true (in_first_buffer m a) _ under).1;
            found = sym value ∙ ap (as_read joining (slice_index w.bytes k)) (if_false _ _ _ low ∙ ap (λ (o : Option ℕ). ram_byte s.memory ms a o) g);
          }
      | inr f ↦ absurd (let none : None ≡ Some x = sym (if_false _ (Some read) None f) ∙ e in cc)
    ]

bit_shown : (s : SlaveState) (p : LogicalSpan) (i q n : ℕ) (x : Bool) → target (readers (fmmus s)) (p.from + i) ≡ Some q → governor s.managers (q / 8) ≡ Some n
    → read_bit s.memory s.managers (fmmus s) p i ≡ Some x
    → IsShown (manager_at s.managers n) (RingRead (covers (touched_by_reading (fmmus s) p) (manager_at s.managers n)))
    (λ value. bit value (q - 8 * (manager_at s.managers n).settings.start)) x
bit_shown s p i q n x t g e =
    let ms = s.managers in
    let m = manager_at ms n in
    let touched = touched_by_reading (fmmus s) p in
    let at : readable_bit s.memory ms (fmmus s) p q ≡ Some x = sym (ap (option_and_then (readable_bit s.memory ms (fmmus s) p)) t) ∙ e in
    let by_governor : (if reads_under ms touched (q / 8) (Some n) then Some (visible_under s.memory ms q (Some n)) else None) ≡ Some x
    = sym (ap (λ (o : Option ℕ). if reads_under ms touched (q / 8) o then Some (visible_under s.memory ms q o) else None) g) ∙ at in
    elim (cases_Bool (reads_under ms touched (q / 8) (Some n))) [
      | inl r ↦
          let value : visible_under s.memory ms q (Some n) ≡ x = some_same _ _ (sym (if_true _ (Some (visible_under s.memory ms q (Some n))) None r) ∙ by_governor) in
          record { value = visible m; visible = granted m (covers touched m) (both_true (in_first_buffer m (q / 8)) _ r).1; found = sym value }
      | inr f ↦ absurd (let none : None ≡ Some x = sym (if_false _ (Some (visible_under s.memory ms q (Some n))) None f) ∙ by_governor in cc)
    ]

-- what the application gets is of the value that it views
of_view : (m : SyncManager) (i b : ℕ) (o : Option (List ℕ)) → viewed m i ≡ o → option_map (λ v. slice_index v i) o ≡ Some b
    → IsShown m (AppGet i) (λ value. slice_index value i) b
of_view m i b None is e = absurd (let none : None ≡ Some b = e in cc)
of_view m i b (Some v) is e = record { value = v; visible = is; found = sym (some_same _ _ e) }

of_running : (b : Bool) (o : Option Got) (got : Got) → (if b then o else None) ≡ Some got → o ≡ Some got
of_running true o got e = e
of_running false o got e = absurd (let none : ◌≡◌ {A = Option Got} None (Some got) = e in cc)

got_shown : (s : SlaveState) (i : ℕ) (got : Got) → output_got s i ≡ Some got → IsShown (manager_at s.managers 2) (AppGet i) (λ value. slice_index value i) got.byte
got_shown s i got e =
    let m = manager_at s.managers 2 in
    of_view m i got.byte (viewed m i) refl (view_bytes m i got (of_running (is_running s.al.state) (app_got m i) got e))

pub reads_show_the_run : ReadsShowTheRun
reads_show_the_run = record { byte = byte_visible; bit = bit_shown; got = got_shown }

-- ---- whatever happens

further : (h : Happening) (s : SlaveState) (kind : Operation → Bool) (most n : ℕ) (before : List Operation) → run no_manager before ≡ manager_at s.managers n
    → IsRunTo kind most (steps_at s h n) (manager_at s.managers n) (manager_at (after_one s h).managers n)
    → run no_manager (before ++ steps_at s h n) ≡ manager_at (after_one s h).managers n
further h s kind most n before e r = run-append no_manager before (steps_at s h n) ∙ (ap (λ (x : SyncManager). run x (steps_at s h n)) e ∙ r.leads)

on_led : (kind : SlaveKind) (identity : Identity) (n : ℕ) → run no_manager [] ≡ manager_at (power_on kind identity).managers n
unfolding power_on
on_led kind identity zero = refl
on_led kind identity (suc zero) = refl
on_led kind identity (suc (suc zero)) = refl
on_led kind identity (suc (suc (suc zero))) = refl
on_led kind identity (suc (suc (suc (suc n)))) = refl

one_led : (s : SlaveState) (h : Happening) (n : ℕ) (before : List Operation) → run no_manager before ≡ manager_at s.managers n
    → run no_manager (steps_behind before s h n) ≡ manager_at (after_one s h).managers n
one_led s (Meets d) n before e = further (Meets d) s is_of_ring 1 n before e (managers_go_by_runs.met s d n)
one_led s Serves n before e = further Serves s is_of_firmware 3 n before e (managers_go_by_runs.served s n)
one_led s Faults n before e = further Faults s is_of_firmware 3 n before e (managers_go_by_runs.faulted s n)
one_led s (Puts place byte) n before e = further (Puts place byte) s is_of_application 1 n before e (managers_go_by_runs.put s place byte n)
one_led s (Gets place) n before e = further (Gets place) s is_of_application 1 n before e (managers_go_by_runs.taken s place n)
one_led s Resets n before e = on_led s.kind s.identity n

all_led : (s : SlaveState) (hs : List Happening) (n : ℕ) (before : List Operation) → run no_manager before ≡ manager_at s.managers n
    → run no_manager (steps_since before s hs n) ≡ manager_at (after_all s hs).managers n
all_led s [] n before e = e
all_led s (h ∷ hs) n before e = all_led (after_one s h) hs n (steps_behind before s h n) (one_led s h n before e)

shows_whole : (operations : List Operation) (m : SyncManager) → run no_manager operations ≡ m → ShowsWholeValues operations m
shows_whole operations m e = record {
  leads = e;
  whole = λ o value visible. whole_values operations o value (ap (λ (x : SyncManager). visible_to x o) e ∙ visible);
}

pub slaves_show_whole_values : SlavesShowWholeValues
slaves_show_whole_values kind identity hs n = shows_whole _ _ (all_led (power_on kind identity) hs n [] (on_led kind identity n))
