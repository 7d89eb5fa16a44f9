-- Outputs come first: until the ring has written them in SAFEOP there is no OP.
use Rattle.std.proofs.Common.{◌<◌, ◌≡◌, ◌≢◌, ◌&&◌, ◌||◌, ◌⊎◌, not, Bool, true, false, Option, Some, None, option_map, refl, sym, ◌∙◌, ap, subst, inl, inr, arith, if◌then◌else◌, List, [], ◌∷◌, length, slice_set, nat_lt, length-set, get_or-set_same}
use Rattle.std.specs.List.{list_any}
use Rattle.std.proofs.lemmas.Bool.{and_from, false≢true}
use Rattle.std.proofs.lemmas.List.Elements.{All-head}
use Rattle.ec_device.specs.declared.hardware.Hardware.{Hardware}
use Rattle.ec_device.specs.declared.slave_type.Identity.{Identity}
use Rattle.ec_device.specs.Hardware.{has_firmware}
use Rattle.ec_device.specs.Objects.{bits_assigned}
use Rattle.ec_device.specs.Types.{SlaveKind}
use Rattle.ec_regs.specs.Managers.{is_mailbox}
use Rattle.ec_al.specs.Al as al
use Rattle.ec_al.specs.Al.{Al, is_operational}
use Rattle.ec_al.specs.declared.state.State.{State}
use Rattle.ec_al.specs.declared.state.State.TheVariants.{Init, PreOp, SafeOp, Op}
use Rattle.ec_coe.specs.Objects.{Assignment, assigned}
use Rattle.ec_sync.specs.Buffer.{Got, app_written, publishing}
use Rattle.ec_sync.specs.SyncManager.{SyncManager, after_get, app_put, awaiting, may_app_put, may_read, may_write, no_manager, zeros_published}
use Rattle.ec_sync.specs.Runs.{Operation, Configure, Lock, Empty, PublishZeros, Await, RingWrite, RingRead, AppPut, AppGet, MessageTake, MessagePut, step}
use Rattle.ec_frame.specs.Datagram.{Datagram}
use Rattle.ec_slave.specs.State.{SlaveState, manager_at, power_on}
use Rattle.ec_slave.specs.Meeting.{slave_met}
use Rattle.ec_slave.specs.Application.{is_running, output_got, output_taken, with_manager}
use Rattle.ec_slave.specs.Faulting.{faulted, locked_empty, outputs_lost}
use Rattle.ec_slave.specs.Serving.{al_decided, awaited_by, awaited_if, greets_by, has_outputs, managers_decided, managers_entered, outputs_awaited, replies_decided, served, with_al}
use Rattle.ec_slave.specs.Steps.{IsRunTo, is_of_ring, steps_met}
use Rattle.ec_slave.specs.HardwareLaws.{is_value_written, writes_value, WritesEndWaits, IsOwedOutputs, RunsFirmware, OutputsAreOwed, OutputsStayOwed}
use Rattle.ec_slave.proofs.FirmwareRuns.RestsQuietly.{decided-al, decided-if, decides, emergency-alike, lets_wait, rested, served-al, settings_kept, waiting-state}
use Rattle.ec_slave.proofs.FirmwareRuns.ServesKeepAssignments.{assignments_served}
use Rattle.ec_slave.proofs.FirmwareRuns.StatesAreEntered.{states_entered}
use Rattle.ec_slave.proofs.Always.DatagramsKeepTheInside.{inside_kept}
use Rattle.ec_slave.proofs.Always.HardwareLaws.{alike-awaited, awaited_of, op_or_not, outputs_first, put-awaited, put-quiet, rest-awaited, safeop-op}
use Rattle.ec_slave.proofs.Always.ManagersGoByRuns.{managers_go_by_runs}

-- ---- a step of the ring

and-true : (a : Bool) → a ≡ (a && true)
and-true true = refl
and-true false = refl

and-false : (a : Bool) → false ≡ (a && false)
and-false true = refl
and-false false = refl

or-false : (a : Bool) → a ≡ (a || false)
or-false true = refl
or-false false = refl

-- it ends a wait exactly if it writes the manager's value
step-ends : (m : SyncManager) (o : Operation) → is_of_ring o ≡ true → awaited_of (step m o) ≡ (m.awaited && not (is_value_written m o))
step-ends m (Configure settings) ring = and-true m.awaited
step-ends m (RingWrite covered value) ring = by covered (may_write m) (is_mailbox m.settings)
  where
    by : (c w mailbox : Bool)
        → awaited_of (if c && w then (if mailbox then record m { mail = Some value } else record m { buffer = publishing m.buffer value; awaited = false }) else m) ≡ (m.awaited && not (c && (w && not mailbox)))
    by true true true = and-true m.awaited
    by true true false = and-false m.awaited
    by true false mailbox = and-true m.awaited
    by false w mailbox = and-true m.awaited
step-ends m (RingRead covered) ring = by (covered && may_read m) (is_mailbox m.settings)
  where
    by : (b mailbox : Bool) → awaited_of (if b then (if mailbox then record m { mail = None } else m) else m) ≡ (m.awaited && true)
    by true true = and-true m.awaited
    by true false = and-true m.awaited
    by false mailbox = and-true m.awaited
step-ends m (Lock b) ring = absurd (false≢true ring)
step-ends m Empty ring = absurd (false≢true ring)
step-ends m PublishZeros ring = absurd (false≢true ring)
step-ends m (Await b) ring = absurd (false≢true ring)
step-ends m (AppPut i x) ring = absurd (false≢true ring)
step-ends m (AppGet i) ring = absurd (false≢true ring)
step-ends m MessageTake ring = absurd (false≢true ring)
step-ends m (MessagePut message) ring = absurd (false≢true ring)

run-ends : (m after : SyncManager) (ops : List Operation) → IsRunTo is_of_ring 1 ops m after → after.awaited ≡ (m.awaited && not (list_any (is_value_written m) ops))
run-ends m after [] r = ap awaited_of (sym r.leads) ∙ and-true m.awaited
run-ends m after (o ∷ []) r =
    ap awaited_of (sym r.leads)
    ∙ (step-ends m o (All-head (λ (x : Operation). is_of_ring x ≡ true) o [] r.of_kind) ∙ ap (λ (b : Bool). m.awaited && not b) (or-false (is_value_written m o)))
run-ends m after (o ∷ p ∷ ops) r = let few = r.few in absurd (omega (arith, few))

pub writes_end_waits : WritesEndWaits
writes_end_waits s d n = run-ends (manager_at s.managers n) _ (steps_met d.command s d n) (managers_go_by_runs.met s d n)

-- ---- what leaves the outputs owed

same-outputs : (s t : SlaveState) → t.kind ≡ s.kind → t.outs ≡ s.outs → has_outputs t ≡ has_outputs s
same-outputs s t kind outs =
    ap (λ (x : SlaveKind). nat_lt 0 (bits_assigned x.outputs (assigned t.outs))) kind ∙ ap (λ (x : Assignment). nat_lt 0 (bits_assigned s.kind.outputs (assigned x))) outs

-- neither state nor assignment changes, and in SAFEOP what is awaited stays awaited
owed-kept : (s t : SlaveState) → t.kind ≡ s.kind → t.outs ≡ s.outs → t.al.state ≡ s.al.state
    → (s.al.state ≡ SafeOp → (manager_at s.managers 2).awaited ≡ true → (manager_at t.managers 2).awaited ≡ true) → IsOwedOutputs s → IsOwedOutputs t
owed-kept s t kind outs state kept q =
    let same : has_outputs t ≡ has_outputs s = same-outputs s t kind outs in
    record {
      not_in_op = λ o e. q.not_in_op (sym same ∙ o) (sym state ∙ e);
      awaited = λ o e. kept (sym state ∙ e) (q.awaited (sym same ∙ o) (sym state ∙ e));
    }

met-owed : (s : SlaveState) → IsOwedOutputs s → (d : Datagram) → (s.al.state ≡ SafeOp → writes_value s d 2 ≡ false) → IsOwedOutputs (slave_met s d)
met-owed s q d aside =
    let k = inside_kept s d in
    owed-kept s (slave_met s d) k.kind k.outs k.state (λ safe e. writes_end_waits s d 2 ∙ and_from _ _ e (ap not (aside safe))) q

put-owed : (s : SlaveState) (b : Bool) (o : Option SyncManager) (t : SlaveState) → ((x : SyncManager) → o ≡ Some x → x.awaited ≡ (manager_at s.managers 3).awaited)
    → (if b then option_map (with_manager s 3) o else None) ≡ Some t → IsOwedOutputs s → IsOwedOutputs t
put-owed s true None t h e q = cc
put-owed s true (Some m) t h e q =
    let same : with_manager s 3 m ≡ t = cc in
    subst IsOwedOutputs same (owed-kept s (with_manager s 3 m) refl refl refl (λ safe w. alike-awaited s.managers 3 2 m (h m refl) ∙ w) q)
put-owed s false o t h e q = cc

got-owed : (s : SlaveState) (o : Option Got) → IsOwedOutputs s → IsOwedOutputs (output_taken s o)
got-owed s None q = q
got-owed s (Some g) q =
    owed-kept s (output_taken s (Some g)) refl refl refl (λ safe w. alike-awaited s.managers 2 2 (after_get (manager_at s.managers 2) (Some g)) refl ∙ w) q

-- ---- switched on

on-owed : (kind : SlaveKind) (identity : Identity) → IsOwedOutputs (power_on kind identity)
unfolding power_on
on-owed kind identity = record { not_in_op = λ o e. init-op e; awaited = λ o e. absurd (init-safeop e) }
  where
    init-op : Init ≡ Op → ⊥
    init-op e = cc

    init-safeop : Init ≡ SafeOp → ⊥
    init-safeop e = cc

-- ---- SAFEOP is entered

own-two : (ms : List SyncManager) (m : SyncManager) → 2 < length ms → manager_at (slice_set ms 2 m) 2 ≡ m
own-two ms m l = get_or-set_same ms 2 m no_manager l

-- by firmware of real devices, with outputs
set-awaits : (h : Hardware) (outputs : Bool) (ms : List SyncManager) → h.has_firmware ≡ true → outputs ≡ true → 2 < length ms
    → awaited_of (manager_at (slice_set ms 2 (awaiting (manager_at ms 2) (h.has_firmware && outputs))) 2) ≡ true
set-awaits h outputs ms f o l = ap awaited_of (own-two ms (awaiting (manager_at ms 2) (h.has_firmware && outputs)) l) ∙ and_from _ _ f o

entered-awaits : (h : Hardware) (outputs : Bool) (old : State) (ms : List SyncManager) → h.has_firmware ≡ true → outputs ≡ true → length ms ≡ 4 → old ≢ SafeOp
    → awaited_of (manager_at (outputs_awaited (Some h) outputs old SafeOp (managers_entered old SafeOp ms)) 2) ≡ true
entered-awaits h outputs Init ms f o four other = set-awaits h outputs ms f o (omega (arith, four))
entered-awaits h outputs PreOp ms f o four other =
    let long = length-set ms 3 (zeros_published (manager_at ms 3)) in
    set-awaits h outputs (slice_set ms 3 (zeros_published (manager_at ms 3))) f o (omega (arith, four, long))
entered-awaits h outputs SafeOp ms f o four other = absurd (other refl)
entered-awaits h outputs Op ms f o four other = set-awaits h outputs ms f o (omega (arith, four))

-- in SAFEOP nothing changes of it
safeop-left : (o : Option Hardware) (outputs : Bool) (ms : List SyncManager) → outputs_awaited o outputs SafeOp SafeOp (managers_entered SafeOp SafeOp ms) ≡ ms
safeop-left None outputs ms = refl
safeop-left (Some h) outputs ms = refl

module _ (s : SlaveState) (h : Hardware) (device : RunsFirmware s h) where
  abbrev a : Al
  a = al_decided s.kind.hardware s

  -- the state behind a step is the one that the request led to
  there : (served s).al.state ≡ SafeOp → (if decides s then a else (rested s).al).state ≡ SafeOp
  there now = ap (λ (x : Al). x.state) (sym (served-al s ∙ decided-al s)) ∙ now

  -- what manager 2 awaits behind a step is what the decision leaves
  decided-two : (b : Bool) → decides s ≡ b → (manager_at (served s).managers 2).awaited ≡ (if b then awaited_of (manager_at (managers_decided s a) 2) else awaited_of (manager_at s.managers 2))
  decided-two b e = rest-awaited s 2 ∙ (ap (λ (t : SlaveState). awaited_of (manager_at t.managers 2)) (decided-if s) ∙ (ap of e ∙ by b))
    where
      of : Bool → Bool
      of c = let t : SlaveState = if c then with_al s a else rested s in awaited_of (manager_at t.managers 2)

      by : (c : Bool) → of c ≡ (if c then awaited_of (manager_at (managers_decided s a) 2) else awaited_of (manager_at s.managers 2))
      by true = emergency-alike awaited_of put-awaited (greets_by s a) (replies_decided s a) (managers_decided s a) 2
      by false = refl

  fresh-awaited : has_outputs s ≡ true → s.al.state ≢ SafeOp → (served s).al.state ≡ SafeOp → (manager_at (served s).managers 2).awaited ≡ true
  fresh-awaited outputs other now = by (decides s) refl (there now)
    where
      by : (b : Bool) → decides s ≡ b → (if b then a else (rested s).al).state ≡ SafeOp → (manager_at (served s).managers 2).awaited ≡ true
      by true e new =
          decided-two true e
          ∙ (ap (λ (x : State). awaited_of (manager_at (outputs_awaited s.kind.hardware (has_outputs s) s.al.state x (managers_entered s.al.state x s.managers)) 2)) new
          ∙ (ap (λ (o : Option Hardware). awaited_of (manager_at (outputs_awaited o (has_outputs s) s.al.state SafeOp (managers_entered s.al.state SafeOp s.managers)) 2)) device.hardware
          ∙ entered-awaits h (has_outputs s) s.al.state s.managers device.firmware outputs device.four other))
      by false e new = absurd (other (sym (waiting-state (lets_wait s) s.al) ∙ new))

  still-awaited : s.al.state ≡ SafeOp → (served s).al.state ≡ SafeOp → (manager_at (served s).managers 2).awaited ≡ (manager_at s.managers 2).awaited
  still-awaited was now = by (decides s) refl (there now)
    where
      by : (b : Bool) → decides s ≡ b → (if b then a else (rested s).al).state ≡ SafeOp → (manager_at (served s).managers 2).awaited ≡ (manager_at s.managers 2).awaited
      by true e new =
          decided-two true e
          ∙ (ap (λ (x : State). awaited_of (manager_at (outputs_awaited s.kind.hardware (has_outputs s) s.al.state x (managers_entered s.al.state x s.managers)) 2)) new
          ∙ (ap (λ (x : State). awaited_of (manager_at (outputs_awaited s.kind.hardware (has_outputs s) x SafeOp (managers_entered x SafeOp s.managers)) 2)) was
          ∙ ap (λ (ms : List SyncManager). awaited_of (manager_at ms 2)) (safeop-left s.kind.hardware (has_outputs s) s.managers)))
      by false e new = decided-two false e

  -- out of PREOP an assignment stays
  outputs-before : (served s).al.state ≢ PreOp → has_outputs (served s) ≡ true → has_outputs s ≡ true
  outputs-before other outputs = sym (same-outputs s (served s) (settings_kept s).kind ((assignments_served s).elsewhere other).0) ∙ outputs

  fresh-owed : s.al.state ≢ SafeOp → (served s).al.state ≡ SafeOp → IsOwedOutputs (served s)
  fresh-owed other now = record {
    not_in_op = λ o e. safeop-op (sym now ∙ e);
    awaited = λ o e. fresh-awaited (outputs-before (λ p. let x : SafeOp ≡ PreOp = sym now ∙ p in cc) o) other now;
  }

  served-owed : IsOwedOutputs s → IsOwedOutputs (served s)
  served-owed q = record {
    not_in_op = λ o now.
        let outputs : has_outputs s ≡ true = outputs-before (λ p. let x : Op ≡ PreOp = sym now ∙ p in cc) o in
        elim (op_or_not s.al.state) [
          | inl op ↦ q.not_in_op outputs op
          | inr other ↦
              let safe : s.al.state ≡ SafeOp = ((states_entered s (ap has_firmware device.hardware ∙ device.firmware)).0 now other).from in
              false≢true (sym (outputs_first s h device.hardware device.firmware other now) ∙ q.awaited outputs safe)
        ];
    awaited = λ o now.
        let outputs : has_outputs s ≡ true = outputs-before (λ p. let x : SafeOp ≡ PreOp = sym now ∙ p in cc) o in
        elim (safeop_or_not s.al.state) [
          | inl safe ↦ still-awaited safe now ∙ q.awaited outputs safe
          | inr other ↦ fresh-awaited outputs other now
        ];
  }
    where
      safeop_or_not : (x : State) → (x ≡ SafeOp) ⊎ (x ≢ SafeOp)
      safeop_or_not Init = inr (λ e. cc)
      safeop_or_not PreOp = inr (λ e. cc)
      safeop_or_not SafeOp = inl refl
      safeop_or_not Op = inr (λ e. cc)

  -- ---- a fault

  lost-awaits : has_outputs s ≡ true → (outputs_lost s).awaited ≡ true
  lost-awaits outputs =
      ap (λ (o : Option Hardware). awaited_of (awaited_if (awaited_by o (has_outputs s) Op SafeOp) (locked_empty (manager_at s.managers 2)))) device.hardware
      ∙ and_from _ _ device.firmware outputs

  fault-owed : (s.al.state ≢ Op → IsOwedOutputs s) → IsOwedOutputs (faulted s)
  unfolding faulted
  fault-owed q = by s.al.state refl
    where
      t : SlaveState
      t = record s { al = al.faulted s.al; managers = slice_set s.managers 2 (outputs_lost s) }

      fallen : s.al.state ≡ Op → t.al.state ≡ SafeOp
      fallen e = ap (λ (x : State). (if is_operational x then record { state = SafeOp; error = true; code = 1; requested = s.al.requested; waited = s.al.waited } else s.al).state) e

      by : (x : State) → s.al.state ≡ x → IsOwedOutputs (if is_operational x then t else s)
      by Init e = q (λ f. let g : Init ≡ Op = sym e ∙ f in cc)
      by PreOp e = q (λ f. let g : PreOp ≡ Op = sym e ∙ f in cc)
      by SafeOp e = q (λ f. let g : SafeOp ≡ Op = sym e ∙ f in cc)
      by Op e = record {
        not_in_op = λ o f. safeop-op (sym (fallen e) ∙ f);
        awaited = λ o f. let four = device.four in ap awaited_of (own-two s.managers (outputs_lost s) (omega (arith, four))) ∙ lost-awaits o;
      }

-- ---- the laws

pub outputs_owed : OutputsAreOwed
outputs_owed s h device = record { served = fresh-owed s h device; faulted = λ op. fault-owed s h device (λ other. absurd (other op)) }

pub outputs_stay_owed : OutputsStayOwed
outputs_stay_owed s h device q = record {
  met = met-owed s q;
  served = served-owed s h device q;
  faulted = fault-owed s h device (λ other. q);
  put = λ i x t e. put-owed s (is_running s.al.state) (app_put (manager_at s.managers 3) i x) t
      (λ m f. put-quiet (manager_at s.managers 3) (may_app_put (manager_at s.managers 3)) (app_written (manager_at s.managers 3).buffer i x) m f) e q;
  taken = λ i. got-owed s (output_got s i) q;
  reset = on-owed s.kind s.identity;
}
