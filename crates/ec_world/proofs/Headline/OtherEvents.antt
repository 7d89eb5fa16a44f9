-- The headline of the events that are neither a pass nor a close.
use Rattle.ec_world.proofs.Words.{Stop, stopped, StartState, ℕ, ◌+◌, ◌<◌, app_written, app_read, is_running, is_some, ◌≡◌, ◌≢◌, ◌&&◌, not, Bool, true, false, Option, Some, None, refl, sym, ◌∙◌, ap, subst, arith, List, [], length, set, if◌then◌else◌, option_map, slice_get, and_left, and_parts, true≢false, ltb-true, if_false, length-replicate, get_or-set_same, bit, bit-zeros, bytes_of_bits, zeros, is_set, is_buffered, Buffer, SyncManager, Identity, SlaveState, manager_at, power_on, switched_on, served, faulted, input_put, output_got, with_manager, outputs_shown, Init, SafeOp, Contents, PlanState, plan_of, meaning, slave_at as settings_of, listed, IsUsable, bits_are_apart, MasterState, variable_set, Event, StartNext, Set, Begin, Return, Serve, AppPut, AppGet, Fault, ResetSlave, Plain, PlainSlave, Health, Working, Faulted, Reset, is_working, failing, run, plain_slave, WorldState, slave_of, no_slave, with_slave, is_up, is_slave, Puts, Gets, Begins, Returns, StartReturns, ByStart, IsStep, IsAs, IsWorking, IsFaulted, HoldsData, IsOfLength, IsRun, IsNew, plain_of, input_bit, variable, published, with_buffer, SetShows, TouchShows, PutShows, FallShows, none_some}
use Rattle.ec_al.specs.Al as al
use Rattle.ec_cycle.proofs.Variables.{set_reads_back, set_keeps_others}
use Rattle.ec_link.specs.Variables.{AreApart}
use Rattle.ec_sync.specs.SyncManager.{app_put, app_got, may_app_put, may_app_get}
use Rattle.ec_world.proofs.Refinement.ProcessManagers.{unset}
use Rattle.ec_world.proofs.Refinement.ApplicationEvents.{quiet-rests, quiet, two_there, here_of, fault_let, fault_as, state_on}
use Rattle.ec_world.proofs.Headline.Buffers.{no_value, published_is, with_buffer_is, buffer_kept, Written, written, last_published, others_keep, read_keeps}
use Rattle.ec_world.proofs.Headline.LinkedBits.{Sees, sees, bit_past}
use Rattle.ec_world.proofs.Runs.Sizes.{run_same, taken_cycle}
use Rattle.ec_world.proofs.Runs.Unstopped.{stopped_low}
use Rattle.ec_world.proofs.Refinement.IsStep.{same-slave}
use Rattle.ec_world.proofs.Runs.Leaves.{Mapped, mapped, is_in_op}

-- ---- the start-up, the master's cycle

pub never_starts : (w v : WorldState) → is_up w.start ≡ true → IsStep w StartNext v true → ⊥
never_starts w v up does = true≢false (sym (and_parts (not (is_up w.start)) _ (sym does.can)).0 ∙ ap not up)

pub stop_shows : (w v : WorldState) → IsStep w Stop v true → (v ≡ record w { start = v.start }) × (is_up v.start ≡ false)
stop_shows w v does =
    let h : v ≡ record w { start = stopped w.start w.master } = does.happens refl in
    (h ∙ ap (λ (s : StartState). record w { start = s }) (sym (ap (λ (x : WorldState). x.start) h)), ap (λ (x : WorldState). is_up x.start) h ∙ stopped_low w.start w.master)

pub begin_shows : (w v : WorldState) → IsStep w Begin v true → v ≡ record w { master = record w.master { next = w.master.next + 1; cycle = v.master.cycle }; slots = v.slots }
begin_shows w v does =
    let h : Begins w v = does.happens refl in
    h.is
    ∙ (ap (λ os. record w { master = v.master; slots = os }) (sym (ap (λ (x : WorldState). x.slots) h.is))
    ∙ ap (λ (m : MasterState). record w { master = m; slots = v.slots })
    (h.master.is ∙ ap (λ o. record w.master { next = w.master.next + 1; cycle = o }) (sym (ap (λ (m : MasterState). m.cycle) h.master.is))))

-- ---- bits of nothing

zero_either : (c : Bool) (n o : ℕ) → bit (if c then zeros n else []) o ≡ false
zero_either true n o = bit-zeros n o
zero_either false n o = bit_past [] o (omega arith)

guarded_some : {X : Type 0} (b : Bool) (o : Option X) (q : X) → (if b then o else None) ≡ Some q → o ≡ Some q
guarded_some true o q e = e
guarded_some false o q e = absurd (none_some q e)

-- ---- in a world that is Ready

module _ (t : Contents) (ids : List Identity) (old : WorldState) (events : List Event) (w : WorldState) (made : ℕ) (n : IsNew t ids old) (h : IsRun old events w made) (up : is_up w.start ≡ true) (v : WorldState) where
  abbrev s : Sees t old events w
  s = sees t ids old events w made n h up

  abbrev p : Plain
  p = (run (meaning s.ready.plan) (plain_of s.ready) s.after).plain

  -- the master's plan is the table's
  master_plan : w.master.plan ≡ plan_of t
  master_plan = s.shown.same_plan ∙ s.plan_kept

  pub return_shows : (k : ℕ) → IsStep w (Return k) v true → v ≡ record w { master = record w.master { cycle = v.master.cycle }; slots = set w.slots k None }
  return_shows k does =
      let r : Returns w k v = subst (λ (b : Bool). ByStart b (StartReturns w k v) (Returns w k v)) s.shown.no_start (does.happens refl) in
      r.is ∙ ap (λ (m : MasterState). record w { master = m; slots = set w.slots k None }) (taken_cycle w.master r.flight.bytes r.is_accepted v.master r.master)

  pub set_shows : (x value : ℕ) → IsStep w (Set x value) v true → SetShows w x value v
  set_shows x value does = record {
    value_is = ap (λ (z : WorldState). variable z x) is ∙ set_reads_back w.master x value usable room (sym does.can);
    others = λ y ne. ap (λ (z : WorldState). variable z y) is ∙ set_keeps_others w.master x y value apart ne (sym does.can);
    rest = is ∙ ap (λ xs. record w { master = record w.master { outputs = xs } }) (sym (ap (λ (z : WorldState). z.master.outputs) is));
  }
    where
      is : v ≡ record w { master = variable_set w.master x value }
      is = does.happens refl

      usable : IsUsable w.master.plan
      usable = subst IsUsable (sym s.shown.same_plan) s.still_usable

      apart : AreApart w.master.plan.variables
      apart = subst (λ (z : PlanState). AreApart z.variables) (sym master_plan) (bits_are_apart t)

      room : length w.master.outputs ≡ bytes_of_bits w.master.plan.out_bits
      room =
          (run_same old events w made h).outputs
          ∙ (ap (λ (z : WorldState). length z.master.outputs) n.is
          ∙ (length-replicate {A = ℕ} (bytes_of_bits (plan_of t).out_bits) 0
          ∙ ap (λ (z : PlanState). bytes_of_bits z.out_bits) (sym master_plan)))

  -- ---- events of one slave

  module _ (i : ℕ) (l : i < length w.plan.slaves) where
    abbrev S : SlaveState
    S = slave_of w i

    abbrev q : PlainSlave
    q = plain_slave p i

    is_as : IsAs i (settings_of w.plan i) S q q.health
    is_as = s.shown.slaves i l

    here : i < length w.slaves
    here = let y = s.shown.count in omega (arith, l, y)

    left : (x : SlaveState) → v ≡ with_slave w i x → slave_of v i ≡ x
    left x e = ap (λ (z : WorldState). slave_of z i) e ∙ get_or-set_same w.slaves i x no_slave here

    alone : (x : SlaveState) → v ≡ with_slave w i x → v ≡ with_slave w i (slave_of v i)
    alone x e = e ∙ ap (with_slave w i) (sym (left x e))

    rests : v ≡ with_slave w i (served S) → v ≡ w
    rests e = e ∙ same-slave w i (served S) (quiet-rests S (quiet i (settings_of w.plan i) S q q.health is_as))

    -- where the application has process data
    data_held : (x : Health) → IsAs i (settings_of w.plan i) S q x → x ≢ Reset → (3 < length S.managers) × HoldsData (settings_of w.plan i) S q
    data_held Reset a ne = absurd (ne refl)
    data_held _ a ne = (two_there i (settings_of w.plan i) S q (listed w.plan s.still_usable i l) a.holds, a.process)

    -- after a reset it runs no application
    no_reset : {X : Type 0} (o : Option X) (x : X) → (if is_running S.al.state then o else None) ≡ Some x → q.health ≢ Reset
    no_reset o x e reset = none_some x (sym (if_false _ _ _ (ap is_running (off q.health reset is_as))) ∙ e)
      where
        off : (y : Health) → y ≡ Reset → IsAs i (settings_of w.plan i) S q y → S.al.state ≡ Init
        off Reset r a = state_on S a.as_on
        off Working r a = absurd (let z : Working ≡ Reset = r in cc)
        off Faulted r a = absurd (let z : Faulted ≡ Reset = r in cc)

  -- the slave is one of the plan's
  in_plan : (i : ℕ) → is_slave w i ≡ true → i < length w.plan.slaves
  in_plan i e = let l = ltb-true i (length w.slaves) e in let y = s.shown.count in omega (arith, l, y)

  pub serve_shows : (i : ℕ) → IsStep w (Serve i) v true → v ≡ w
  serve_shows i does = rests i (in_plan i (sym does.can)) (does.happens refl)

  pub put_shows : (i k byte : ℕ) → IsStep w (AppPut i k byte) v true → PutShows w i k byte v
  put_shows i k byte does = record {
    touches = record { buffer = b.value; rest = is };
    last = λ e. ap (λ ys. slice_get ys k) now ∙ last_published M.buffer k byte b.value wrote (e ∙ ap length before);
    kept = λ ne. now ∙ (others_keep M.buffer k byte b.value wrote (λ e. ne (e ∙ sym (ap length before))) ∙ sym before);
  }
    where
      l : i < length w.plan.slaves
      l = here_of w p i (is_some (input_put (slave_of w i) k byte)) s.shown (sym does.can)

      puts : Puts w i k byte v
      puts = does.happens refl

      M : SyncManager
      M = manager_at (slave_of w i).managers 3

      a : Mapped (with_manager (slave_of w i) 3) (app_put M k byte) puts.slave
      a = mapped (with_manager (slave_of w i) 3) (app_put M k byte) puts.slave (guarded_some (is_running (slave_of w i).al.state) (option_map (with_manager (slave_of w i) 3) (app_put M k byte)) puts.slave puts.put)

      b : Mapped (λ (x : Buffer). record M { buffer = x }) (app_written M.buffer k byte) a.value
      b = mapped (λ (x : Buffer). record M { buffer = x }) (app_written M.buffer k byte) a.value (guarded_some (may_app_put M) (option_map (λ (x : Buffer). record M { buffer = x }) (app_written M.buffer k byte)) a.value a.there)

      held : (3 < length (slave_of w i).managers) × HoldsData (settings_of w.plan i) (slave_of w i) (plain_slave p i)
      held = data_held i l (plain_slave p i).health (is_as i l) (no_reset i l (option_map (with_manager (slave_of w i) 3) (app_put M k byte)) puts.slave puts.put)

      is : v ≡ with_slave w i (with_buffer (slave_of w i) 3 b.value)
      is = puts.is ∙ ap (with_slave w i) (sym a.is ∙ (ap (with_manager (slave_of w i) 3) (sym b.is) ∙ sym (with_buffer_is (slave_of w i) 3 b.value held.0)))

      now : published (slave_of v i) 3 ≡ b.value.published
      now = ap (λ (x : SlaveState). published x 3) (left i l (with_buffer (slave_of w i) 3 b.value) is) ∙ buffer_kept (slave_of w i) 3 b.value held.0

      before : published (slave_of w i) 3 ≡ M.buffer.published
      before = published_is (slave_of w i) 3

      wrote : Written M.buffer k byte b.value
      wrote = written (bytes_of_bits (settings_of w.plan i).share.ins) M.buffer k byte b.value (subst (IsOfLength (bytes_of_bits (settings_of w.plan i).share.ins)) (sym held.1.inputs) held.1.in_bytes) b.there

  pub get_shows : (i k : ℕ) → IsStep w (AppGet i k) v true → TouchShows w i 2 v.got v × (published (slave_of v i) 2 ≡ published (slave_of w i) 2)
  get_shows i k does = (record { buffer = gets.got.buffer; rest = is ∙ ap (λ o. record (with_slave w i after) { got = o }) (sym (ap (λ (z : WorldState). z.got) is)) }, kept)
    where
      l : i < length w.plan.slaves
      l = here_of w p i (is_some (output_got (slave_of w i) k)) s.shown (sym does.can)

      gets : Gets w i k v
      gets = does.happens refl

      M : SyncManager
      M = manager_at (slave_of w i).managers 2

      two : 2 < length (slave_of w i).managers
      two = let y = (data_held i l (plain_slave p i).health (is_as i l) (no_reset i l (app_got M k) gets.got gets.read)).0 in omega (arith, y)

      reads : app_read M.buffer k ≡ Some gets.got
      reads = guarded_some (may_app_get M) (app_read M.buffer k) gets.got (guarded_some (is_running (slave_of w i).al.state) (app_got M k) gets.got gets.read)

      after : SlaveState
      after = with_buffer (slave_of w i) 2 gets.got.buffer

      is : v ≡ record (with_slave w i after) { got = Some gets.got.byte }
      is = gets.is ∙ ap (λ (x : SlaveState). record (with_slave w i x) { got = Some gets.got.byte }) (sym (with_buffer_is (slave_of w i) 2 gets.got.buffer two))

      kept : published (slave_of v i) 2 ≡ published (slave_of w i) 2
      kept =
          ap (λ (z : WorldState). published (slave_of z i) 2) is
          ∙ (ap (λ (x : SlaveState). published x 2) (get_or-set_same w.slaves i after no_slave (here i l))
          ∙ (buffer_kept (slave_of w i) 2 gets.got.buffer two
          ∙ (read_keeps M.buffer k gets.got reads ∙ sym (published_is (slave_of w i) 2))))

  pub fault_shows : (i : ℕ) → IsStep w (Fault i) v true → FallShows w i SafeOp v × ((o : ℕ) → input_bit v i o ≡ input_bit w i o)
  fault_shows i does = (
    record { state_is = ap (λ (x : SlaveState). x.al.state) now ∙ fell.state; outputs = λ o. ap (λ (x : SlaveState). bit (outputs_shown x) o) now ∙ dark o; rest = alone i l (faulted (slave_of w i)) is },
    λ o. ap (λ (x : SlaveState). bit (published x 3) o) now ∙ ap (λ xs. bit xs o) (published_is (faulted (slave_of w i)) 3 ∙ (ap (λ (b : Buffer). b.published) (fell.process.inputs ∙ sym works.process.inputs) ∙ sym (published_is (slave_of w i) 3))),
  )
    where
      l : i < length w.plan.slaves
      l = here_of w p i (al.is_operational (slave_of w i).al.state) s.shown (sym does.can)

      is : v ≡ with_slave w i (faulted (slave_of w i))
      is = does.happens refl

      now : slave_of v i ≡ faulted (slave_of w i)
      now = left i l (faulted (slave_of w i)) is

      in_op : is_working (plain_slave p i).health ≡ true
      in_op = sym (fault_let i (settings_of w.plan i) (slave_of w i) (plain_slave p i) (listed w.plan s.still_usable i l) (plain_slave p i).health (is_as i l))
          ∙ (and_parts (is_slave w i) _ (sym does.can)).1

      fell : IsFaulted i (settings_of w.plan i) (faulted (slave_of w i)) (failing (plain_slave p i))
      fell = fault_as i (settings_of w.plan i) (slave_of w i) (plain_slave p i) (listed w.plan s.still_usable i l) (plain_slave p i).health (is_as i l) in_op

      works : IsWorking i (settings_of w.plan i) (slave_of w i) (plain_slave p i)
      works = subst (λ (x : Health). IsAs i (settings_of w.plan i) (slave_of w i) (plain_slave p i) x) (is_in_op (plain_slave p i).health in_op) (is_as i l)

      dark : (o : ℕ) → bit (outputs_shown (faulted (slave_of w i))) o ≡ false
      dark o =
          let m : SyncManager = manager_at (faulted (slave_of w i)).managers 2 in
          ap (λ (b : Buffer). bit (if is_set m.settings && is_buffered m.settings then b.published else []) o) fell.process.outputs
          ∙ zero_either (is_set m.settings && is_buffered m.settings) (length (plain_slave p i).outputs.published) o

  pub reset_shows : (i : ℕ) → IsStep w (ResetSlave i) v true → FallShows w i Init v × ((o : ℕ) → input_bit v i o ≡ false)
  reset_shows i does = (
    record { state_is = ap (λ (x : SlaveState). x.al.state) now ∙ ap (λ (a : al.Al). a.state) (switched_on (slave_of w i).kind (slave_of w i).identity).al; outputs = λ o. ap (λ (x : SlaveState). bit (outputs_shown x) o) now ∙ dark o; rest = alone i l new is },
    λ o. ap (λ (x : SlaveState). bit (published x 3) o) now ∙ (ap (λ xs. bit xs o) (published_is new 3 ∙ (ap (λ ms. (manager_at ms 3).buffer.published) (switched_on (slave_of w i).kind (slave_of w i).identity).managers ∙ no_value)) ∙ bit_past [] o (omega arith)),
  )
    where
      l : i < length w.plan.slaves
      l = in_plan i (sym does.can)

      new : SlaveState
      new = power_on (slave_of w i).kind (slave_of w i).identity

      is : v ≡ with_slave w i new
      is = does.happens refl

      now : slave_of v i ≡ new
      now = left i l new is

      dark : (o : ℕ) → bit (outputs_shown new) o ≡ false
      dark o =
          ap (λ ms. bit (if is_set (manager_at ms 2).settings && is_buffered (manager_at ms 2).settings then (manager_at ms 2).buffer.published else []) o) (switched_on (slave_of w i).kind (slave_of w i).identity).managers
          ∙ (ap (λ xs. bit xs o) (if_false _ _ _ (and_left _ _ unset)) ∙ bit_past [] o (omega arith))
