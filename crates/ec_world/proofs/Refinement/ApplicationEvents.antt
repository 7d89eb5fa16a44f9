-- A firmware step of a slave for which nothing waits changes nothing.
use Rattle.ec_world.proofs.Words.{◌≡◌, ℕ, zero, suc, ◌<◌, ◌≤◌, ◌≢◌, ◌&&◌, Bool, true, false, Option, None, refl, sym, ◌∙◌, ap, subst, inl, inr, arith, List, [], ◌∷◌, length, get_or, set, is_some, option_and_then, nat_lt, length-set, get_or-set_same, get_or-set_other, ◌+◌, ◌==◌, not, Some, slice_set, if◌then◌else◌, option_map, unwrap_or, SlaveState, manager_at, power_on, served, IsQuiet, Holds, IsWorking, IsFaulted, IsReset, IsAs, SlaveRefines, HoldsData, cases_eq, cases_lt, and_left, and_parts, lt-ltb, le-ltb, both_ways, length-map, length-replicate, set-get_or, slice_get-get_or, slice_get_past, bytes_of_bits, zeros, if_true, if_false, emptied_buffer, Buffer, Got, app_written, app_read, drafted, draft_next, view_next, SyncManager, no_manager, outputs_lost, buffer_length, Init, Identity, SlaveKind, Sii, switched_on, faults, SlavePlan, slave_at, AreListed, output_manager, Plain, PlainSlave, Health, Working, Faulted, Reset, plain_slave, no_plain_slave, is_working, failing, restarting, at_slave, is_reset, got_byte, WorldState, slave_of, no_slave, with_slave, Puts, Gets, faulted, Refines, none_some, some_same, listed, is_set, is_running, input_put, output_got, output_taken, with_manager, IsUsable, IsOfLength, MasterState, ReportState, CyclesRefine, ReportRefines}
use Rattle.ec_slave.proofs.FirmwareRuns.RestsQuietly as serves
use Rattle.ec_al.specs.Al as al
use Rattle.ec_world.specs.Plain as plain
use Rattle.ec_device.specs.Hardware.{out_manager, in_manager}
use Rattle.ec_world.proofs.Refinement.ProcessManagers.{no_bits, unset, third_held, outs_enabled, ins_enabled, locked_denies, fourth_held, still_holds, still_quiet, buffer_long, set_for_outs, buffered_outs}

pub quiet-rests : (s : SlaveState) → IsQuiet s → served s ≡ s
quiet-rests s q = serves.rests_quietly s (record { no_request = q.no_request; no_read = q.no_read; no_message = q.no_message 0 (λ e. omega (arith, e)) })

-- ---- events of one slave: a firmware step, a byte of its application, a fault, a reset

-- ---- one slave and its plain slave change

pub slave_changed : (w : WorldState) (p : Plain) (t : ℕ) (x : SlaveState) (q : PlainSlave) → Refines w p → SlaveRefines t (slave_at w.plan t) x q → t < length w.plan.slaves
    → Refines (with_slave w t x) (plain.with_slave p t q)
slave_changed w p t x q s h l = assumption (length-set w.slaves t x ∙ s.count, length-set p.slaves t q ∙ s.plain_count, slaves)
  where
    slaves : (u : ℕ) → u < length w.plan.slaves → SlaveRefines u (slave_at w.plan u) (get_or (set w.slaves t x) u no_slave) (get_or (set p.slaves t q) u no_plain_slave)
    slaves u b = elim (cases_eq u t) [
      | inl e ↦ subst (λ (i : ℕ). SlaveRefines i (slave_at w.plan i) (get_or (set w.slaves t x) i no_slave) (get_or (set p.slaves t q) i no_plain_slave)) (sym e)
          (subst (λ (y : SlaveState). SlaveRefines t (slave_at w.plan t) y (get_or (set p.slaves t q) t no_plain_slave)) (sym (get_or-set_same w.slaves t x no_slave (let y = s.count in omega arith)))
          (subst (λ (y : PlainSlave). SlaveRefines t (slave_at w.plan t) x y) (sym (get_or-set_same p.slaves t q no_plain_slave (let y = s.plain_count in omega arith))) h))
      | inr ne ↦
          subst (λ (y : SlaveState). SlaveRefines u (slave_at w.plan u) y (get_or (set p.slaves t q) u no_plain_slave)) (sym (get_or-set_other w.slaves t u x no_slave ne))
          (subst (λ (y : PlainSlave). SlaveRefines u (slave_at w.plan u) (slave_of w u) y) (sym (get_or-set_other p.slaves t u q no_plain_slave ne)) (s.slaves u b))
    ]

-- the master, the report and what was read last change, and slaves and slots stay
pub master_changed : (w : WorldState) (p q : Plain) (m : MasterState) (r : Option ReportState) (g : Option ℕ) → Refines w p → m.is_ready ≡ true → m.plan ≡ w.plan → m.outputs ≡ q.outputs
    → m.inputs ≡ q.inputs → m.next ≡ q.next → g ≡ q.got → CyclesRefine w.plan m.cycle q.cycle → ReportRefines w.plan r q.closed
    → Refines (record w { master = m; report = r; got = g }) (record q { slaves = p.slaves; slots = p.slots })
master_changed w p q m r g s ready plan outputs inputs next got cycle report = assumption

-- the plain event at a slave that there is, and at one that there isn't
pub at_there : (w : WorldState) (p : Plain) (t : ℕ) (f : PlainSlave → Option Plain) → Refines w p → t < length w.plan.slaves → at_slave p t f ≡ f (plain_slave p t)
at_there w p t f s l = ap (option_and_then f) (slice_get-get_or p.slaves t no_plain_slave (let y = s.plain_count in omega arith))

pub at_none : (w : WorldState) (p : Plain) (t : ℕ) (f : PlainSlave → Option Plain) → Refines w p → length w.plan.slaves ≤ t → at_slave p t f ≡ None
at_none w p t f s l = ap (option_and_then f) (slice_get_past p.slaves t (let y = s.plain_count in omega arith))

pub is_there : (w : WorldState) (p : Plain) (t : ℕ) → Refines w p → t < length w.plan.slaves → nat_lt t (length w.slaves) ≡ true
is_there w p t s l = lt-ltb t (length w.slaves) (let y = s.count in omega arith)

pub is_gone : (w : WorldState) (p : Plain) (t : ℕ) → Refines w p → length w.plan.slaves ≤ t → nat_lt t (length w.slaves) ≡ false
is_gone w p t s l = le-ltb t (length w.slaves) (let y = s.count in omega arith)

-- an event that a slave must let: both sides let it alike
pub both_let : (w : WorldState) (p : Plain) (t : ℕ) (b : Bool) (f : PlainSlave → Option Plain) → Refines w p → (t < length w.plan.slaves → b ≡ is_some (f (plain_slave p t)))
    → (nat_lt t (length w.slaves) && b) ≡ is_some (at_slave p t f)
both_let w p t b f s h = elim (cases_lt t (length w.plan.slaves)) [
  | inl l ↦ ap (λ x. x && b) (is_there w p t s l) ∙ (h l ∙ sym (ap is_some (at_there w p t f s l)))
  | inr l ↦ ap (λ x. x && b) (is_gone w p t s l) ∙ sym (ap is_some (at_none w p t f s l))
]

pub here_of : (w : WorldState) (p : Plain) (t : ℕ) (b : Bool) → Refines w p → (nat_lt t (length w.slaves) && b) ≡ true → t < length w.plan.slaves
here_of w p t b s e = elim (cases_lt t (length w.plan.slaves)) [
  | inl l ↦ l
  | inr l ↦ absurd (both_ways _ (is_gone w p t s l) (and_parts (nat_lt t (length w.slaves)) b e).0)
]

-- ---- a firmware step

managers_on : (s : SlaveState) → s ≡ power_on s.kind s.identity → (n : ℕ) → (manager_at s.managers n).mail ≡ None
managers_on s e n = ap (λ (x : SlaveState). (manager_at x.managers n).mail) e ∙ (ap (λ (ms : List SyncManager). (manager_at ms n).mail) (switched_on s.kind s.identity).managers ∙ go n)
  where
    go : (n : ℕ) → (manager_at (no_manager ∷ no_manager ∷ no_manager ∷ no_manager ∷ []) n).mail ≡ None
    go zero = refl
    go (suc zero) = refl
    go (suc (suc zero)) = refl
    go (suc (suc (suc zero))) = refl
    go (suc (suc (suc (suc n)))) = refl

quiet_on : (s : SlaveState) → s ≡ power_on s.kind s.identity → IsQuiet s
quiet_on s e =
    let on = switched_on s.kind s.identity in record {
      no_request = ap (λ (x : SlaveState). x.al.requested) e ∙ ap (λ (a : al.Al). a.requested) on.al;
      no_read = ap (λ (x : SlaveState). x.sii.busy) e ∙ ap (λ (p : Sii). p.busy) on.sii;
      no_message = λ n ne. managers_on s e n;
    }

pub quiet : (i : ℕ) (p : SlavePlan) (s : SlaveState) (q : PlainSlave) (x : Health) → IsAs i p s q x → IsQuiet s
quiet i p s q Reset h = quiet_on s h.as_on
quiet i p s q _ h = h.quiet

pub serve_shows : (w : WorldState) (p : Plain) (t : ℕ) → Refines w p → t < length w.plan.slaves
    → Refines (with_slave w t (served (slave_of w t))) p
serve_shows w p t s l =
    let same : set w.slaves t (served (slave_of w t)) ≡ w.slaves
    = ap (set w.slaves t) (quiet-rests (slave_of w t) (quiet t (slave_at w.plan t) (slave_of w t) (plain_slave p t) (plain_slave p t).health (s.slaves t l))) ∙ set-get_or w.slaves t no_slave in
    subst (λ (xs : List SlaveState). Refines (record w { slaves = xs }) p) (sym same) s

-- ---- a reset

reset_is : (p : SlavePlan) (s : SlaveState) → s.kind ≡ p.kind → IsReset p (power_on s.kind s.identity)
reset_is p s e =
    let on = switched_on s.kind s.identity in
    record {
      kind = on.kind_is ∙ e;
      as_on = sym (ap (λ (k : SlaveKind). power_on k (power_on s.kind s.identity).identity) on.kind_is ∙ ap (λ (i : Identity). power_on s.kind i) on.identity_is);
    }

kind_of : (i : ℕ) (p : SlavePlan) (s : SlaveState) (q : PlainSlave) (x : Health) → IsAs i p s q x → s.kind ≡ p.kind
kind_of i p s q Reset h = h.kind
kind_of i p s q _ h = h.holds.kind

pub reset_shows : (w : WorldState) (p : Plain) (t : ℕ) → Refines w p → t < length w.plan.slaves
    → Refines (with_slave w t (power_on (slave_of w t).kind (slave_of w t).identity)) (plain.with_slave p t (restarting (plain_slave p t)))
reset_shows w p t s l =
    let x = slave_of w t in
    slave_changed w p t (power_on x.kind x.identity) (restarting (plain_slave p t)) s
    (reset_is (slave_at w.plan t) x (kind_of t (slave_at w.plan t) x (plain_slave p t) (plain_slave p t).health (s.slaves t l))) l

-- ---- a fault

-- as it leaves a slave in OP
abbrev fallen : SlaveState → SlaveState
fallen s = record s { al = al.faulted s.al; managers = set s.managers 2 (outputs_lost s) }

pub out_length : (p : SlavePlan) → AreListed p → buffer_length (output_manager p) ≡ bytes_of_bits p.share.outs
out_length p a =
    let oc : ℕ = (out_manager p.kind.hardware).control in
    buffer_long p.share.outs p.kind.out_start oc (λ l. set_for_outs p.share.outs p.kind.out_start oc a.out_mode l a.out_fits) (buffered_outs p.share.outs p.kind.out_start oc a.out_mode)

pub state_on : (s : SlaveState) → s ≡ power_on s.kind s.identity → s.al.state ≡ Init
state_on s e = ap (λ (x : SlaveState). x.al.state) e ∙ ap (λ (a : al.Al). a.state) (switched_on s.kind s.identity).al

module _ (i : ℕ) (p : SlavePlan) (s : SlaveState) (q : PlainSlave) (fits : AreListed p) where
  pub two_there : Holds i p s → 3 < length s.managers
  two_there h = let e = length-map s.managers (λ m. m.settings) in let x = ap length h.managers in let y = ap length fits.managers in omega arith

  fault_is : IsWorking i p s q → IsFaulted i p (fallen s) (failing q)
  fault_is h =
      let m = outputs_lost s in
      let lost = (faults s).lost in
      let b : 2 < length s.managers = let x = two_there h.holds in omega arith in
      let own : manager_at (set s.managers 2 m) 2 ≡ m = get_or-set_same s.managers 2 m no_manager b in
      let other : manager_at (set s.managers 2 m) 3 ≡ manager_at s.managers 3 = get_or-set_other s.managers 2 3 m no_manager (omega arith) in
      let operational : al.is_operational s.al.state ≡ true = ap al.is_operational h.state in
      let len : buffer_length (manager_at s.managers 2).settings ≡ length q.outputs.published = ap buffer_length (third_held i p s h.holds fits) ∙ (out_length p fits ∙ sym h.process.out_bytes.published) in
      record {
        holds = still_holds i p s (al.faulted s.al) 2 m lost.settings h.holds;
        quiet = still_quiet s (al.faulted s.al) 2 m b (ap (λ (x : al.Al). x.requested) (if_true _ _ _ operational)) lost.mail h.quiet;
        process = record {
          outputs = ap (λ (x : SyncManager). x.buffer) own ∙ (lost.buffer ∙ ap emptied_buffer len);
          inputs = ap (λ (x : SyncManager). x.buffer) other ∙ h.process.inputs;
          out_bytes = record { published = length-replicate (length q.outputs.published) 0 ∙ h.process.out_bytes.published; draft = λ d e. absurd (none_some d e) };
          in_bytes = h.process.in_bytes;
        };
        state = ap (λ (x : al.Al). x.state) (if_true _ _ _ operational);
        error = ap (λ (x : al.Al). x.error) (if_true _ _ _ operational);
        out_locked = ap (λ (x : SyncManager). x.locked) own ∙ lost.locked;
        in_unlocked = ap (λ (x : SyncManager). x.locked) other ∙ h.in_unlocked;
      }

  pub fault_let : (x : Health) → IsAs i p s q x → al.is_operational s.al.state ≡ is_working x
  fault_let Reset h = ap al.is_operational (state_on s h.as_on)
  fault_let _ h = ap al.is_operational h.state

  pub fault_as : (x : Health) → IsAs i p s q x → is_working x ≡ true → IsFaulted i p (faulted s) (failing q)
  fault_as Working h e = subst (λ (y : SlaveState). IsFaulted i p y (failing q)) (sym ((faults s).in_op (ap al.is_operational h.state))) (fault_is h)
  fault_as _ h e = absurd (let z : false ≡ true = e in cc)

-- ---- bytes of a slave's application

-- ---- a buffer

drafted_length : (n : ℕ) (b : Buffer) (i : ℕ) (d : List ℕ) → IsOfLength n b → length d ≡ n → IsOfLength n (drafted b i d)
drafted_length n b i d h e = go (i + 1 == length b.published)
  where
    go : (c : Bool) → IsOfLength n (if c then record b { published = d; draft = None } else record b { draft = Some d })
    go true = record { published = e; draft = λ x q. absurd (none_some x q) }
    go false = record { published = h.published; draft = λ x q. subst (λ (y : List ℕ). length y ≡ n) (some_same d x q) e }

written_length : (n : ℕ) (b : Buffer) (i x : ℕ) (b2 : Buffer) → IsOfLength n b → app_written b i x ≡ Some b2 → IsOfLength n b2
unfolding app_written
written_length n b i x b2 h e = go (nat_lt i (length b.published)) (i == 0) e
  where
    next : (o : Option (List ℕ)) → ((d : List ℕ) → o ≡ Some d → length d ≡ n) → draft_next b i x o ≡ Some b2 → IsOfLength n b2
    next None k q = absurd (none_some b2 q)
    next (Some d) k q = subst (λ (y : Buffer). IsOfLength n y) (some_same _ b2 q) (drafted_length n b i (slice_set d i x) h (length-set d i x ∙ k d refl))

    go : (c z : Bool) → (if c then draft_next b i x (if z then Some (zeros (length b.published)) else b.draft) else None) ≡ Some b2 → IsOfLength n b2
    go false z q = absurd (none_some b2 q)
    go true true q = next (Some (zeros (length b.published))) (λ d y. subst (λ (v : List ℕ). length v ≡ n) (some_same _ d y) (length-replicate (length b.published) 0 ∙ h.published)) q
    go true false q = next b.draft h.draft q

none_written : (b : Buffer) (i x : ℕ) → length b.published ≡ 0 → app_written b i x ≡ None
unfolding app_written
none_written b i x e = if_false _ _ _ (le-ltb i (length b.published) (omega arith))

none_read : (b : Buffer) (i : ℕ) → length b.published ≡ 0 → app_read b i ≡ None
unfolding app_read
none_read b i e = if_false _ _ _ (le-ltb i (length b.published) (omega arith))

read_length : (n : ℕ) (b : Buffer) (i : ℕ) (g : Got) → IsOfLength n b → app_read b i ≡ Some g → IsOfLength n g.buffer
unfolding app_read
read_length n b i g h e = go (nat_lt i (length b.published)) (i == 0) e
  where
    next : (o : Option (List ℕ)) → view_next b i o ≡ Some g → IsOfLength n g.buffer
    next None q = absurd (none_some g q)
    next (Some v) q = subst (λ (y : Got). IsOfLength n y.buffer) (some_same _ g q) (record { published = h.published; draft = h.draft })

    go : (c z : Bool) → (if c then view_next b i (if z then Some b.published else b.view) else None) ≡ Some g → IsOfLength n g.buffer
    go false z q = absurd (none_some g q)
    go true true q = next (Some b.published) q
    go true false q = next b.view q

-- ---- a slave

mapped_twice : {X Y Z : Type 0} (f : Y → Z) (g : X → Y) (o : Option X) → option_map f (option_map g o) ≡ option_map (λ x. f (g x)) o
mapped_twice f g None = refl
mapped_twice f g (Some x) = refl

module _ (i : ℕ) (p : SlavePlan) (s : SlaveState) (q : PlainSlave) (fits : AreListed p) where
  abbrev m2 : SyncManager
  m2 = manager_at s.managers 2

  abbrev m3 : SyncManager
  m3 = manager_at s.managers 3

  abbrev put_into : Buffer → SlaveState
  put_into b = with_manager s 3 (record m3 { buffer = b })

  abbrev got_from : Buffer → SlaveState
  got_from b = with_manager s 2 (record m2 { buffer = b })

  -- what the application puts is the plain machine's
  put_is : (k x : ℕ) → Holds i p s → HoldsData p s q → m3.locked ≡ false → is_running s.al.state ≡ true → input_put s k x ≡ option_map put_into (app_written q.inputs k x)
  put_is k x h d u runs = if_true _ _ _ runs ∙ elim (cases_lt 0 p.share.ins) [
    | inl l ↦
        ap (option_map (with_manager s 3)) (if_true _ _ _ (ins_enabled m3 p.share.ins p.kind.in_start (in_manager p.kind.hardware).control fits.in_mode l fits.in_fits (fourth_held i p s h fits) u).1)
        ∙ (mapped_twice (with_manager s 3) (λ (b : Buffer). record m3 { buffer = b }) (app_written m3.buffer k x) ∙ ap (λ b. option_map put_into (app_written b k x)) d.inputs)
    | inr z ↦
        let none : p.share.ins ≡ 0 = omega arith in
        let off : is_set m3.settings ≡ false = ap is_set (fourth_held i p s h fits ∙ no_bits p.share.ins p.kind.in_start (in_manager p.kind.hardware).control none) ∙ unset in
        ap (option_map (with_manager s 3)) (if_false _ _ _ (and_left _ _ (and_left _ _ off)))
        ∙ sym (ap (option_map put_into) (none_written q.inputs k x (d.in_bytes.published ∙ ap bytes_of_bits none)))
  ]

  got_is : (k : ℕ) → Holds i p s → HoldsData p s q → m2.locked ≡ false → is_running s.al.state ≡ true → output_got s k ≡ app_read q.outputs k
  got_is k h d u runs = if_true _ _ _ runs ∙ elim (cases_lt 0 p.share.outs) [
    | inl l ↦ if_true _ _ _ (outs_enabled m2 p.share.outs p.kind.out_start (out_manager p.kind.hardware).control fits.out_mode l fits.out_fits (third_held i p s h fits) u).1 ∙ ap (λ b. app_read b k) d.outputs
    | inr z ↦
        let none : p.share.outs ≡ 0 = omega arith in
        let off : is_set m2.settings ≡ false = ap is_set (third_held i p s h fits ∙ no_bits p.share.outs p.kind.out_start (out_manager p.kind.hardware).control none) ∙ unset in
        if_false _ _ _ (and_left _ _ (and_left _ _ off)) ∙ sym (none_read q.outputs k (d.out_bytes.published ∙ ap bytes_of_bits none))
  ]

  pub put_by : (k x : ℕ) (h : Health) → IsAs i p s q h → input_put s k x ≡ (if not (is_reset h) then option_map put_into (app_written q.inputs k x) else None)
  put_by k x Reset w = if_false _ _ _ (ap is_running (state_on s w.as_on))
  put_by k x _ w = put_is k x w.holds w.process w.in_unlocked (ap is_running w.state)

  pub got_by : (k : ℕ) (h : Health) → IsAs i p s q h → output_got s k ≡ (if is_working h then app_read q.outputs k else None)
  got_by k Working w = got_is k w.holds w.process w.out_unlocked (ap is_running w.state)
  got_by k Faulted w = if_true _ _ _ (ap is_running w.state) ∙ if_false _ _ _ (locked_denies m2 w.out_locked).1
  got_by k Reset w = if_false _ _ _ (ap is_running (state_on s w.as_on))

  -- ---- the slave with another buffer in a manager

  own_of : (n : ℕ) (m : SyncManager) → n < 4 → Holds i p s → manager_at (slice_set s.managers n m) n ≡ m
  own_of n m l h = get_or-set_same s.managers n m no_manager (let x = two_there i p s q fits h in omega arith)

  others_of : (n k : ℕ) (m : SyncManager) → k ≢ n → manager_at (slice_set s.managers n m) k ≡ manager_at s.managers k
  others_of n k m ne = get_or-set_other s.managers n k m no_manager ne

  put_data : (b : Buffer) → IsOfLength (bytes_of_bits p.share.ins) b → Holds i p s → HoldsData p s q → HoldsData p (put_into b) (record q { inputs = b })
  put_data b len h d = assumption (
    len,
    ap (λ (x : SyncManager). x.buffer) (others_of 3 2 (record m3 { buffer = b }) (omega arith)) ∙ d.outputs,
    ap (λ (x : SyncManager). x.buffer) (own_of 3 (record m3 { buffer = b }) (omega arith) h),
  )

  put_shows : (h : Health) (k x : ℕ) (b : Buffer) → app_written q.inputs k x ≡ Some b → is_reset h ≡ false → IsAs i p s q h → IsAs i p (put_into b) (record q { inputs = b }) h
  put_shows Reset k x b e z w = absurd (let y : true ≡ false = z in cc)
  put_shows _ k x b e z w =
      let m : SyncManager = record m3 { buffer = b } in
      let four : 3 < length s.managers = two_there i p s q fits w.holds in
      let second : (v : Bool) → m2.locked ≡ v → (manager_at (put_into b).managers 2).locked ≡ v = λ v y. ap (λ (x : SyncManager). x.locked) (others_of 3 2 m (omega arith)) ∙ y in
      let free : (v : Bool) → m2.awaited ≡ v → (manager_at (put_into b).managers 2).awaited ≡ v = λ v y. ap (λ (x : SyncManager). x.awaited) (others_of 3 2 m (omega arith)) ∙ y in
      let held : HoldsData p (put_into b) (record q { inputs = b }) = put_data b (written_length (bytes_of_bits p.share.ins) q.inputs k x b w.process.in_bytes e) w.holds w.process in
      search (
        still_holds i p s s.al 3 m refl w.holds,
        still_quiet s s.al 3 m four refl (w.quiet.no_message 3 (λ e. omega (arith, e))) w.quiet,
        held,
        second,
        free,
        ap (λ (x : SyncManager). x.locked) (own_of 3 m (omega arith) w.holds) ∙ w.in_unlocked,
      )

  got_shows : (h : Health) (k : ℕ) (g : Got) → app_read q.outputs k ≡ Some g → is_working h ≡ true → IsAs i p s q h → IsAs i p (got_from g.buffer) (record q { outputs = g.buffer }) h
  got_shows Working k g e z w =
      let m : SyncManager = record m2 { buffer = g.buffer } in
      let four : 3 < length s.managers = two_there i p s q fits w.holds in
      let own = own_of 2 m (omega arith) w.holds in
      let other = others_of 2 3 m (omega arith) in
      let held : HoldsData p (got_from g.buffer) (record q { outputs = g.buffer })
      = assumption (ap (λ (x : SyncManager). x.buffer) own, ap (λ (x : SyncManager). x.buffer) other ∙ w.process.inputs, read_length (bytes_of_bits p.share.outs) q.outputs k g w.process.out_bytes e) in
      assumption (
        still_holds i p s s.al 2 m refl w.holds,
        still_quiet s s.al 2 m (omega arith) refl (w.quiet.no_message 2 (λ e. omega (arith, e))) w.quiet,
        held,
        ap (λ (x : SyncManager). x.locked) own ∙ w.out_unlocked,
        ap (λ (x : SyncManager). x.awaited) own ∙ w.out_free,
        ap (λ (x : SyncManager). x.locked) other ∙ w.in_unlocked,
      )
  got_shows _ k g e z w = absurd (let y : false ≡ true = z in cc)

-- ---- the events

abbrev put_plain : Plain → ℕ → ℕ → ℕ → PlainSlave → Option Plain
put_plain p t i x q = if not (is_reset q.health) then option_map (λ b. plain.with_slave p t (record q { inputs = b })) (app_written q.inputs i x) else None

guarded_let : {X Y Z : Type 0} (c : Bool) (f : X → Y) (g : X → Z) (o : Option X) → is_some (if c then option_map f o else None) ≡ is_some (if c then option_map g o else None)
guarded_let true f g None = refl
guarded_let true f g (Some x) = refl
guarded_let false f g o = refl

pub put_can : (w : WorldState) (p : Plain) (t i x : ℕ) → IsUsable w.plan → Refines w p
    → (nat_lt t (length w.slaves) && is_some (input_put (slave_of w t) i x)) ≡ is_some (at_slave p t (put_plain p t i x))
put_can w p t i x sound s = both_let w p t (is_some (input_put (slave_of w t) i x)) (put_plain p t i x) s (λ l.
    let q = plain_slave p t in
    ap is_some (put_by t (slave_at w.plan t) (slave_of w t) q (listed w.plan sound t l) i x q.health (s.slaves t l))
    ∙ guarded_let (not (is_reset q.health)) _ _ (app_written q.inputs i x))

pub put_shows_both : (w : WorldState) (p : Plain) (t i x : ℕ) (w2 : WorldState) → IsUsable w.plan → Refines w p
    → (nat_lt t (length w.slaves) && is_some (input_put (slave_of w t) i x)) ≡ true → Puts w t i x w2 → Refines w2 (unwrap_or (at_slave p t (put_plain p t i x)) p)
put_shows_both w p t i x w2 sound s can puts =
    let l = here_of w p t (is_some (input_put (slave_of w t) i x)) s can in
    let q = plain_slave p t in
    let by = put_by t (slave_at w.plan t) (slave_of w t) q (listed w.plan sound t l) i x q.health (s.slaves t l) in
    subst (λ (y : WorldState). Refines y (unwrap_or (at_slave p t (put_plain p t i x)) p)) (sym puts.is)
    (subst (λ (o : Option Plain). Refines (with_slave w t puts.slave) (unwrap_or o p)) (sym (at_there w p t (put_plain p t i x) s l))
    (go l (is_reset q.health) refl (app_written q.inputs i x) refl (sym puts.put ∙ by)))
  where
    go : t < length w.plan.slaves → (r : Bool) → is_reset (plain_slave p t).health ≡ r → (o : Option Buffer) → app_written (plain_slave p t).inputs i x ≡ o
        → Some puts.slave ≡ (if not (is_reset (plain_slave p t).health) then option_map (λ b. with_manager (slave_of w t) 3 (record (manager_at (slave_of w t).managers 3) { buffer = b })) (app_written (plain_slave p t).inputs i x) else None)
        → Refines (with_slave w t puts.slave) (unwrap_or (put_plain p t i x (plain_slave p t)) p)
    go l true e o h is = absurd (none_some puts.slave (sym (is ∙ if_false _ _ _ (ap not e))))
    go l false e None h is = absurd (none_some puts.slave (sym (is ∙ (if_true _ _ _ (ap not e) ∙ ap (option_map _) h))))
    go l false e (Some b) h is =
        let q = plain_slave p t in
        let a = slave_of w t in
        let put : SlaveState = with_manager a 3 (record (manager_at a.managers 3) { buffer = b }) in
        let same : puts.slave ≡ put = some_same puts.slave put (is ∙ (if_true _ _ _ (ap not e) ∙ ap (option_map _) h)) in
        let made : put_plain p t i x q ≡ Some (plain.with_slave p t (record q { inputs = b })) = if_true _ _ _ (ap not e) ∙ ap (option_map _) h in
        subst (λ (y : SlaveState). Refines (with_slave w t y) (unwrap_or (put_plain p t i x q) p)) (sym same)
        (subst (λ (o : Option Plain). Refines (with_slave w t put) (unwrap_or o p)) (sym made)
        (slave_changed w p t put (record q { inputs = b }) s (put_shows t (slave_at w.plan t) a q (listed w.plan sound t l) q.health i x b h e (s.slaves t l)) l))

abbrev get_plain : Plain → ℕ → ℕ → PlainSlave → Option Plain
get_plain p t i q = if is_working q.health then option_map (got_byte p t q) (app_read q.outputs i) else None

guarded_same : {X Y : Type 0} (c : Bool) (f : X → Y) (o : Option X) → is_some (if c then o else None) ≡ is_some (if c then option_map f o else None)
guarded_same true f None = refl
guarded_same true f (Some x) = refl
guarded_same false f o = refl

pub get_can : (w : WorldState) (p : Plain) (t i : ℕ) → IsUsable w.plan → Refines w p
    → (nat_lt t (length w.slaves) && is_some (output_got (slave_of w t) i)) ≡ is_some (at_slave p t (get_plain p t i))
get_can w p t i sound s = both_let w p t (is_some (output_got (slave_of w t) i)) (get_plain p t i) s (λ l.
    let q = plain_slave p t in
    ap is_some (got_by t (slave_at w.plan t) (slave_of w t) q (listed w.plan sound t l) i q.health (s.slaves t l))
    ∙ guarded_same (is_working q.health) (got_byte p t q) (app_read q.outputs i))

pub get_shows_both : (w : WorldState) (p : Plain) (t i : ℕ) (w2 : WorldState) → IsUsable w.plan → Refines w p
    → (nat_lt t (length w.slaves) && is_some (output_got (slave_of w t) i)) ≡ true → Gets w t i w2 → Refines w2 (unwrap_or (at_slave p t (get_plain p t i)) p)
get_shows_both w p t i w2 sound s can gets =
    let l = here_of w p t (is_some (output_got (slave_of w t) i)) s can in
    let q = plain_slave p t in
    let a = slave_of w t in
    let by = got_by t (slave_at w.plan t) a q (listed w.plan sound t l) i q.health (s.slaves t l) in
    subst (λ (y : WorldState). Refines y (unwrap_or (at_slave p t (get_plain p t i)) p)) (sym gets.is)
    (subst (λ (o : Option Plain). Refines (record (with_slave w t (output_taken a (Some gets.got))) { got = Some gets.got.byte }) (unwrap_or o p)) (sym (at_there w p t (get_plain p t i) s l))
    (go l (is_working q.health) refl (sym gets.read ∙ by)))
  where
    go : t < length w.plan.slaves → (r : Bool) → is_working (plain_slave p t).health ≡ r
        → Some gets.got ≡ (if is_working (plain_slave p t).health then app_read (plain_slave p t).outputs i else None)
        → Refines (record (with_slave w t (output_taken (slave_of w t) (Some gets.got))) { got = Some gets.got.byte }) (unwrap_or (get_plain p t i (plain_slave p t)) p)
    go l false e is = absurd (none_some gets.got (sym (is ∙ if_false _ _ _ e)))
    go l true e is =
        let q = plain_slave p t in
        let a = slave_of w t in
        let pl = slave_at w.plan t in
        let g = gets.got in
        let h : app_read q.outputs i ≡ Some g = sym (is ∙ if_true _ _ _ e) in
        let made : get_plain p t i q ≡ Some (got_byte p t q g) = if_true _ _ _ e ∙ ap (option_map (got_byte p t q)) h in
        let c = slave_changed w p t (output_taken a (Some g)) (record q { outputs = g.buffer }) s (got_shows t pl a q (listed w.plan sound t l) q.health i g h e (s.slaves t l)) l in
        subst (λ (o : Option Plain). Refines (record (with_slave w t (output_taken a (Some g))) { got = Some g.byte }) (unwrap_or o p)) (sym made)
        (master_changed (with_slave w t (output_taken a (Some g))) (plain.with_slave p t (record q { outputs = g.buffer })) (got_byte p t q g) w.master w.report (Some g.byte) c
        c.is_ready c.same_plan c.outputs c.inputs c.next refl c.cycle c.report)
