-- A linked bit of a variable, as a bit of the image.
use Rattle.ec_world.proofs.Words.{IsUnstopped, ℕ, ◌+◌, ◌*◌, ◌/◌, ◌%◌, ◌≤◌, ◌≡◌, ◌==◌, false, ◌∙◌, ap, arith, List, length, get_or, if◌then◌else◌, slice_get, zero, suc, ◌<◌, ◌≢◌, ◌⊎◌, ◌&&◌, Bool, true, Option, Some, None, refl, sym, subst, inl, inr, [], ◌∷◌, ◌++◌, map, set, replicate, is_some, option_map, unwrap_or, nat_lt, get_or-set_same, get_or-set_other, bit_at, get_or_past, set-get_or, bit_at-zero, bit, bytes_of_bits, bit_at-bits_number, Direction, Contents, Variable, is_out, IsLinked, image_from, HasBit, output_manager, plan_of, PlanState, part_of, variables_are_placed, linked_bits_are_there, value_at, WorldState, Flight, slave_of, no_slave, flight_at, flight_progress, is_up, Passes, IsStep, variable_bit, IsMade, HeadlineIsBegun as IsBegun, HadTrouble, IsInOp, progress_at, output_bits, input_bits, ShowsLinked, PassShows, option_map_or, cases_Bool, cases_lt, and_from, and_left, eqb-true, eq-eqb, lt-ltb, le-ltb, true≢false, slice_get-get_or, slice_get_within, if_true, if_false, Identity, SyncManagerSettings, is_set, is_buffered, Init, SafeOp, Op, Buffer, SyncManager, no_manager, Al, switched_on, SlaveState, manager_at, with_memory, with_outputs, with_published, outputs_shown, Out, SlaveRow, object_bits, Share, SlavePlan, Gave, has_outs, compile_fault, AreItsLinks, Meaning, meaning, share_of, out_source, slave_at as settings_of, no_slave_plan, IsUsable, listed, plan_sound, plan_usable, links_are_the_tables, AreStartable, are-plans, Event, Begin, Pass, Progress, Plain, PlainSlave, PlainFrame, Health, Working, Faulted, Reset, step, run, frame_at, plain_slave, linked_outputs, progress_of, given_by, given_in, slave_left, IsAs, IsWorking, Refines, IsRun, IsNew, plain_of, AreLinked, some_same, within_of, State, Rising, HasRoom, room_law}
use Rattle.ec_table.specs.Sound as table
use Rattle.ec_link.specs.Sound as link
use Rattle.ec_world.proofs.Refinement.FrameEvents.{has_met, same_way}
use Rattle.ec_world.proofs.Refinement.CyclicFrame.{share_is}
use Rattle.ec_world.proofs.Refinement.ProcessManagers.{for_bits, some_bits, no_bits, unset, third_held, holds_mapped, set_for_outs, buffered_outs}
use Rattle.ec_device.specs.Hardware.{out_manager}
use Rattle.ec_world.proofs.Refinement.ApplicationEvents.{two_there}
use Rattle.ec_world.proofs.Headline.Buffers.{only_publishes}
use Rattle.ec_world.proofs.Refinement.StepsRefine.{runs_refine, steps_refine}
use Rattle.ec_world.proofs.StartUp.WholeLaw.{new-rises, new-low}
use Rattle.ec_world.proofs.Runs.PlanLaw.{run_keeps}
use Rattle.ec_world.proofs.Runs.Unstopped.{still_at, still_next}
use Rattle.ec_world.proofs.Cycles.InputsLaw.{linked as linked_exactly}
use Rattle.ec_world.proofs.Runs.SnapshotsLaw.{snapshots_law}
use Rattle.ec_world.proofs.Runs.TroubleLaw.{none_flagged, started, made_later, Started}
use Rattle.ec_world.proofs.Runs.BeganAt.{BeganAt, are_begun, begun_of, begun_on}

-- no bit past the end
pub bit_past : (xs : List ℕ) (i : ℕ) → 8 * length xs ≤ i → bit xs i ≡ false
unfolding bit
bit_past xs i l =
    let z : get_or xs (i / 8) 0 ≡ 0 = get_or_past xs (i / 8) 0 (omega (arith, l)) in
    ap (λ x. bit_at x (i % 8) == 1) z ∙ ap (λ x. x == 1) (bit_at-zero (i % 8))

pub visible_bit : (t : Contents) (w : WorldState) (d : Direction) (x b : ℕ) → HasBit t d x b → w.master.plan.variables ≡ (plan_of t).variables
    → variable_bit w x b ≡ bit (if is_out d then w.master.outputs else w.master.inputs) (image_from t.variables x + b)
visible_bit t w d x b h same =
    let at = variables_are_placed t x h.row h.there in
    let v : Variable = at.placed in
    ap (λ o. bit_at (value_at w.master o) b == 1) (ap (λ vs. slice_get vs x) same ∙ at.there)
    ∙ (bit_at-bits_number (if is_out v.direction then w.master.outputs else w.master.inputs) v.from v.bits b (omega (arith, h.inside, at.bits))
    ∙ (ap (λ (n : ℕ). bit (if is_out v.direction then w.master.outputs else w.master.inputs) (n + b)) at.from
    ∙ ap (λ (e : Direction). bit (if is_out e then w.master.outputs else w.master.inputs) (image_from t.variables x + b)) (at.way ∙ h.way)))

-- ---- the headline, of what a world's calls show

-- ---- an event of a world's run, where the plain run makes it

pub record Cut (old : WorldState) (xs : List Event) (e : Event) (ys : List Event) (new : WorldState) : Type 0 where
  pub at : WorldState
  pub next : WorldState
  pub one : Bool
  pub first : ℕ
  pub rest : ℕ
  pub to_it : IsRun old xs at first
  pub step : IsStep at e next one
  pub onward : IsRun next ys new rest

pub cut : (old : WorldState) (xs : List Event) (e : Event) (ys : List Event) (new : WorldState) (made : ℕ) → IsRun old (xs ++ (e ∷ ys)) new made → Cut old xs e ys new
cut old [] e ys new made h = record { at = old; next = h.0; one = h.1; first = 0; rest = h.2; to_it = (refl, refl); step = h.3; onward = h.4 }
cut old (x ∷ xs) e ys new made h =
    let c = cut h.0 xs e ys new h.2 h.4 in
    record { at = c.at; next = c.next; one = c.one; first = (if h.1 then 1 else 0) + c.first; rest = c.rest; to_it = (h.0, h.1, c.first, h.3, c.to_it, refl); step = c.step; onward = c.onward }

-- the world before and behind it show what the plain run has there
pub record MadeAt (m : Meaning) (old : WorldState) (p : Plain) (events : List Event) (xs : List Event) (e : Event) (ys : List Event) (q : Plain) (new : WorldState) : Type 0 where
  pub made : IsMade old events new e
  pub before_is : made.before ≡ xs
  pub behind_is : made.behind ≡ ys
  pub at_plan : made.at.plan ≡ old.plan
  pub next_plan : made.next.plan ≡ old.plan
  pub next_start : made.next.start ≡ old.start
  pub at_shows : Refines made.at (run m p xs).plain
  pub next_shows : Refines made.next q

pub made_at : (old : WorldState) (p : Plain) (events : List Event) (new : WorldState) (count : ℕ) (xs : List Event) (e : Event) (ys : List Event) (q : Plain)
    → IsUsable old.plan → Refines old p → IsRun old events new count → IsUnstopped old new → events ≡ xs ++ (e ∷ ys) → step (meaning old.plan) (run (meaning old.plan) p xs).plain e ≡ Some q
    → MadeAt (meaning old.plan) old p events xs e ys q new
made_at old p events new count xs e ys q sound s h still split does =
    let c = cut old xs e ys new count (subst (λ (zs : List Event). IsRun old zs new count) split h) in
    let still_at : IsUnstopped old c.at = still_at old xs c.at c.first (e ∷ ys) new _ s.started c.to_it (c.next, c.one, c.rest, c.step, c.onward, refl) still in
    let at = (runs_refine old xs c.at c.first sound c.to_it).shown p s still_at in
    let still_on : IsUnstopped c.at c.next = still_next c.at e c.next c.one ys new c.rest at.started c.step c.onward (still ∙ sym still_at) in
    let same : c.at.plan ≡ old.plan = run_keeps old xs c.at c.first c.to_it in
    let x = (run (meaning old.plan) p xs).plain in
    let one = steps_refine c.at e c.next c.one (subst IsUsable (sym same) sound) c.step in
    let here : step (meaning c.at.plan) x e ≡ Some q = ap (λ (y : PlanState). step (meaning y) x e) same ∙ does in
    let done : c.one ≡ true = one.made_is x at still_on ∙ ap (λ o. is_some o) here in
    record {
      made = record {
        before = xs;
        behind = ys;
        split = split;
        at = c.at;
        next = c.next;
        first = c.first;
        rest = c.rest;
        to_it = c.to_it;
        step = subst (λ (b : Bool). IsStep c.at e c.next b) done c.step;
        onward = c.onward;
      };
      before_is = refl;
      behind_is = refl;
      at_plan = same;
      next_plan = one.same_plan x at ∙ same;
      next_start = still_on ∙ still_at;
      at_shows = at;
      next_shows = subst (λ o. Refines c.next (unwrap_or o x)) here (one.shown x at still_on);
    }

-- ---- what holds of a world that is Ready

pub record Sees (t : Contents) (old : WorldState) (events : List Event) (w : WorldState) : Type 0 where
  pub flags : List Bool
  pub start : Started old events w flags
  pub open start use {before, after, split, ready, first, rest, to_ready, onward, unstopped}
  pub plan_is : ready.plan ≡ plan_of t
  pub usable : IsUsable ready.plan
  pub shows : Refines ready (plain_of ready)
  pub shown : Refines w (run (meaning ready.plan) (plain_of ready) after).plain
  pub plan_kept : w.plan ≡ plan_of t
  pub still_usable : IsUsable w.plan
  pub told : (i : ℕ) → i < length ready.plan.slaves → ((plain_slave (plain_of ready) i).health ≡ Working) ⊎ HadTrouble old before ready i

pub sees : (t : Contents) (identities : List Identity) (old : WorldState) (events : List Event) (w : WorldState) (made : ℕ) → IsNew t identities old → IsRun old events w made → is_up w.start ≡ true → Sees t old events w
sees t ids old events w made n h up =
    let plan = plan_of t in
    let sound : IsUsable plan = plan_usable t n.sound n.accepted in
    let planned : AreStartable plan.slaves = (let a = (are-plans t n.sound n.accepted).plans in record { each = a.planned; alike = a.alike }) in
    let many : length ids ≡ length plan.slaves = let x = n.one_each in let y = (plan_sound t n.sound n.accepted).as_many in omega (arith, x, y) in
    let flags : List Bool = replicate (length plan.slaves) false in
    let old_plan : old.plan ≡ plan = ap (λ (x : WorldState). x.plan) n.is in
    let s = started events old w made flags (subst IsUsable (sym old_plan) sound) (subst (λ (x : PlanState). AreStartable x.slaves) (sym old_plan) planned)
    (subst (Rising flags) (sym n.is) (new-rises plan ids sound planned many)) (ap (λ (x : WorldState). is_up x.start) n.is ∙ new-low plan ids) h up in
    let is : s.ready.plan ≡ plan = s.plan_is ∙ old_plan in
    let usable : IsUsable s.ready.plan = subst IsUsable (sym is) sound in
    let kept : w.plan ≡ plan = run_keeps s.ready s.after w s.rest s.onward ∙ is in
    record {
      flags = flags;
      start = s;
      plan_is = is;
      usable = usable;
      shows = s.is_ready.shows;
      shown = (runs_refine s.ready s.after w s.rest usable s.onward).shown (plain_of s.ready) s.is_ready.shows s.unstopped;
      plan_kept = kept;
      still_usable = subst IsUsable (sym kept) sound;
      told = λ i l. elim (s.is_ready.told i l) [
        | inl works ↦ inl works
        | inr flag ↦ elim (s.origin i flag) [ inl none ↦ absurd (true≢false (sym none.0 ∙ none_flagged (length plan.slaves) i)) | inr had ↦ inr had ]
      ];
    }

-- ---- a pass

-- the plain frame in the slot, and what the pass does
pub record PassedOn (w : WorldState) (p : Plain) (k : ℕ) (f : Progress) (v : WorldState) : Type 0 where
  pub frame : PlainFrame
  pub there : frame_at p k ≡ Some frame
  pub same : progress_of frame ≡ f
  pub here : length frame.notes < length w.plan.slaves
  pub slave : slave_of v (length frame.notes) ≡ slave_left (meaning w.plan) (length frame.notes) frame (plain_slave p (length frame.notes)) (slave_of w (length frame.notes))
  pub others : (s : ℕ) → s ≢ length frame.notes → slave_of v s ≡ slave_of w s
  pub goes_on : progress_at v k ≡ Some (record { number = frame.number; part = frame.part; passed = length frame.notes + 1 })
  pub slots : (j : ℕ) → j ≢ k → flight_at v j ≡ flight_at w j
  pub rest : v ≡ record w { slaves = v.slaves; slots = v.slots }

pub passed_on : (old : WorldState) (p : Plain) (k : ℕ) (f : Progress) (new : WorldState) → IsUsable old.plan → Refines old p → progress_at old k ≡ Some f → IsStep old (Pass k) new true → PassedOn old p k f new
passed_on old p k f new sound s at h =
    let pass : Passes old k new = h.happens refl in
    let x = pass.flight in
    let met = has_met old p k new sound s (sym h.can) pass in
    let g = met.both.frame in
    let t = length g.notes in
    let inside : t < length old.slaves = omega (arith, met.here, s.count) in
    let on : Flight = record x { bytes = pass.bytes; passed = x.passed + 1 } in
    let own : flight_progress x ≡ f = some_same (flight_progress x) f (sym (ap (option_map flight_progress) pass.there) ∙ at) in
    let slots : new.slots ≡ set old.slots k (Some on) = ap (λ (w : WorldState). w.slots) pass.is in
    record {
      frame = g;
      there = met.both.there;
      same = sym (same_way x g met.both.number met.both.part met.both.passed) ∙ own;
      here = met.here;
      slave = ap (λ (ss : List SlaveState). get_or ss t no_slave) met.slaves ∙ (get_or-set_same old.slaves t met.after no_slave inside ∙ met.one.slave);
      others = λ u ne. ap (λ (ss : List SlaveState). get_or ss u no_slave) met.slaves ∙ get_or-set_other old.slaves t u met.after no_slave ne;
      goes_on = ap (λ os. option_map flight_progress (get_or os k None)) slots
          ∙ (ap (option_map flight_progress) (get_or-set_same old.slots k (Some on) None (within_of old.slots k x pass.there))
          ∙ ap (λ (r : Progress). Some (record { number = r.number; part = r.part; passed = r.passed + 1 })) (same_way x g met.both.number met.both.part met.both.passed));
      slots = λ j ne. ap (λ os. get_or os j None) slots ∙ get_or-set_other old.slots k j (Some on) None ne;
      rest = pass.is ∙ ap (λ os. record old { slaves = new.slaves; slots = os }) (sym slots);
    }

-- ---- health and state

-- the AL state of a slave that refines a plain one tells its health, and its health tells the state
abbrev pub state_in : Health → State
state_in Working = Op
state_in Faulted = SafeOp
state_in Reset = Init

pub state_is : (i : ℕ) (x : SlavePlan) (s : SlaveState) (q : PlainSlave) (h : Health) → IsAs i x s q h → s.al.state ≡ state_in h
state_is i x s q Working a = a.state
state_is i x s q Faulted a = a.state
state_is i x s q Reset a = ap (λ (y : SlaveState). y.al.state) a.as_on ∙ ap (λ (y : Al). y.state) (switched_on s.kind s.identity).al

same_health : (g h : Health) → state_in g ≡ state_in h → g ≡ h
same_health Working Working e = refl
same_health Faulted Faulted e = refl
same_health Reset Reset e = refl
same_health _ _ e = absurd cc

pub health_is : (i : ℕ) (x : SlavePlan) (s : SlaveState) (q : PlainSlave) (h k : Health) → IsAs i x s q h → s.al.state ≡ state_in k → h ≡ k
health_is i x s q h k a e = same_health h k (sym (state_is i x s q h a) ∙ e)

pub op_works : (w : WorldState) (p : Plain) (s : ℕ) → Refines w p → s < length w.plan.slaves → IsInOp w s → (plain_slave p s).health ≡ Working
op_works w p s h l op = health_is s (settings_of w.plan s) (slave_of w s) (plain_slave p s) (plain_slave p s).health Working (h.slaves s l) op

pub works_op : (w : WorldState) (p : Plain) (s : ℕ) → Refines w p → s < length w.plan.slaves → (plain_slave p s).health ≡ Working → IsInOp w s
works_op w p s h l works = state_is s (settings_of w.plan s) (slave_of w s) (plain_slave p s) (plain_slave p s).health (h.slaves s l) ∙ ap state_in works

-- ---- the slave behind a frame

not_wrote : (m : Meaning) (t : ℕ) (f : PlainFrame) (q : PlainSlave) → (q.health ≡ Working → (share_of m t).part ≢ f.part) → (given_in m t f q).wrote ≡ false
not_wrote m t f q h = elim (cases_Bool ((share_of m t).part == f.part)) [
  | inr off ↦ ap (λ (g : Gave). g.wrote) (if_false _ _ _ off)
  | inl on ↦ ap (λ (g : Gave). g.wrote) (if_true _ _ _ on) ∙ by q.health refl (eqb-true _ _ on)
]
  where
    by : (x : Health) → q.health ≡ x → (share_of m t).part ≡ f.part → (given_by (share_of m t) x).wrote ≡ false
    by Working e own = absurd (h e own)
    by _ e own = refl

-- in OP, of the frame's part
in_op_left : (m : Meaning) (t : ℕ) (f : PlainFrame) (q : PlainSlave) (s : SlaveState) → q.health ≡ Working → (share_of m t).part ≡ f.part
    → slave_left m t f q s ≡ (if has_outs (share_of m t) then with_outputs s (linked_outputs m t f.snapshot) else s)
in_op_left m t f q s e own =
    let same : (given_in m t f q).wrote ≡ has_outs (share_of m t)
    = ap (λ (g : Gave). g.wrote) (if_true _ _ _ (eq-eqb _ _ own)) ∙ ap (λ (h : Health). (given_by (share_of m t) h).wrote) e in
    ap (λ (b : Bool). if b then with_outputs s (linked_outputs m t f.snapshot) else s) same

-- sync manager 2 of a slave in OP
manager_held : (plan : PlanState) (t : ℕ) (s : SlaveState) (q : PlainSlave) → IsUsable plan → t < length plan.slaves → IsWorking t (settings_of plan t) s q → (manager_at s.managers 2).settings ≡ output_manager (settings_of plan t)
manager_held plan t s q sound l works = third_held t (settings_of plan t) s works.holds (listed plan sound t l)

manager_good : (plan : PlanState) (t : ℕ) (s : SlaveState) (q : PlainSlave) → IsUsable plan → t < length plan.slaves → IsWorking t (settings_of plan t) s q → 0 < (settings_of plan t).share.outs
    → (is_set (manager_at s.managers 2).settings && is_buffered (manager_at s.managers 2).settings) ≡ true
manager_good plan t s q sound l works some =
    let x = settings_of plan t in
    let oc : ℕ = (out_manager x.kind.hardware).control in
    let a = listed plan sound t l in
    let set : (manager_at s.managers 2).settings ≡ for_bits x.share.outs x.kind.out_start oc = manager_held plan t s q sound l works ∙ some_bits x.share.outs x.kind.out_start oc some in
    ap (λ (y : SyncManagerSettings). is_set y && is_buffered y) set ∙ and_from _ _ (set_for_outs x.share.outs x.kind.out_start oc a.out_mode some a.out_fits) (buffered_outs x.share.outs x.kind.out_start oc a.out_mode)

-- what it shows: what was published last, or nothing where it has no outputs
pub record ShownAs (plan : PlanState) (t : ℕ) (s : SlaveState) (q : PlainSlave) : Type 0 where
  pub some : 0 < (settings_of plan t).share.outs → outputs_shown s ≡ q.outputs.published
  pub none : (settings_of plan t).share.outs ≡ 0 → outputs_shown s ≡ []

pub shown_as : (plan : PlanState) (t : ℕ) (s : SlaveState) (q : PlainSlave) → IsUsable plan → t < length plan.slaves → IsWorking t (settings_of plan t) s q → ShownAs plan t s q
shown_as plan t s q sound l works = record {
  some = λ some. if_true _ _ _ (manager_good plan t s q sound l works some) ∙ ap (λ (b : Buffer). b.published) works.process.outputs;
  none = λ none. if_false _ _ _ (ap (λ (y : SyncManagerSettings). is_set y && is_buffered y) (manager_held plan t s q sound l works ∙ no_bits x.share.outs x.kind.out_start (out_manager x.kind.hardware).control none) ∙ and_left _ _ unset);
}
  where
    x : SlavePlan
    x = settings_of plan t

-- what a slave in OP shows behind a frame: what was published, or nothing where it has no outputs
pub record Showing (plan : PlanState) (t : ℕ) (s : SlaveState) (value : List ℕ) (after : SlaveState) : Type 0 where
  pub shown : (0 < (settings_of plan t).share.outs) → outputs_shown after ≡ value
  pub nothing : (settings_of plan t).share.outs ≡ 0 → outputs_shown after ≡ []
  pub is : after ≡ with_outputs s (outputs_shown after)

showing : (plan : PlanState) (t : ℕ) (s : SlaveState) (q : PlainSlave) (value : List ℕ) (after : SlaveState) → IsUsable plan → t < length plan.slaves → IsWorking t (settings_of plan t) s q
    → after ≡ (if nat_lt 0 (settings_of plan t).share.outs then with_outputs s value else s) → Showing plan t s value after
showing plan t s q value after sound l works is = elim (cases_lt 0 (settings_of plan t).share.outs) [
  | inl some ↦
      let left : after ≡ with_outputs s value = is ∙ if_true _ _ _ (lt-ltb 0 x.share.outs some) in
      let shows : outputs_shown after ≡ value = ap outputs_shown left ∙ published some in
      record { shown = λ k. shows; nothing = λ e. absurd (omega (arith, some, e)); is = left ∙ ap (with_outputs s) (sym shows) }
  | inr few ↦
      let none : x.share.outs ≡ 0 = omega (arith, few) in
      let left : after ≡ s = is ∙ if_false _ _ _ (le-ltb 0 x.share.outs few) in
      let shows : outputs_shown after ≡ [] = ap outputs_shown left ∙ (shown_as plan t s q sound l works).none none in
      record { shown = λ k. absurd (omega (arith, k, none)); nothing = λ e. shows; is = left ∙ (own none ∙ ap (with_outputs s) (sym shows)) }
]
  where
    x : SlavePlan
    x = settings_of plan t

    M : SyncManager
    M = manager_at s.managers 2

    published : 0 < x.share.outs → outputs_shown (with_outputs s value) ≡ value
    published some =
        let four = (holds_mapped t x s works.holds (listed plan sound t l)).four in
        let at : manager_at (set s.managers 2 (with_published M value)) 2 ≡ with_published M value = get_or-set_same s.managers 2 (with_published M value) no_manager (omega (arith, four)) in
        ap (λ (y : SyncManager). if is_set y.settings && is_buffered y.settings then y.buffer.published else []) at ∙ if_true _ _ _ (manager_good plan t s q sound l works some)

    empty : (ys : List ℕ) → length ys ≡ 0 → ys ≡ []
    empty [] e = refl
    empty (y ∷ ys) e = absurd (omega (arith, e))

    own : x.share.outs ≡ 0 → s ≡ with_outputs s []
    own none =
        let bytes : length M.buffer.published ≡ bytes_of_bits x.share.outs = ap (λ (b : Buffer). length b.published) works.process.outputs ∙ works.process.out_bytes.published in
        let zero_bytes : length M.buffer.published ≡ 0 = bytes ∙ ap bytes_of_bits none in
        let same : with_published M [] ≡ M
        = ap (with_published M) (sym (empty M.buffer.published zero_bytes)) ∙ ap (λ (x : Bool). record M { awaited = x }) (sym works.out_free) in
        sym (ap (λ ms. with_memory s s.memory ms) (ap (λ (y : SyncManager). set s.managers 2 y) same ∙ set-get_or s.managers 2 no_manager))

-- ---- the plan of a table

pub part_is : (plan : PlanState) (s : ℕ) → s < length plan.slaves → part_of plan s ≡ (share_of (meaning plan) s).part
part_is plan s l =
    ap (λ o. option_map_or (λ (x : SlavePlan). x.share.part) o 0) (slice_get-get_or plan.slaves s no_slave_plan l)
    ∙ ap (λ (h : Share). h.part) (sym (share_is plan s))

-- the row of a slave
pub row_of : (t : Contents) → link.IsSound t (plan_of t) → (s : ℕ) → s < length (plan_of t).slaves → (row : SlaveRow) × (slice_get t.slaves s ≡ Some row)
row_of t sound s l =
    let row : SlaveRow = get_or t.slaves s (record { name = []; type_index = 0; serial = 0; outputs = []; inputs = []; unit = 0; init = [] }) in
    (row, slice_get-get_or t.slaves s _ (let x = sound.as_many in omega (arith, l, x)))

-- its bits are mapped, in as many bytes
pub outs_room : (t : Contents) → link.IsSound t (plan_of t) → (s : ℕ) → s < length (plan_of t).slaves → HasRoom (settings_of (plan_of t) s).share.outs (output_bits t s)
outs_room t sound s l =
    let r = row_of t sound s l in
    subst (λ (n : ℕ). HasRoom n (output_bits t s)) (sym (sound.each s r.0 r.1).outs) (room_law (settings_of (plan_of t) s).kind.hardware (output_bits t s))

pub ins_room : (t : Contents) → link.IsSound t (plan_of t) → (s : ℕ) → s < length (plan_of t).slaves → HasRoom (settings_of (plan_of t) s).share.ins (input_bits t s)
ins_room t sound s l =
    let r = row_of t sound s l in
    subst (λ (n : ℕ). HasRoom n (input_bits t s)) (sym (sound.each s r.0 r.1).ins) (room_law (settings_of (plan_of t) s).kind.hardware (input_bits t s))

pub free_slots : {X Y : Type 0} (os : List X) (k : ℕ) → (let none : Option Y = None in get_or (map (λ (o : X). none) os) k none) ≡ None
free_slots [] k = refl
free_slots (o ∷ os) zero = refl
free_slots (o ∷ os) (suc k) = free_slots os k

-- ---- a slave that shows its linked bits

-- where a slave with outputs shows the linked outputs of the image of a world, and one without shows nothing
pub shows_linked : (t : Contents) → table.IsSound t → compile_fault t ≡ None → (plan : PlanState) → plan ≡ plan_of t → (source v : WorldState) (u : ℕ) → u < length plan.slaves
    → source.master.plan.variables ≡ (plan_of t).variables
    → (0 < (settings_of plan u).share.outs → outputs_shown (slave_of v u) ≡ linked_outputs (meaning plan) u source.master.outputs)
    → ((settings_of plan u).share.outs ≡ 0 → outputs_shown (slave_of v u) ≡ []) → ShowsLinked t source v u
shows_linked t fine free plan is source v u here variables shown nothing = record {
  linked = λ x c i l.
      let within = slice_get_within (object_bits t u Out) i _ l.object_is in
      let some : 0 < (settings_of plan u).share.outs = omega (arith, outs.room, within) in
      let inside : i < 8 * length value = omega (arith, outs.room, share, within, fits.size) in
      let source_is : out_source plan.out_links u i ≡ Some (image_from t.variables x + c) = (links.outputs u i (image_from t.variables x + c)).1 (record { variable = x; bit = c; linked = l; image_is = refl }) in
      ap (λ ys. bit ys i) (shown some)
      ∙ (fits.each i inside
      ∙ (ap (λ o. unwrap_or (option_map (bit source.master.outputs) o) false) source_is
      ∙ sym (visible_bit t source Out x c (linked_bits_are_there t free Out x c u i l) variables)));
  unlinked = λ i none. elim (cases_lt 0 (settings_of plan u).share.outs) [
    | inl some ↦ ap (λ ys. bit ys i) (shown some) ∙ elim (cases_lt i (8 * length value)) [
      | inl l ↦ fits.each i l ∙ off i (out_source plan.out_links u i) refl none
      | inr past ↦ bit_past value i past
    ]
    | inr few ↦ ap (λ ys. bit ys i) (nothing (omega (arith, few))) ∙ bit_past [] i (omega arith)
  ];
  size = elim (cases_lt 0 (settings_of plan u).share.outs) [
    | inl some ↦ ap length (shown some) ∙ (fits.size ∙ (ap bytes_of_bits share ∙ outs.bytes))
    | inr few ↦ ap length (nothing (omega (arith, few))) ∙ (ap bytes_of_bits (let z : 0 ≡ (settings_of plan u).share.outs = omega (arith, few) in z) ∙ outs.bytes)
  ];
}
  where
    value : List ℕ
    value = linked_outputs (meaning plan) u source.master.outputs

    fits : AreLinked (meaning plan) u source.master.outputs value
    fits = linked_exactly (meaning plan) u source.master.outputs

    share : (share_of (meaning plan) u).outs ≡ (settings_of plan u).share.outs
    share = ap (λ (x : Share). x.outs) (share_is plan u)

    in_plan : u < length (plan_of t).slaves
    in_plan = let y = ap (λ (z : PlanState). length z.slaves) is in omega (arith, here, y)

    outs : HasRoom (settings_of plan u).share.outs (output_bits t u)
    outs = subst (λ (z : PlanState). HasRoom (settings_of z u).share.outs (output_bits t u)) (sym is) (outs_room t (plan_sound t fine free) u in_plan)

    links : AreItsLinks t plan
    links = subst (AreItsLinks t) (sym is) (links_are_the_tables t fine free)

    off : (i : ℕ) (a : Option ℕ) → out_source plan.out_links u i ≡ a → ((x c : ℕ) → IsLinked t Out x c u i → ⊥) → unwrap_or (option_map (bit source.master.outputs) a) false ≡ false
    off i None e none = refl
    off i (Some c) e none = absurd (let pair = (links.outputs u i c).0 e in none pair.variable pair.bit pair.linked)

-- ---- a pass

pub headline_outputs : (t : Contents) (identities : List Identity) (old : WorldState) (events : List Event) (w : WorldState) (made : ℕ) → IsNew t identities old → IsRun old events w made → is_up w.start ≡ true
    → (k : ℕ) (v : WorldState) → IsStep w (Pass k) v true → (f : Progress) → progress_at w k ≡ Some f → PassShows t old events w k f v
headline_outputs t ids old events w made n h up k v does f at = subst (λ (g : Progress). PassShows t old events w k g v) o.same (record {
  begun = begun;
  shows = λ op own. shows_linked t n.sound n.accepted w.plan s.plan_kept begun.event.at v u o.here variables_then
      (λ some. (showing_in op own).shown some ∙ ap (linked_outputs m u) snapshot) (showing_in op own).nothing;
  slave = λ op own. only_publishes (slave_of w u) (outputs_shown (slave_of v u)) (slave_of v u) (let n = two_there u (settings_of w.plan u) (slave_of w u) q (listed w.plan s.still_usable u o.here) (works_in op).holds in omega (arith, n)) (works_in op).out_free (showing_in op own).is;
  untouched = λ out. o.slave ∙ if_false _ _ _ (not_wrote m u g q (λ works same. out (works_op w p u s.shown o.here works) (part_here ∙ same)));
  others = o.others;
  goes_on = o.goes_on;
  slots = o.slots;
  rest = o.rest;
})
  where
    s : Sees t old events w
    s = sees t ids old events w made n h up

    first : Plain
    first = plain_of s.ready

    p : Plain
    p = (run (meaning s.ready.plan) first s.after).plain

    o : PassedOn w p k f v
    o = passed_on w p k f v s.still_usable s.shown at does

    g : PlainFrame
    g = o.frame

    u : ℕ
    u = length g.notes

    m : Meaning
    m = meaning w.plan

    q : PlainSlave
    q = plain_slave p u

    -- the beginning
    b : BeganAt (meaning s.ready.plan) first s.after g.number
    b = (are_begun (meaning s.ready.plan) first s.after (free_slots s.ready.slots) refl).frames k g o.there

    made_begin : MadeAt (meaning s.ready.plan) s.ready first s.after b.before Begin b.behind b.begun w
    made_begin = made_at s.ready first s.after w s.rest b.before Begin b.behind b.begun s.usable s.shows s.onward s.unstopped b.split b.begins

    begun : IsBegun old events w g.number
    begun = record {
      event = made_later old s.before s.ready s.first s.after w Begin events s.split s.to_ready made_begin.made;
      number_is = made_begin.at_shows.next ∙ b.number_is;
    }

    image_then : List ℕ
    image_then = made_begin.made.at.master.outputs

    snapshot : g.snapshot ≡ image_then
    snapshot =
        snapshots_law (meaning s.ready.plan) (run (meaning s.ready.plan) first b.before).plain b.begun b.behind (begun_of (meaning s.ready.plan) first s.after g.number (free_slots s.ready.slots) b)
        k g (ap (λ (x : Plain). frame_at x k) (sym (begun_on (meaning s.ready.plan) first s.after g.number b)) ∙ o.there) (sym b.number_is)
        ∙ sym made_begin.at_shows.outputs

    variables_then : made_begin.made.at.master.plan.variables ≡ (plan_of t).variables
    variables_then = ap (λ (x : PlanState). x.variables) (made_begin.at_shows.same_plan ∙ (made_begin.at_plan ∙ s.plan_is))

    -- the slave
    part_here : part_of (plan_of t) u ≡ (share_of m u).part
    part_here = ap (λ (z : PlanState). part_of z u) (sym s.plan_kept) ∙ part_is w.plan u o.here

    share : (share_of m u).outs ≡ (settings_of w.plan u).share.outs
    share = ap (λ (x : Share). x.outs) (share_is w.plan u)

    value : List ℕ
    value = linked_outputs m u g.snapshot

    works_in : IsInOp w u → IsWorking u (settings_of w.plan u) (slave_of w u) q
    works_in op = subst (λ (x : Health). IsAs u (settings_of w.plan u) (slave_of w u) q x) (op_works w p u s.shown o.here op) (s.shown.slaves u o.here)

    showing_in : IsInOp w u → part_of (plan_of t) u ≡ g.part → Showing w.plan u (slave_of w u) value (slave_of v u)
    showing_in op own =
        showing w.plan u (slave_of w u) q value (slave_of v u) s.still_usable o.here (works_in op)
        (o.slave ∙ (in_op_left m u g q (slave_of w u) (op_works w p u s.shown o.here op) (sym part_here ∙ own) ∙ ap (λ (z : ℕ). if nat_lt 0 z then with_outputs (slave_of w u) value else slave_of w u) share))
