-- What the headline names as a cause does keep a unit from being taken.
use Rattle.ec_world.proofs.Words.{ℕ, ◌+◌, ◌<◌, ◌≡◌, Bool, true, false, Some, None, refl, sym, ◌∙◌, ap, subst, inl, inr, arith, List, [], ◌∷◌, ◌++◌, length, is_some, if◌then◌else◌, get_or-set_same, unwrap_or, Option, get_or, set, option_map, cases_Bool, and_from, lt-ltb, eq-eqb, true≢false, Identity, SafeOp, Op, if_true, faults, SlaveState, faulted, Contents, Share, unit_of_part as unit_of_plain, has_outs, Meaning, meaning, share_of, slave_at as settings_of, PlanState, plan_of, plan_sound, Event, Begin, Lose, Close, Fault, Pass, Return, ResetSlave, Progress, Faulted, Cycle, unit_full, step, run, plain_slave, with_slot, Plain, PlainSlave, PlainFrame, Health, Working, Reset, Full, frame_at, moved, keeping, new_frames, met_slave, may_pass, may_return, all_progress, progress_of, linked_outputs, WorldState, slave_of, no_slave, flight_at, is_up, is_slave, with_slave, IsStep, PromisesIsQuiet as IsQuiet, is_of_unit, holds_of_unit, unit_of_slave, IsNoted, IsNotedAt, disturbs, unit_of, headline_unit_of_part as unit_of_part, output_bits, IsInOp, variable_bit, input_bit, ShowsLinked, IsSpoiled, LossLaw, EarlyLaw, ShortLaw, cycle_of, Rests, IsExchanged, UndisturbedLaw, list_all, length-map, bit, Buffer, outputs_shown, published, In, PartPlan, image_from, IsLinked, IsUsable, IsAs, IsRun, none_some, HasRoom}
use Rattle.ec_world.proofs.Refinement.Close.{unit_is as part_unit}
use Rattle.ec_al.specs.Al as al
use Rattle.ec_world.proofs.Headline.Buffers.{published_is}
use Rattle.ec_world.proofs.Refinement.CyclicFrame.{share_is}
use Rattle.ec_world.proofs.Refinement.StepsRefine.{runs_join}
use Rattle.ec_world.proofs.Cycles.QuietLaw.{in_parts, quiet_law, in_op_whole}
use Rattle.ec_world.proofs.Headline.LinkedBits.{health_is, outs_room, op_works, ShownAs, shown_as, shows_linked}
use Rattle.ec_world.proofs.Headline.HeadlineLaw.{slave_unit, inputs_held, BitIn, bit_in}
use Rattle.ec_world.proofs.Cycles.AtRest.{Comes, comes_of, IsFree, free_of, Beginning, beginning, is_begun, rounds, going, AtClose, at_close, told_of, FrameOf, frame_of, left_over, get_nones}
use Rattle.ec_world.proofs.Runs.Leaves.{guarded_map, met_leaves}
use Rattle.ec_world.proofs.Runs.SnapshotsLaw.{run_keeps, filled_has, new_one, health_kept, used}
use Rattle.ec_world.proofs.Runs.PublishedLaw.{published_law}
use Rattle.ec_world.proofs.Cycles.TakenLaw.{taken_law}
use Rattle.ec_world.proofs.Cycles.RoundsGo.{Slots, get_mapped, is_round, rounds_round, round_there}
use Rattle.ec_world.proofs.Cycles.RoundsPublish.{Publishes, publishes_from, publishes_step, published_at}

-- a unit of which a close says more than is so
not_full : (t : Contents) (w : WorldState) (b : Beginning t w) (mid : List Event) (c : Cycle) (u : ℕ) → (run (meaning w.plan) b.begun mid).plain.cycle ≡ Some c → c.number ≡ b.p.next
    → (IsQuiet (meaning w.plan) b.p b.begun mid u → ⊥) → unit_full (meaning w.plan) c u ≡ false
not_full t w b mid c u opened number never = elim (cases_Bool (unit_full (meaning w.plan) c u)) [
  | inr off ↦ off
  | inl on ↦ absurd (never (quiet_law (meaning w.plan) b.p b.begun mid c u (in_parts w.plan b.p b.usable b.shown.plain_count) (is_begun t w b) opened number on))
]

-- the frame of part k is of its unit
of_unit : (t : Contents) (w : WorldState) (b : Beginning t w) (k : ℕ) (f : FrameOf b.p.next k b.begun) → is_of_unit (meaning w.plan) b.p.next (unit_of_part t k) f.frame ≡ true
of_unit t w b k f = and_from _ _
    (eq-eqb f.frame.number b.p.next (ap (λ (x : Progress). x.number) f.way))
    (eq-eqb _ _ (ap (λ (x : Progress). unit_of_plain (meaning w.plan) x.part) f.way ∙ (ap (λ (x : PlanState). unit_of_plain (meaning x) k) b.w_plan ∙ part_unit (plan_of t) k)))

spoiled : (t : Contents) (ids : List Identity) (w : WorldState) (b : Beginning t w) (mid : List Event) (c : Cycle) (v : WorldState) (count u : ℕ) → AtClose t ids w b mid c v count → unit_full (meaning w.plan) c u ≡ false
    → IsSpoiled v u count (length (Begin ∷ (mid ++ (Close ∷ []))))
spoiled t ids w b mid c v count u a off = record { all_made = a.all_made; report = a.closed.report; reported = a.closed.reported; missed = told_of t ids w b mid c v count a u false off }

-- ---- a loss

pub loss_law : LossLaw
loss_law t ids w r k l v made run_on = spoiled t ids w b mid c v made (unit_of_part t k)
    (at_close t ids w (comes_of t ids w r) b mid c made_mid opened v made run_on)
    (not_full t w b mid c (unit_of_part t k) opened b.between.number_is (λ q. (
    let off = q.undisturbed [] [] (Lose k) (with_slot b.begun k None) refl does in
    true≢false (sym (ap (holds_of_unit (meaning w.plan) b.p.next (unit_of_part t k)) f.there ∙ of_unit t w b k f) ∙ off))))
  where
    b : Beginning t w
    b = beginning t ids w (comes_of t ids w r) (free_of t w r.at_rest)

    f : FrameOf b.p.next k b.begun
    f = frame_of t w b k l

    mid : List Event
    mid = Lose k ∷ []

    does : step (meaning w.plan) b.begun (Lose k) ≡ Some (with_slot b.begun k None)
    does = ap (λ o. if is_some o then Some (with_slot b.begun k None) else None) f.there

    made_mid : (run (meaning w.plan) b.begun mid).made ≡ length mid
    made_mid = ap (λ o. (if is_some o then 1 else 0) + 0) does

    c : Cycle
    c = b.between.cycle

    opened : (run (meaning w.plan) b.begun mid).plain.cycle ≡ Some c
    opened = ap (λ o. (unwrap_or o b.begun).cycle) does ∙ b.between.is_open

-- ---- an early close

pub early_law : EarlyLaw
early_law t ids w r k l v made run_on = spoiled t ids w b [] c v made (unit_of_part t k)
    (at_close t ids w (comes_of t ids w r) b [] c refl b.between.is_open v made run_on)
    (not_full t w b [] c (unit_of_part t k) b.between.is_open b.between.number_is (λ q. true≢false (sym (of_unit t w b k f) ∙ q.back k f.frame f.there)))
  where
    b : Beginning t w
    b = beginning t ids w (comes_of t ids w r) (free_of t w r.at_rest)

    f : FrameOf b.p.next k b.begun
    f = frame_of t w b k l

    c : Cycle
    c = b.between.cycle

-- ---- a slave that falls short

fallen : (s : SlaveState) → s.al.state ≡ Op → (faulted s).al.state ≡ SafeOp
fallen s e =
    let on : al.is_operational s.al.state ≡ true = ap al.is_operational e in
    ap (λ (t : SlaveState). t.al.state) ((faults s).in_op on) ∙ ap (λ (a : al.Al). a.state) (if_true (al.is_operational s.al.state) _ s.al on)

pub short_law : ShortLaw
short_law t ids w r s l some v made run_on = record {
  all_made = run_on.5 ∙ (ap (λ (b : Bool). (if b then 1 else 0) + run_on.2) can ∙ ap (λ (n : ℕ). 1 + n) (a.all_made));
  report = a.closed.report;
  reported = a.closed.reported;
  missed = told_of t ids x b (rounds t) c v run_on.2 a (unit_of t s) false off;
}
  where
    first : Beginning t w
    first = beginning t ids w (comes_of t ids w r) (free_of t w r.at_rest)

    x : WorldState
    x = run_on.0

    here : s < length w.slaves
    here = let n = first.shown.count in let k = first.shown.plain_count in let y = first.count in omega (arith, l, n, k, y)

    in_op : IsInOp w s
    in_op = r.at_rest.in_op s l

    can : run_on.1 ≡ true
    can = run_on.3.can ∙ and_from (is_slave w s) _ (lt-ltb s (length w.slaves) here) (ap al.is_operational in_op)

    step_on : IsStep w (Fault s) x true
    step_on = subst (IsStep w (Fault s) x) can run_on.3

    is : x ≡ with_slave w s (faulted (slave_of w s))
    is = step_on.happens refl

    slave_is : slave_of x s ≡ faulted (slave_of w s)
    slave_is = ap (λ (z : WorldState). slave_of z s) is ∙ get_or-set_same w.slaves s (faulted (slave_of w s)) no_slave here

    comes : Comes t ids x
    comes = record {
      old = r.old;
      new = r.new;
      events = r.events ++ (Fault s ∷ []);
      made = r.made + 1;
      reached = runs_join r.old r.events w r.made (Fault s ∷ []) x 1 r.reached (x, true, 0, step_on, (refl, refl), refl);
      up = ap (λ (z : WorldState). is_up z.start) is ∙ r.up;
    }

    free : IsFree x
    free = record {
      no_cycle = ap (λ (z : WorldState). z.master.cycle) is ∙ r.at_rest.no_cycle;
      no_frame = λ k. ap (λ (z : WorldState). flight_at z k) is ∙ r.at_rest.no_frame k;
      numbers = let n = ap (λ (z : WorldState). z.master.next) is in let y = r.at_rest.numbers in omega (arith, n, y);
    }

    b : Beginning t x
    b = beginning t ids x comes free

    m : Meaning
    m = meaning x.plan

    c : Cycle
    c = (going t x b).after.cycle

    a : AtClose t ids x b (rounds t) c v run_on.2
    a = at_close t ids x comes b (rounds t) c (going t x b).made (going t x b).after.is_open v run_on.2 run_on.4

    in_p : s < length b.p.slaves
    in_p = let n = b.count in omega (arith, l, n)

    in_x : s < length x.plan.slaves
    in_x = let n = b.shown.plain_count in let y = in_p in omega (arith, n, y)

    in_t : s < length (plan_of t).slaves
    in_t = let n = ap (λ (z : PlanState). length z.slaves) b.w_plan in let y = in_x in omega (arith, n, y)

    outs : HasRoom (share_of m s).outs (output_bits t s)
    outs = subst (λ (n : ℕ). HasRoom n (output_bits t s)) (sym (ap (λ (z : Share). z.outs) (share_is x.plan s) ∙ ap (λ (z : PlanState). (settings_of z s).share.outs) b.w_plan))
        (outs_room t (plan_sound t r.new.sound r.new.accepted) s in_t)

    health : (plain_slave b.p s).health ≡ Faulted
    health = health_is s (settings_of x.plan s) (slave_of x s) (plain_slave b.p s) (plain_slave b.p s).health Faulted (b.shown.slaves s in_x)
        (ap (λ (z : SlaveState). z.al.state) slave_is ∙ fallen (slave_of w s) in_op)

    unit : unit_of_slave m s ≡ unit_of t s
    unit = ap (λ (z : PlanState). unit_of_slave (meaning z) s) b.w_plan ∙ sym (slave_unit t (plan_sound t r.new.sound r.new.accepted) s in_t)

    off : unit_full m c (unit_of t s) ≡ false
    off = not_full t x b (rounds t) c (unit_of t s) (going t x b).after.is_open (going t x b).after.number_is
        (λ q. q.whole s in_p unit (inr (health, lt-ltb 0 (share_of m s).outs (let y = outs.room in omega (arith, some, y)))))

-- ---- a cycle of a Ready world at rest that nothing disturbs is taken in every unit, and each slave shows its linked outputs

-- ---- rounds leave inputs

round_inputs : (m : Meaning) (s : ℕ) (p : Plain) (e : Event) (q : Plain) → is_round e ≡ true → step m p e ≡ Some q → (plain_slave q s).inputs ≡ (plain_slave p s).inputs
round_inputs m s p (Pass k) q r h =
    let x = guarded_map (may_pass (length p.slaves) (all_progress p.slots) (option_map progress_of (frame_at p k))) (moved m p k) (frame_at p k) q h in
    let t = length x.value.notes in
    sym (ap (λ (y : Plain). (plain_slave y s).inputs) x.is) ∙ used (λ (y : PlainSlave). y.inputs) p.slaves t (met_slave m t x.value (plain_slave p t)) s (met_leaves (λ (y : PlainSlave). y.inputs) m t x.value (plain_slave p t) (λ b. refl))
round_inputs m s p (Return k) q r h =
    let x = guarded_map (may_return (length p.slaves) (option_map progress_of (frame_at p k))) (λ f. record p { cycle = option_map (keeping f) p.cycle; slots = set p.slots k None }) (frame_at p k) q h in
    sym (ap (λ (y : Plain). (plain_slave y s).inputs) x.is)
round_inputs m s p _ q r h = absurd (true≢false (sym r))

-- and the health of each slave
round_health : (m : Meaning) (s : ℕ) (p : Plain) (e : Event) (q : Plain) → is_round e ≡ true → step m p e ≡ Some q → (plain_slave q s).health ≡ (plain_slave p s).health
round_health m s p e q r h = health_kept m p e q s h (λ own. true≢false (sym r ∙ ap is_round own)) (λ own. true≢false (sym r ∙ ap is_round own))

calm : (m : Meaning) (n u : ℕ) (p : Plain) (e : Event) → is_round e ≡ true → disturbs m n u p e ≡ false
calm m n u p (Lose k) r = absurd (true≢false (sym r))
calm m n u p (Fault i) r = absurd (true≢false (sym r))
calm m n u p (ResetSlave i) r = absurd (true≢false (sym r))
calm m n u p _ r = refl

-- ---- the cycle

module _ (t : Contents) (ids : List Identity) (w : WorldState) (r : Rests t ids w) (v : WorldState) (count : ℕ) (run_on : IsRun w (cycle_of t) v count) where
  abbrev o : Comes t ids w
  o = comes_of t ids w r

  abbrev b : Beginning t w
  b = beginning t ids w o (free_of t w r.at_rest)

  abbrev m : Meaning
  m = meaning w.plan

  abbrev p : Plain
  p = b.p

  abbrev N : ℕ
  N = length t.slaves

  abbrev K : ℕ
  K = length (plan_of t).parts

  abbrev c : Cycle
  c = (going t w b).after.cycle

  many : length w.plan.slaves ≡ N
  many = sym b.shown.plain_count ∙ b.count

  -- it is quiet for every unit
  works : (i : ℕ) → i < length p.slaves → (plain_slave p i).health ≡ Working
  works i l = op_works w p i b.shown (let x = b.shown.plain_count in omega (arith, l, x)) (r.at_rest.in_op i (let x = b.count in omega (arith, l, x)))

  empty_after : (k : ℕ) → frame_at (run m b.begun (rounds t)).plain k ≡ None
  empty_after k = by (frame_at (run m b.begun (rounds t)).plain k) refl
    where
      by : (x : Option PlainFrame) → frame_at (run m b.begun (rounds t)).plain k ≡ x → x ≡ None
      by None e = refl
      by (Some f) e = absurd (none_some (progress_of f) (sym (get_nones (0 + K) (left_over t) k) ∙ (ap (λ (os : Slots). get_or os k None) (sym (going t w b).after.slots)
          ∙ (get_mapped (run m b.begun (rounds t)).plain.slots k ∙ ap (option_map progress_of) e))))

  quiet : (u : ℕ) → IsQuiet m p b.begun (rounds t) u
  quiet u = record {
    whole = λ i l mine short. in_op_whole m i (plain_slave p i) (works i l) short;
    undisturbed = λ before behind e next split does. calm m p.next u (run m b.begun before).plain e (round_there before behind e (subst (λ (es : List Event). list_all is_round es ≡ true) split (rounds_round N 0 K))).1;
    back = λ k f at. absurd (none_some f (sym (empty_after k) ∙ at));
  }

  full : (u : ℕ) → unit_full m c u ≡ true
  full u = taken_law m p b.begun (rounds t) c u (is_begun t w b) (quiet u) (going t w b).after.is_open (going t w b).after.number_is

  abbrev a : AtClose t ids w b (rounds t) c v count
  a = at_close t ids w o b (rounds t) c (going t w b).made (going t w b).after.is_open v count run_on

  abbrev m_at : Meaning
  m_at = meaning a.at.plan

  full_at : (u : ℕ) → unit_full m_at c u ≡ true
  full_at u = ap (λ (x : PlanState). unit_full (meaning x) c u) a.plan ∙ full u

  -- ---- inputs

  bit_value : (x y i o : ℕ) → IsLinked t In x y i o → variable_bit v x y ≡ input_bit w i o
  bit_value x y i z l = e.after ∙ (d.2 ∙ (ap (λ ys. bit ys z) (np.published d.0 refl) ∙ (ap (λ (q : Buffer). bit q.published z) kept ∙ sym (ap (λ ys. bit ys z) held))))
    where
      e : BitIn t ids a.comes.old a.comes.events a.at a.comes.made a.comes.new a.comes.reached a.comes.up v a.step x y i z
      e = bit_in t ids a.comes.old a.comes.events a.at a.comes.made a.comes.new a.comes.reached a.comes.up v a.step x y i z l

      d : (value : List ℕ) × IsNoted c (share_of m_at i).part i value × (bit v.master.inputs (image_from t.variables x + y) ≡ bit value z)
      d = a.closed.taken (image_from t.variables x + y) (record { slave = i; bit_of = z }) e.inside e.source (full_at (unit_of_slave m_at i))

      np : IsNotedAt m b.begun p.next (rounds t) (share_of m_at i).part i (Full d.0)
      np = published_law m p b.begun (rounds t) c (is_begun t w b) (going t w b).after.is_open (going t w b).after.number_is (share_of m_at i).part i d.1.notes (Full d.0) d.1.back d.1.note

      here : i < length w.plan.slaves
      here = let f = e.slave in let g = ap (λ (q : PlanState). length q.slaves) a.plan in omega (arith, f, g)

      kept : (plain_slave (run m b.begun np.before).plain i).inputs ≡ (plain_slave p i).inputs
      kept = run_keeps (λ q. (plain_slave q i).inputs ≡ (plain_slave p i).inputs) m is_round (λ q f g ok does same. round_inputs m i q f g ok does ∙ same) b.begun np.before
          (round_there np.before np.behind (Pass np.slot) (subst (λ (es : List Event). list_all is_round es ≡ true) np.split (rounds_round N 0 K))).0
          (ap (λ (q : Plain). (plain_slave q i).inputs) b.is)

      held : published (slave_of w i) 3 ≡ (plain_slave p i).inputs.published
      held = published_is (slave_of w i) 3 ∙ inputs_held i (settings_of w.plan i) (slave_of w i) (plain_slave p i) (plain_slave p i).health (b.shown.slaves i here)
          (λ reset. let f : Working ≡ Reset = sym (works i (let g = b.shown.plain_count in omega (arith, here, g))) ∙ reset in cc)

  -- ---- outputs

  abbrev P : Plain
  P = (run m b.begun (rounds t)).plain

  module _ (i : ℕ) (l : i < N) where
    in_w : i < length w.plan.slaves
    in_w = let f = many in omega (arith, l, f)

    in_at : i < length a.at.plan.slaves
    in_at = let f = in_w in let g = ap (λ (q : PlanState). length q.slaves) a.plan in omega (arith, f, g)

    in_p : i < length p.slaves
    in_p = let f = b.count in omega (arith, l, f)

    in_begun : i < length b.begun.slaves
    in_begun = let f = in_p in let g = ap (λ (q : Plain). length q.slaves) b.is in omega (arith, f, g)

    works_begun : (plain_slave b.begun i).health ≡ Working
    works_begun = ap (λ (q : Plain). (plain_slave q i).health) b.is ∙ works i in_p

    outs_is : (share_of m i).outs ≡ (settings_of a.at.plan i).share.outs
    outs_is = ap (λ (x : Share). x.outs) (share_is w.plan i) ∙ ap (λ (q : PlanState). (settings_of q i).share.outs) (sym a.plan)

    carry : (k : ℕ) (f : PlainFrame) → frame_at b.begun k ≡ Some f → f.snapshot ≡ p.outputs
    carry k f at = filled_has (λ (g : PlainFrame). g.snapshot ≡ p.outputs) (new_frames p.next p.outputs 0 m.parts) p.slots
        (λ j g there. (new_one p.next 0 p.outputs m.parts j g there).snapshot) (λ j g there. absurd (none_some g (sym (b.no_frame j) ∙ there))) k f (sym (ap (λ (q : Plain). frame_at q k) b.is) ∙ at)

    own : FrameOf p.next (share_of m i).part b.begun
    own = frame_of t w b (share_of m i).part (
        let f = in_parts w.plan p b.usable b.shown.plain_count i in_p in
        let g : length m.parts ≡ K = length-map w.plan.parts (λ (k : PartPlan). k.unit) ∙ ap (λ (q : PlanState). length q.parts) b.w_plan in
        omega (arith, f, g))

    publishing_in : 0 < (share_of m i).outs → (plain_slave P i).outputs.published ≡ linked_outputs m i p.outputs
    publishing_in some = published_at m i p.outputs P (run_keeps (Publishes m i p.outputs) m is_round (publishes_step m i p.outputs outs) b.begun (rounds t) (rounds_round N 0 K)
        (publishes_from m i p.outputs b.begun (share_of m i).part own.frame in_begun works_begun carry own.there (sym (ap (λ (g : Progress). g.part) own.way)) (let n = ap (λ (g : Progress). g.passed) own.way in omega (arith, n)))) empty_after
      where
        outs : has_outs (share_of m i) ≡ true
        outs = lt-ltb 0 (share_of m i).outs some

    works_at : (plain_slave P i).health ≡ Working
    works_at = run_keeps (λ q. (plain_slave q i).health ≡ Working) m is_round (λ q e x ok does h. round_health m i q e x ok does ∙ h) b.begun (rounds t) (rounds_round N 0 K) works_begun

    shown_at : ShownAs a.at.plan i (slave_of a.at i) (plain_slave P i)
    shown_at = shown_as a.at.plan i (slave_of a.at i) (plain_slave P i) (subst IsUsable (sym a.plan) b.usable) in_at
        (subst (λ (x : Health). IsAs i (settings_of a.at.plan i) (slave_of a.at i) (plain_slave P i) x) works_at (a.shows.slaves i in_at))

    slave_is : slave_of v i ≡ slave_of a.at i
    slave_is = ap (λ (q : WorldState). slave_of q i) a.closed.rest

    variables : w.master.plan.variables ≡ (plan_of t).variables
    variables = ap (λ (q : PlanState). q.variables) (b.shown.same_plan ∙ b.w_plan)

    shows_outputs : ShowsLinked t w v i
    shows_outputs = shows_linked t r.new.sound r.new.accepted w.plan b.w_plan w v i in_w variables
        (λ some. (
        let f = outs_is in
        let g = ap (λ (q : PlanState). (settings_of q i).share.outs) a.plan in
        ap outputs_shown slave_is ∙ (shown_at.some (omega (arith, some, g)) ∙ (publishing_in (omega (arith, some, f, g)) ∙ ap (linked_outputs m i) (sym b.shown.outputs)))))
        (λ none. (let g = ap (λ (q : PlanState). (settings_of q i).share.outs) a.plan in ap outputs_shown slave_is ∙ shown_at.none (omega (arith, none, g))))

  pub exchanged : IsExchanged t w v count
  exchanged = record {
    all_made = a.all_made;
    report = a.closed.report;
    reported = a.closed.reported;
    taken = λ u. told_of t ids w b (rounds t) c v count a u true (full u);
    outputs = shows_outputs;
    inputs = bit_value;
  }

pub undisturbed_law : UndisturbedLaw
undisturbed_law t ids w r v count g = exchanged t ids w r v count g
