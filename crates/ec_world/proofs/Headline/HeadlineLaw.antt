-- The headline of a close, of what a world's calls show.
use Rattle.ec_world.proofs.Words.{Stop, ℕ, zero, suc, ◌+◌, ◌*◌, ◌<◌, ◌≤◌, ◌≡◌, ◌≢◌, ◌==◌, ◌||◌, Bool, true, false, Option, Some, None, refl, sym, ◌∙◌, ap, subst, inl, inr, arith, List, [], ◌∷◌, ◌++◌, length, map, get_or, if◌then◌else◌, option_map, option_and_then, slice_get, option_map_or, AllByRecursion, bit_at, cases_Bool, cases_lt, cases_eq, and_from, or_left, or_right, or_cases, lt-ltb, ltb-true, eq-eqb, true≢false, append_assoc, list_get_or-map as get_or-map, length-map, length-replicate, slice_get-get_or, bit_at_above, bit, bytes_of_bits, if_true, if_false, bits_number-lt, bit_at-bits_number, Identity, Buffer, SlaveState, inputs_of, published, Direction, Out, In, SlaveRow, Contents, Variable, Share, SlavePlan, has_outs, has_ins, predicted, unit_of_part as unit_of_plain, IsLinked, is_out, image_from, IsPair, AreItsLinks, Meaning, Linked, meaning, share_of, in_source, slave_at as settings_of, PlanState, plan_of, part_of, part_at, IsUsable, IsInImage, HasBit, IsPlaced, linked_inputs, variables_are_placed, linked_bits_are_there, plan_sound, links_are_the_tables, lists_units, bits_are_apart, ReportState, MasterState, OpenCycle, ReturnedPart, value_at, value_of, Event, StartNext, Set, Begin, Pass, Lose, Return, Close, Serve, AppPut, AppGet, Fault, ResetSlave, Progress, Plain, PlainSlave, PlainFrame, Health, Faulted, Reset, Note, Short, Full, Cycle, unit_full, giving, step, run, frame_at, plain_slave, progress_of, met_note, WorldState, slave_of, is_up, ByStart, GivesUp, Closes, IsStep, IsAs, Refines, CyclesRefine, IsRun, IsNew, plain_of, IsNoted, IsMissed as IsMissedPlain, NotBack, FellShort as FellShortAt, FallsShort, IsClosedAs, IsNotedAt, IsBegun as IsBegunPlain, PromisesIsQuiet as IsQuiet, unit_of_slave, is_of_unit, holds_of_unit, IsMade, HeadlineIsBegun as IsBegun, HasLost, IsUnderWay, HadTrouble, IsInOp, progress_at, variable_bit, output_bits, input_bits, GivesLess, unit_of, headline_unit_of_part as unit_of_part, Says, IsRead, HeadlineIsTaken as IsTaken, HeadlineFellShort as FellShort, Cause, ByLoss, ByEarlyClose, ByFallingShort, HeadlineIsMissed as IsMissed, ListsUnits, CloseShows, HeadlineLaw, EachIsPromised, same_progress, none_some, some_same, plain_frame, some_of, HeadlineShows, HasRoom}
use Rattle.ec_world.proofs.Refinement.Close.{unit_is as part_unit}
use Rattle.ec_world.proofs.Runs.TroubleLaw.{made_later, preceded, extended}
use Rattle.ec_link.specs.Sound as link
use Rattle.ec_world.proofs.Refinement.CyclicFrame.{share_is}
use Rattle.ec_world.proofs.Refinement.MasterEvents.{OpenBoth, open_both}
use Rattle.ec_world.proofs.Refinement.StepsRefine.{runs_refine, runs_join, steps_refine}
use Rattle.ec_world.proofs.Cycles.InputsLaw.{inputs_law, notes_law}
use Rattle.ec_world.proofs.Runs.PublishedLaw.{published_law}
use Rattle.ec_world.proofs.Headline.LinkedBits.{bit_past, visible_bit, MadeAt, made_at, Sees, sees, PassedOn, passed_on, op_works, works_op, part_is, free_slots, outs_room, ins_room, state_in, state_is, health_is, cut, headline_outputs, row_of}
use Rattle.ec_world.proofs.Runs.BeganAt.{BeganAt, are_begun, begun_of, begun_on}
use Rattle.ec_world.proofs.Cycles.QuietLaw.{in_parts, quiet_law, spoiled_not_full, in_op_whole}
use Rattle.ec_world.proofs.Cycles.TakenLaw.{Away}
use Rattle.ec_world.proofs.Runs.Located.{Place, IsReturned, OnItsWay, Lost, LostAt, located}
use Rattle.ec_world.proofs.Runs.Sizes.{run_same}
use Rattle.ec_world.proofs.Headline.Buffers.{published_is}
use Rattle.ec_world.proofs.Headline.OtherEvents.{never_starts, stop_shows, set_shows, begin_shows, return_shows, serve_shows, put_shows, get_shows, fault_shows, reset_shows}
use Rattle.ec_world.proofs.Runs.HadTrouble.{without_start, falls}
use Rattle.ec_world.proofs.Runs.PlanLaw.{run_keeps}
use Rattle.ec_world.proofs.Runs.Unstopped.{at_still, next_still}

-- ---- events behind the beginning of a cycle

pub made_by : (old : WorldState) (plan : PlanState) → old.plan ≡ plan → (p : Plain) (events : List Event) (new : WorldState) (count : ℕ) (xs : List Event) (e : Event) (ys : List Event) (q : Plain)
    → IsUsable plan → Refines old p → IsRun old events new count → new.start ≡ old.start → events ≡ xs ++ (e ∷ ys) → step (meaning plan) (run (meaning plan) p xs).plain e ≡ Some q → MadeAt (meaning plan) old p events xs e ys q new
made_by old plan same p events new count xs e ys q sound s h still split does =
    subst (λ (x : PlanState). MadeAt (meaning x) old p events xs e ys q new) same (made_at old p events new count xs e ys q (subst IsUsable (sym same) sound) s h still split
    (subst (λ (x : PlanState). step (meaning x) (run (meaning x) p xs).plain e ≡ Some q) (sym same) does))

-- ---- the inputs of a slave

-- a slave with inputs that was noted whole wasn't reset
noted_on : (m : Meaning) (s : ℕ) (f : PlainFrame) (q : PlainSlave) (v : List ℕ) → Full v ≡ met_note m s f q → has_ins (share_of m s) ≡ true → q.health ≢ Reset
noted_on m s f q v is ins reset = elim (cases_Bool ((share_of m s).part == f.part)) [
  | inr off ↦ cc (is ∙ if_false _ _ _ off)
  | inl on ↦ cc (is ∙ (if_true _ _ _ on ∙ (ap (giving (share_of m s) q) reset ∙ if_true _ _ _ (or_right (has_outs (share_of m s)) _ ins))))
]

pub inputs_held : (i : ℕ) (x : SlavePlan) (s : SlaveState) (q : PlainSlave) (h : Health) → IsAs i x s q h → h ≢ Reset → inputs_of s ≡ q.inputs.published
inputs_held i x s q Reset a ne = absurd (ne refl)
inputs_held i x s q _ a ne = ap (λ (b : Buffer). b.published) a.process.inputs

-- ---- the plan

pub slave_unit : (t : Contents) → link.IsSound t (plan_of t) → (s : ℕ) → s < length (plan_of t).slaves → unit_of t s ≡ unit_of_slave (meaning (plan_of t)) s
slave_unit t sound s l =
    let row = row_of t sound s l in
    ap (λ o. option_map_or (λ (r : SlaveRow). r.unit) o 0) row.1
    ∙ (sym (sound.each s row.0 row.1).unit
    ∙ (ap (λ (h : Share). (part_at (plan_of t).parts h.part).unit) (sym (share_is (plan_of t) s))
    ∙ sym (part_unit (plan_of t) (share_of (meaning (plan_of t)) s).part)))

all_at : {X : Type 0} (P : X → Type 0) (xs : List X) (k : ℕ) (x : X) → AllByRecursion P xs → slice_get xs k ≡ Some x → P x
all_at P [] k x h e = absurd (none_some x e)
all_at P (y ∷ xs) zero x h e = subst P (some_same y x e) h.0
all_at P (y ∷ xs) (suc k) x h e = all_at P xs k x h.1 e

-- where a bit of an input variable stands
in_image : (t : Contents) → IsUsable (plan_of t) → (x b : ℕ) → HasBit t In x b → image_from t.variables x + b < (plan_of t).in_bits
in_image t usable x b h =
    let at = variables_are_placed t x h.row h.there in
    let v : Variable = at.placed in
    let fits = all_at (IsInImage (plan_of t)) (plan_of t).variables x v usable.variables at.there in
    let bits : (if is_out v.direction then (plan_of t).out_bits else (plan_of t).in_bits) ≡ (plan_of t).in_bits = ap (λ d. if is_out d then (plan_of t).out_bits else (plan_of t).in_bits) (at.way ∙ h.way) in
    omega (arith, bits, at.from, at.bits, fits.inside, h.inside)

-- ---- a unit in the report

pub says : (f : ℕ → Bool) (r : ReportState) (us : List ℕ) (u : ℕ) (b : Bool) → r.units ≡ us → r.taken ≡ map f us → f u ≡ b → Says r u b
says f r us u b units taken is i l at =
    let few : i < length us = let n = ap length units in omega (arith, l, n) in
    let own : get_or (map f us) i b ≡ b = get_or-map f us i 0 b few ∙ (ap f (sym (ap (λ xs. get_or xs i 0) units) ∙ at) ∙ is) in
    let there : i < length (map f us) = let n = length-map us f in omega (arith, few, n) in
    ap (λ bs. slice_get bs i) taken ∙ (slice_get-get_or (map f us) i b there ∙ ap (λ (x : Bool). Some x) own)

-- ---- a bit without a link

value_bit : (m : MasterState) (v : Variable) (b : ℕ) → b < v.bits → is_out v.direction ≡ false → (bit_at (value_of m v) b == 1) ≡ bit m.inputs (v.from + b)
value_bit m v b l way = bit_at-bits_number (if is_out v.direction then m.outputs else m.inputs) v.from v.bits b l ∙ ap (λ xs. bit xs (v.from + b)) (if_false _ _ _ way)

high_bit : (m : MasterState) (v : Variable) (b : ℕ) → v.bits ≤ b → bit_at (value_of m v) b ≡ 0
high_bit m v b l = bit_at_above (value_of m v) v.bits b (bits_number-lt (if is_out v.direction then m.outputs else m.inputs) v.from v.bits) l

in_way : (d : Direction) → is_out d ≡ false → d ≡ In
in_way Out e = absurd (let z : true ≡ false = e in cc)
in_way In e = refl

-- ---- a close

module _ (t : Contents) (ids : List Identity) (old : WorldState) (events : List Event) (w : WorldState) (made : ℕ) (n : IsNew t ids old) (h : IsRun old events w made) (up : is_up w.start ≡ true) (v : WorldState) (does : IsStep w Close v true) where
  abbrev s : Sees t old events w
  s = sees t ids old events w made n h up

  abbrev M : Meaning
  M = meaning s.ready.plan

  abbrev m : Meaning
  m = meaning w.plan

  abbrev first : Plain
  first = plain_of s.ready

  abbrev p : Plain
  p = (run M first s.after).plain

  usable_t : IsUsable (plan_of t)
  usable_t = subst IsUsable s.plan_is s.usable

  sound : link.IsSound t (plan_of t)
  sound = plan_sound t n.sound n.accepted

  links : AreItsLinks t w.plan
  links = subst (AreItsLinks t) (sym s.plan_kept) (links_are_the_tables t n.sound n.accepted)

  closes : Closes w v
  closes = subst (λ (b : Bool). ByStart b (GivesUp w v) (Closes w v)) s.shown.no_start (does.happens refl)

  both : OpenBoth w.plan closes.cycle p.cycle
  both = open_both w.plan closes.cycle p.cycle (subst (λ (o : Option OpenCycle). CyclesRefine w.plan o p.cycle) closes.is_open s.shown.cycle)

  abbrev c : Cycle
  c = both.cycle

  closed : IsClosedAs w c v
  closed = inputs_law w p c v s.still_usable s.shown both.is does

  -- the beginning
  b : BeganAt M first s.after c.number
  b = (are_begun M first s.after (free_slots s.ready.slots) refl).cycle c both.is

  abbrev pb : Plain
  pb = (run M first b.before).plain

  is_begun : IsBegunPlain M pb b.begun
  is_begun = begun_of M first s.after c.number (free_slots s.ready.slots) b

  on : p ≡ (run M b.begun b.behind).plain
  on = begun_on M first s.after c.number b

  opened : (run M b.begun b.behind).plain.cycle ≡ Some c
  opened = ap (λ (x : Plain). x.cycle) (sym on) ∙ both.is

  mb : MadeAt M s.ready first s.after b.before Begin b.behind b.begun w
  mb = made_at s.ready first s.after w s.rest b.before Begin b.behind b.begun s.usable s.shows s.onward s.unstopped b.split b.begins

  abbrev begun : IsBegun old events w c.number
  begun = record {
    event = made_later old s.before s.ready s.first s.after w Begin events s.split s.to_ready mb.made;
    number_is = mb.at_shows.next ∙ b.number_is;
  }

  -- ---- bits

  variables_w : w.master.plan.variables ≡ (plan_of t).variables
  variables_w = ap (λ (x : PlanState). x.variables) (s.shown.same_plan ∙ s.plan_kept)

  same_plan : v.master.plan ≡ w.master.plan
  same_plan = ap (λ (x : WorldState). x.master.plan) closed.rest

  variables_v : v.master.plan.variables ≡ (plan_of t).variables
  variables_v = ap (λ (x : PlanState). x.variables) same_plan ∙ variables_w

  sized : length w.master.inputs ≡ bytes_of_bits (plan_of t).in_bits
  sized = (run_same old events w made h).inputs ∙ (ap (λ (x : WorldState). length x.master.inputs) n.is ∙ length-replicate {A = ℕ} (bytes_of_bits (plan_of t).in_bits) 0)

  -- a linked bit of an input variable
  pub record BitIn (x y i o : ℕ) : Type 0 where
    pub inside : image_from t.variables x + y < 8 * length w.master.inputs
    pub source : m.in_source (image_from t.variables x + y) ≡ Some (record { slave = i; bit_of = o })
    pub slave : i < length w.plan.slaves
    pub some : o < (settings_of w.plan i).share.ins
    pub before : variable_bit w x y ≡ bit w.master.inputs (image_from t.variables x + y)
    pub after : variable_bit v x y ≡ bit v.master.inputs (image_from t.variables x + y)

  pub bit_in : (x y i o : ℕ) → IsLinked t In x y i o → BitIn x y i o
  bit_in x y i o l =
      let has : HasBit t In x y = linked_bits_are_there t n.accepted In x y i o l in
      let source : in_source w.plan.in_links (image_from t.variables x + y) ≡ Some (record { slave = i; bit_of = o }) = (links.inputs (image_from t.variables x + y) i o).1 (record { variable = x; bit = y; linked = l; image_is = refl }) in
      let here = linked_inputs w.plan s.still_usable (image_from t.variables x + y) (record { slave = i; bit_of = o }) source in
      record {
        inside = let e = in_image t usable_t x y has in let z = sized in omega (arith, e, z);
        source = source;
        slave = here.0;
        some = here.1;
        before = visible_bit t w In x y has variables_w;
        after = visible_bit t v In x y has variables_v;
      }

  unit_here : (i : ℕ) → i < length w.plan.slaves → unit_of t i ≡ unit_of_slave m i
  unit_here i l = slave_unit t sound i (let z = ap (λ (x : PlanState). length x.slaves) s.plan_kept in omega (arith, l, z)) ∙ ap (λ (x : PlanState). unit_of_slave (meaning x) i) (sym s.plan_kept)

  unit_part : (k : ℕ) → unit_of_plain m k ≡ unit_of_part t k
  unit_part k = part_unit w.plan k ∙ ap (λ (x : PlanState). (part_at x.parts k).unit) s.plan_kept

  part_here : (i : ℕ) → i < length w.plan.slaves → part_of (plan_of t) i ≡ (share_of m i).part
  part_here i l = ap (λ (x : PlanState). part_of x i) (sym s.plan_kept) ∙ part_is w.plan i l

  same_meaning : m ≡ M
  same_meaning = ap (λ (x : PlanState). meaning x) (s.plan_kept ∙ sym s.plan_is)

  -- ---- a pass in this cycle

  record Pass_ (k i : ℕ) (x : Note) (np : IsNotedAt M b.begun pb.next b.behind k i x) : Type 0 where
    pub event : IsMade begun.event.next begun.event.behind w (Pass np.slot)
    pub frame : progress_at event.at np.slot ≡ Some (record { number = c.number; part = k; passed = i })
    pub shows : Refines event.at (run M b.begun np.before).plain
    pub plan : event.at.plan ≡ w.plan

  -- no stop since the cycle began
  still_w : w.start ≡ mb.made.next.start
  still_w = s.unstopped ∙ sym mb.next_start

  to_w : s.ready.plan ≡ w.plan
  to_w = s.plan_is ∙ sym s.plan_kept

  pass_at : (k i : ℕ) (x : Note) (np : IsNotedAt M b.begun pb.next b.behind k i x) → Pass_ k i x np
  pass_at k i x np =
      let mp = made_by mb.made.next s.ready.plan mb.next_plan b.begun mb.made.behind w mb.made.rest np.before (Pass np.slot) np.behind np.next s.usable mb.next_shows mb.made.onward still_w (mb.behind_is ∙ np.split) np.made in
      record {
        event = mp.made;
        frame = same_progress mp.made.at.slots (run M b.begun np.before).plain.slots np.slot mp.at_shows.progress
            ∙ (ap (option_map progress_of) np.there
            ∙ rw (np.number_is, b.number_is, np.part_is, np.meets) refl);
        shows = mp.at_shows;
        plan = mp.at_plan ∙ (mb.next_plan ∙ to_w);
      }

  read : (x y i o u : ℕ) → IsLinked t In x y i o → unit_of t i ≡ u → unit_full m c u ≡ true → IsRead t begun v x y i o
  read x y i o u l own full = record {
    pass = record { slot = np.slot; event = at.event; frame = at.frame ∙ ap (λ (z : ℕ). Some (record { number = c.number; part = z; passed = i })) (sym (part_here i e.slave)) };
    value = e.after ∙ (r.2 ∙ (ap (λ ys. bit ys o) (np.published r.0 refl) ∙ sym (ap (λ ys. bit ys o) held)));
  }
    where
      e : BitIn x y i o
      e = bit_in x y i o l

      r : (value : List ℕ) × IsNoted c (share_of m i).part i value × (bit v.master.inputs (image_from t.variables x + y) ≡ bit value o)
      r = closed.taken (image_from t.variables x + y) (record { slave = i; bit_of = o }) e.inside e.source (ap (unit_full m c) (sym (unit_here i e.slave) ∙ own) ∙ full)

      np : IsNotedAt M b.begun pb.next b.behind (share_of m i).part i (Full r.0)
      np = published_law M pb b.begun b.behind c is_begun opened (sym b.number_is) (share_of m i).part i r.1.notes (Full r.0) r.1.back r.1.note

      at : Pass_ (share_of m i).part i (Full r.0) np
      at = pass_at (share_of m i).part i (Full r.0) np

      q : PlainSlave
      q = plain_slave (run M b.begun np.before).plain i

      some : has_ins (share_of M i) ≡ true
      some = ap (λ (z : Meaning). has_ins (share_of z i)) (sym same_meaning) ∙ (ap (λ (z : Share). has_ins z) (share_is w.plan i) ∙ lt-ltb 0 (settings_of w.plan i).share.ins (let z = e.some in omega (arith, z)))

      held : published (slave_of at.event.at i) 3 ≡ q.inputs.published
      held = published_is (slave_of at.event.at i) 3 ∙ inputs_held i (settings_of at.event.at.plan i) (slave_of at.event.at i) q q.health (at.shows.slaves i (let z = ap (λ (x : PlanState). length x.slaves) at.plan in let y = e.slave in omega (arith, y, z)))
          (noted_on M i np.frame q r.0 np.is some)

  -- ---- why a unit isn't taken

  in_plan : (i : ℕ) → i < length w.plan.slaves → i < length (plan_of t).slaves
  in_plan i l = let z = ap (λ (x : PlanState). length x.slaves) s.plan_kept in omega (arith, l, z)

  outs_M : (i : ℕ) → i < length (plan_of t).slaves → HasRoom (share_of M i).outs (output_bits t i)
  outs_M i l = subst (λ (n : ℕ). HasRoom n (output_bits t i)) (sym (ap (λ (z : Share). z.outs) (share_is s.ready.plan i) ∙ ap (λ (z : PlanState). (settings_of z i).share.outs) s.plan_is)) (outs_room t sound i l)

  ins_M : (i : ℕ) → i < length (plan_of t).slaves → HasRoom (share_of M i).ins (input_bits t i)
  ins_M i l = subst (λ (n : ℕ). HasRoom n (input_bits t i)) (sym (ap (λ (z : Share). z.ins) (share_is s.ready.plan i) ∙ ap (λ (z : PlanState). (settings_of z i).share.ins) s.plan_is)) (ins_room t sound i l)

  some_bits : (i : ℕ) → i < length (plan_of t).slaves → (has_outs (share_of M i) || has_ins (share_of M i)) ≡ true → 0 < output_bits t i + input_bits t i
  some_bits i l e =
      elim (or_cases (has_outs (share_of M i)) (has_ins (share_of M i)) e) [
        | inl x ↦ (let y = ltb-true 0 (share_of M i).outs x in omega (arith, (outs_M i l).bytes, y))
        | inr x ↦ (let y = ltb-true 0 (share_of M i).ins x in omega (arith, (ins_M i l).bytes, y))
      ]

  lost : (k u : ℕ) → unit_of_part t k ≡ u → LostAt M b.begun pb.next b.behind k → HasLost t begun.event.next begun.event.behind w c.number u
  lost k u mine x =
      let ml = made_by mb.made.next s.ready.plan mb.next_plan b.begun mb.made.behind w mb.made.rest x.before (Lose x.slot) x.behind x.next s.usable mb.next_shows mb.made.onward still_w (mb.behind_is ∙ x.split) x.made in
      record {
        slot = x.slot;
        event = ml.made;
        frame = progress_of x.frame;
        there = same_progress ml.made.at.slots (run M b.begun x.before).plain.slots x.slot ml.at_shows.progress ∙ ap (option_map progress_of) x.there;
        number_is = x.is.number_is ∙ b.number_is;
        unit_is = ap (unit_of_part t) x.is.part_is ∙ mine;
      }

  under_way : (k u : ℕ) → unit_of_part t k ≡ u → Away pb.next k (run M b.begun b.behind).plain.slots → IsUnderWay t w c.number u
  under_way k u mine a = record {
    slot = a.slot;
    frame = progress_of a.frame;
    there = same_progress w.slots p.slots a.slot s.shown.progress ∙ ap (option_map progress_of) (ap (λ (x : Plain). frame_at x a.slot) on ∙ a.there);
    number_is = a.is.number_is ∙ b.number_is;
    unit_is = ap (unit_of_part t) a.is.part_is ∙ mine;
  }

  short : (k i u : ℕ) (notes : List Note) → unit_of_plain m k ≡ u → get_or c.kept k None ≡ Some notes → slice_get notes i ≡ Some Short → FellShort t begun u
  short k i u notes mine back note = record {
    slave = i;
    unit_is = unit_here i here ∙ (ap (unit_of_plain m) own ∙ mine);
    pass = record { slot = np.slot; event = at.event; frame = at.frame ∙ ap (λ (z : ℕ). Some (record { number = c.number; part = z; passed = i })) (sym (part_here i here ∙ own)) };
    less = less;
    trouble = trouble;
  }
    where
      np : IsNotedAt M b.begun pb.next b.behind k i Short
      np = published_law M pb b.begun b.behind c is_begun opened (sym b.number_is) k i notes Short back note

      at : Pass_ k i Short np
      at = pass_at k i Short np

      x : WorldState
      x = at.event.at

      usable_x : IsUsable x.plan
      usable_x = subst IsUsable (sym at.plan) s.still_usable

      q : PlainSlave
      q = plain_slave (run M b.begun np.before).plain i

      told : ((share_of M i).part ≡ np.frame.part) × FallsShort M i q
      told = (notes_law M i np.frame q).short (sym np.is)

      o : PassedOn x (run M b.begun np.before).plain np.slot (record { number = c.number; part = k; passed = i }) at.event.next
      o = passed_on x (run M b.begun np.before).plain np.slot (record { number = c.number; part = k; passed = i }) at.event.next usable_x at.shows at.frame at.event.step

      here_x : i < length x.plan.slaves
      here_x = let z = o.here in let y = ap (λ (f : Progress). f.passed) o.same in omega (arith, y, z)

      here : i < length w.plan.slaves
      here = let z = here_x in let y = ap (λ (f : PlanState). length f.slaves) at.plan in omega (arith, y, z)

      own : (share_of m i).part ≡ k
      own = ap (λ (z : Meaning). (share_of z i).part) same_meaning ∙ (told.0 ∙ np.part_is)

      no_op : IsInOp x i → ⊥
      no_op op = in_op_whole M i q (op_works x (run M b.begun np.before).plain i at.shows here_x op) told.1

      less : GivesLess t x i
      less = by told.1
        where
          is_as : IsAs i (settings_of x.plan i) (slave_of x i) q q.health
          is_as = at.shows.slaves i here_x

          by : FallsShort M i q → GivesLess t x i
          by (inl z) = inr (state_is i (settings_of x.plan i) (slave_of x i) q q.health is_as ∙ ap state_in z.0, some_bits i (in_plan i here) z.1)
          by (inr z) = inl (state_is i (settings_of x.plan i) (slave_of x i) q q.health is_as ∙ ap state_in z.0, (let y = ltb-true 0 (share_of M i).outs z.1 in let e = (outs_M i (in_plan i here)).bytes in omega (arith, y, e)))

      -- from the world that was Ready to the pass
      way : List Event
      way = mb.made.before ++ (Begin ∷ at.event.before)

      run_way : IsRun s.ready way x (mb.made.first + (1 + at.event.first))
      run_way = runs_join s.ready mb.made.before mb.made.at mb.made.first (Begin ∷ at.event.before) x (1 + at.event.first) mb.made.to_it (mb.made.next, true, at.event.first, mb.made.step, at.event.to_it, refl)

      still_way : x.start ≡ s.ready.start
      still_way = at_still mb.made.next mb.made.behind w (Pass np.slot) mb.next_shows.started at.event still_w ∙ mb.next_start

      shows_way : Refines x (run M first way).plain
      shows_way = (runs_refine s.ready way x (mb.made.first + (1 + at.event.first)) s.usable run_way).shown first s.shows still_way

      here_ready : i < length s.ready.plan.slaves
      here_ready = let z = here in let y = ap (λ (f : PlanState). length f.slaves) to_w in omega (arith, y, z)

      all : s.before ++ way ≡ begun.event.before ++ (Begin ∷ at.event.before)
      all = sym (append_assoc s.before mb.made.before (Begin ∷ at.event.before))

      since : HadTrouble old (s.before ++ way) x i
      since = elim (s.told i here_ready) [
        | inl works ↦ preceded s.before old s.ready s.first way x i s.to_ready
            (falls way s.ready x (mb.made.first + (1 + at.event.first)) first i s.usable s.shows run_way still_way works (λ z. no_op (works_op x (run M first way).plain i shows_way here_x z)))
        | inr had ↦ extended old s.before s.ready way x (mb.made.first + (1 + at.event.first)) i run_way (without_start way s.ready x (mb.made.first + (1 + at.event.first)) first s.usable s.shows run_way still_way) had
      ]

      trouble : HadTrouble old (begun.event.before ++ (Begin ∷ at.event.before)) x i
      trouble = subst (λ (es : List Event). HadTrouble old es x i) all since

  cause : (u : ℕ) → IsMissedPlain m c u → Cause t begun u
  cause u (FellShortAt k i notes mine back note) = ByFallingShort (short k i u notes mine back note)
  cause u (NotBack k l mine back) = by ((located M pb b.begun b.behind b.begins).each c opened (sym b.number_is) k l)
    where
      unit : unit_of_part t k ≡ u
      unit = sym (unit_part k) ∙ mine

      by : Place M b.begun pb.next b.behind (run M b.begun b.behind).plain.slots c.kept k → Cause t begun u
      by (IsReturned notes e) = absurd (none_some notes (sym back ∙ e))
      by (OnItsWay a) = ByEarlyClose (under_way k u unit a)
      by (Lost x) = ByLoss (lost k u unit x)

  -- ---- none of these stands against a unit that is taken

  -- an event since the cycle began, in the plain machine
  record Seen_ (e : Event) (x : IsMade mb.made.next mb.made.behind w e) : Type 0 where
    pub split : b.behind ≡ x.before ++ (e ∷ x.behind)
    pub next : Plain
    pub shows : Refines x.at (run M b.begun x.before).plain
    pub makes : step M (run M b.begun x.before).plain e ≡ Some next
    pub plan : x.at.plan ≡ w.plan

  usable_next : IsUsable mb.made.next.plan
  usable_next = subst IsUsable (sym mb.next_plan) s.usable

  seen_ : (e : Event) (x : IsMade mb.made.next mb.made.behind w e) → Seen_ e x
  seen_ e x =
      let P = (run M b.begun x.before).plain in
      let still_x : x.at.start ≡ mb.made.next.start = at_still mb.made.next mb.made.behind w e mb.next_shows.started x still_w in
      let still_on : x.next.start ≡ x.at.start = next_still mb.made.next mb.made.behind w e mb.next_shows.started x still_w ∙ sym still_x in
      let at_next : Refines x.at (run (meaning mb.made.next.plan) b.begun x.before).plain = (runs_refine mb.made.next x.before x.at x.first usable_next x.to_it).shown b.begun mb.next_shows still_x in
      let shows : Refines x.at P = subst (λ (z : PlanState). Refines x.at (run (meaning z) b.begun x.before).plain) mb.next_plan at_next in
      let plan : x.at.plan ≡ s.ready.plan = run_keeps mb.made.next x.before x.at x.first x.to_it ∙ mb.next_plan in
      let one = steps_refine x.at e x.next true (subst IsUsable (sym plan) s.usable) x.step in
      let made_one = some_of (step (meaning x.at.plan) P e) (sym (one.made_is P shows still_on)) in
      record {
        split = sym mb.behind_is ∙ x.split;
        next = made_one.0;
        shows = shows;
        makes = ap (λ (z : PlanState). step (meaning z) P e) (sym plan) ∙ made_one.1;
        plan = plan ∙ to_w;
      }

  of_unit : (g : PlainFrame) (f : Progress) (u : ℕ) → progress_of g ≡ f → f.number ≡ c.number → unit_of_part t f.part ≡ u → is_of_unit M pb.next u g ≡ true
  of_unit g f u same num unit = and_from _ _
      (eq-eqb g.number pb.next (ap (λ (z : Progress). z.number) same ∙ (num ∙ sym b.number_is)))
      (eq-eqb _ _ (ap (λ (z : Progress). unit_of_plain M z.part) same ∙ (ap (λ (z : Meaning). unit_of_plain z f.part) (sym same_meaning) ∙ (unit_part f.part ∙ unit))))

  no_cause : (u : ℕ) → unit_full m c u ≡ true → Cause t begun u → ⊥
  no_cause u full = by
    where
      full_M : unit_full M c u ≡ true
      full_M = ap (λ (z : Meaning). unit_full z c u) (sym same_meaning) ∙ full

      count : length pb.slaves ≡ length s.ready.plan.slaves
      count = mb.at_shows.plain_count ∙ ap (λ (z : PlanState). length z.slaves) mb.at_plan

      quiet : IsQuiet M pb b.begun b.behind u
      quiet = quiet_law M pb b.begun b.behind c u (in_parts s.ready.plan pb s.usable count) is_begun opened (sym b.number_is) full_M

      by_short : (x : FellShort t begun u) → ⊥
      by_short x = spoiled_not_full M pb b.begun b.behind c u is_begun opened (sym b.number_is) full_M
          x.pass.event.before x.pass.event.behind x.pass.slot e.next g.0 x.slave e.split e.makes g.1.0
          (ap (λ (z : Progress). z.number) g.1.1 ∙ sym b.number_is) (ap (λ (z : Progress). z.passed) g.1.1) own short mine (let y = e.shows.plain_count in let z = here_x in omega (arith, y, z))
        where
          e : Seen_ (Pass x.pass.slot) x.pass.event
          e = seen_ (Pass x.pass.slot) x.pass.event

          P : Plain
          P = (run M b.begun x.pass.event.before).plain

          f : Progress
          f = record { number = c.number; part = part_of (plan_of t) x.slave; passed = x.slave }

          g : (g : PlainFrame) × ((frame_at P x.pass.slot ≡ Some g) × (progress_of g ≡ f))
          g = plain_frame x.pass.event.at P x.pass.slot f e.shows x.pass.frame

          o : PassedOn x.pass.event.at P x.pass.slot f x.pass.event.next
          o = passed_on x.pass.event.at P x.pass.slot f x.pass.event.next (subst IsUsable (sym e.plan) s.still_usable) e.shows x.pass.frame x.pass.event.step

          here_x : x.slave < length x.pass.event.at.plan.slaves
          here_x = let z = o.here in let y = ap (λ (k : Progress). k.passed) o.same in omega (arith, y, z)

          here : x.slave < length w.plan.slaves
          here = let z = here_x in let y = ap (λ (k : PlanState). length k.slaves) e.plan in omega (arith, y, z)

          own : (share_of M x.slave).part ≡ g.0.part
          own = ap (λ (z : Meaning). (share_of z x.slave).part) (sym same_meaning) ∙ (sym (part_here x.slave here) ∙ sym (ap (λ (z : Progress). z.part) g.1.1))

          mine : unit_of_slave M x.slave ≡ u
          mine = ap (λ (z : Meaning). unit_of_slave z x.slave) (sym same_meaning) ∙ (sym (unit_here x.slave here) ∙ x.unit_is)

          q : PlainSlave
          q = plain_slave P x.slave

          is_as : IsAs x.slave (settings_of x.pass.event.at.plan x.slave) (slave_of x.pass.event.at x.slave) q q.health
          is_as = e.shows.slaves x.slave here_x

          short : FallsShort M x.slave q
          short = elim x.less [
            | inl z ↦ inr (health_is x.slave _ _ q q.health Faulted is_as z.0, lt-ltb 0 (share_of M x.slave).outs (let y = outs_M x.slave (in_plan x.slave here) in let l = z.1 in omega (arith, y, l)))
            | inr z ↦ inl (
              health_is x.slave _ _ q q.health Reset is_as z.0,
              elim (cases_lt 0 (share_of M x.slave).outs) [
                | inl l ↦ or_left _ _ (lt-ltb 0 (share_of M x.slave).outs l)
                | inr l ↦ or_right _ _ (lt-ltb 0 (share_of M x.slave).ins (let y = outs_M x.slave (in_plan x.slave here) in let v = ins_M x.slave (in_plan x.slave here) in let k = z.1 in omega (arith, y, v, l, k)))
              ],
            )
          ]

      by : Cause t begun u → ⊥
      by (ByLoss x) =
          let e = seen_ (Lose x.slot) x.event in
          let g = plain_frame x.event.at (run M b.begun x.event.before).plain x.slot x.frame e.shows x.there in
          true≢false (sym (of_unit g.0 x.frame u g.1.1 x.number_is x.unit_is) ∙ (sym (ap (holds_of_unit M pb.next u) g.1.0) ∙ quiet.undisturbed x.event.before x.event.behind (Lose x.slot) e.next e.split e.makes))
      by (ByEarlyClose x) =
          let g = plain_frame w p x.slot x.frame s.shown x.there in
          true≢false (sym (of_unit g.0 x.frame u g.1.1 x.number_is x.unit_is) ∙ quiet.back x.slot g.0 (ap (λ (z : Plain). frame_at z x.slot) (sym on) ∙ g.1.0))
      by (ByFallingShort x) = by_short x

  -- ---- a bit without a link

  free_bit : (x y : ℕ) → ((i o : ℕ) → IsLinked t In x y i o → ⊥) → variable_bit v x y ≡ variable_bit w x y
  free_bit x y none = subst (λ (z : WorldState). variable_bit z x y ≡ variable_bit w x y) (sym closed.rest) (by (slice_get w.master.plan.variables x) refl)
    where
      -- the master then
      after : MasterState
      after = record w.master { inputs = v.master.inputs; cycle = None }

      same_bit : (g : Variable) → slice_get w.master.plan.variables x ≡ Some g → is_out g.direction ≡ false → y < g.bits → bit v.master.inputs (g.from + y) ≡ bit w.master.inputs (g.from + y)
      same_bit g e way few = elim (cases_lt (g.from + y) (8 * length w.master.inputs)) [
        | inr past ↦ bit_past v.master.inputs (g.from + y) (let z = closed.size in omega (arith, past, z)) ∙ sym (bit_past w.master.inputs (g.from + y) past)
        | inl inside ↦ closed.unlinked (g.from + y) inside (unlinked (m.in_source (g.from + y)) refl)
      ]
        where
          unlinked : (o : Option Linked) → m.in_source (g.from + y) ≡ o → m.in_source (g.from + y) ≡ None
          unlinked None q = q
          unlinked (Some l) q = absurd (clash ((links.inputs (g.from + y) l.slave l.bit_of).0 q))
            where
              clash : IsPair t In (g.from + y) l.slave l.bit_of → ⊥
              clash pair = elim (cases_eq pair.variable x) [
                | inl same ↦
                    let e1 : Some g ≡ Some own = sym e ∙ (ap (λ (z : ℕ). slice_get w.master.plan.variables z) (sym same) ∙ there) in
                    let from1 : g.from ≡ own.from = ap (λ (z : Variable). z.from) (some_same g own e1) in
                    let bit1 : pair.bit ≡ y = omega (arith, from1, at.from, pair.image_is) in
                    none l.slave l.bit_of (subst (λ (z : ℕ). IsLinked t In x z l.slave l.bit_of) bit1 (subst (λ (z : ℕ). IsLinked t In z pair.bit l.slave l.bit_of) same pair.linked))
                | inr ne ↦
                    let at1 = pair.image_is in
                    (bits_are_apart t).no_common pair.variable x own g ne (in_t pair.variable own there) (in_t x g e) (at.way ∙ has.way ∙ sym (in_way g.direction way)) pair.bit y (omega (arith, has.inside, at.bits)) few (omega (arith, at.from, at1))
              ]
                where
                  has : HasBit t In pair.variable pair.bit
                  has = linked_bits_are_there t n.accepted In pair.variable pair.bit l.slave l.bit_of pair.linked

                  at : IsPlaced t pair.variable has.row
                  at = variables_are_placed t pair.variable has.row has.there

                  own : Variable
                  own = at.placed

                  there : slice_get w.master.plan.variables pair.variable ≡ Some own
                  there = ap (λ vs. slice_get vs pair.variable) variables_w ∙ at.there

                  in_t : (z : ℕ) (a : Variable) → slice_get w.master.plan.variables z ≡ Some a → slice_get (plan_of t).variables z ≡ Some a
                  in_t z a e = ap (λ vs. slice_get vs z) (sym variables_w) ∙ e

      by : (o : Option Variable) → slice_get w.master.plan.variables x ≡ o → (bit_at (value_at after (slice_get w.master.plan.variables x)) y == 1) ≡ variable_bit w x y
      by None e = ap (λ o. bit_at (value_at after o) y == 1) e ∙ sym (ap (λ o. bit_at (value_at w.master o) y == 1) e)
      by (Some g) e = ap (λ o. bit_at (value_at after o) y == 1) e ∙ (one ∙ sym (ap (λ o. bit_at (value_at w.master o) y == 1) e))
        where
          one : (bit_at (value_of after g) y == 1) ≡ (bit_at (value_of w.master g) y == 1)
          one = elim (cases_Bool (is_out g.direction)) [
            | inl out ↦ rw out refl
            | inr way ↦ elim (cases_lt y g.bits) [
              | inl few ↦ value_bit after g y few way ∙ (same_bit g e way few ∙ sym (value_bit w.master g y few way))
              | inr high ↦ ap (λ z. z == 1) (high_bit after g y high ∙ sym (high_bit w.master g y high))
            ]
          ]

  -- ---- a unit

  taken_one : (u : ℕ) → unit_full m c u ≡ true → IsTaken t begun v closed.report u
  taken_one u full = record {
    said = says (unit_full m c) closed.report m.units u true closed.units closed.says full;
    inputs = λ x y i o l own. read x y i o u l own full;
    counters = λ k l own. (
        let r = closed.counted k (let z = ap (λ (x : PlanState). length x.parts) s.plan_kept in omega (arith, l, z)) (ap (unit_full m c) (unit_part k ∙ own) ∙ full) in
        r.told ∙ ap (λ z. Some z) (r.counters ∙ ap (λ (x : PlanState). predicted x k) s.plan_kept));
    broadcasts = λ k l own. (
        let r = closed.counted k (let z = ap (λ (x : PlanState). length x.parts) s.plan_kept in omega (arith, l, z)) (ap (unit_full m c) (unit_part k ∙ own) ∙ full) in
        ap (option_and_then (λ (o : OpenCycle). option_map (λ (q : ReturnedPart). q.broadcast) (get_or o.kept k None))) closed.was_open
        ∙ (ap (option_map (λ (q : ReturnedPart). q.broadcast)) r.back ∙ ap (λ (n : ℕ). Some n) (let b = r.broadcast in let z = ap (λ (x : PlanState). length x.slaves) s.plan_kept in let y = sound.as_many in omega (arith, b, z, y))));
    no_cause = no_cause u full;
  }

  missed_one : (u : ℕ) → unit_full m c u ≡ false → IsMissed t begun v closed.report u
  missed_one u off = record {
    said = says (unit_full m c) closed.report m.units u false closed.units closed.says off;
    unchanged = λ x y i o l own. (
        let e = bit_in x y i o l in
        e.after ∙ (closed.untaken (image_from t.variables x + y) (record { slave = i; bit_of = o }) e.inside e.source (ap (unit_full m c) (sym (unit_here i e.slave) ∙ own) ∙ off) ∙ sym e.before));
    cause = cause u (closed.missed u off);
  }

  pub close_shows : CloseShows t old events w v
  close_shows = record {
    number = c.number;
    begun = begun;
    is_open = ap (option_map (λ (x : OpenCycle). x.number)) closes.is_open ∙ ap (λ (n : ℕ). Some n) both.shows.number;
    report = closed.report;
    reported = closed.reported;
    listed = (
        let own = lists_units t n.sound in
        subst (ListsUnits t) (sym (closed.units ∙ ap (λ (x : PlanState). x.units) s.plan_kept)) (record { each = own.each; once = own.once; only = own.only; zero_alone = own.zero_alone }));
    each = λ u. elim (cases_Bool (unit_full m c u)) [
      | inl full ↦ inl (taken_one u full)
      | inr off ↦ inr (missed_one u off)
    ];
    unlinked = free_bit;
    rest = closed.rest;
  }

-- ---- the headline as one law, and over the events of a list

pub headline_law : HeadlineLaw
headline_law t ids old events w made n h up StartNext v does = never_starts w v up does
headline_law t ids old events w made n h up (Set x value) v does = set_shows t ids old events w made n h up v x value does
headline_law t ids old events w made n h up Begin v does = begin_shows w v does
headline_law t ids old events w made n h up (Pass k) v does = headline_outputs t ids old events w made n h up k v does
headline_law t ids old events w made n h up (Lose k) v does = does.happens refl
headline_law t ids old events w made n h up (Return k) v does = return_shows t ids old events w made n h up v k does
headline_law t ids old events w made n h up Close v does = close_shows t ids old events w made n h up v does
headline_law t ids old events w made n h up (Serve s) v does = serve_shows t ids old events w made n h up v s does
headline_law t ids old events w made n h up (AppPut s i byte) v does = put_shows t ids old events w made n h up v s i byte does
headline_law t ids old events w made n h up (AppGet s i) v does = get_shows t ids old events w made n h up v s i does
headline_law t ids old events w made n h up (Fault s) v does = fault_shows t ids old events w made n h up v s does
headline_law t ids old events w made n h up (ResetSlave s) v does = reset_shows t ids old events w made n h up v s does
headline_law t ids old events w made n h up Stop v does = stop_shows w v does

-- ---- over a list of events

pub each_promised : (t : Contents) (identities : List Identity) (first : WorldState) (past : List Event) (old : WorldState) (count : ℕ) (events : List Event) (new : WorldState) (made : ℕ) → IsNew t identities first
    → IsRun first past old count → IsRun old events new made → EachIsPromised t first past old events new
each_promised t ids first past old count events new made n h g before e behind split =
    let c = cut old before e behind new made (subst (λ (xs : List Event). IsRun old xs new made) split g) in
    let shows : c.one ≡ true → is_up c.at.start ≡ true → HeadlineShows t first (past ++ before) c.at e c.next
    = λ yes up. headline_law t ids first (past ++ before) c.at (count + c.first) n (runs_join first past old count before c.at c.first h c.to_it) up e c.next (subst (λ (b : Bool). IsStep c.at e c.next b) yes c.step) in
    search (c, shows)
