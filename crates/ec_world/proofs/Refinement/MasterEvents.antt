-- Events of the master: a variable set, a cycle begun, a frame that comes back, a cycle closed.
use Rattle.ec_world.proofs.Words.{is_up, ℕ, zero, suc, ◌+◌, ◌-◌, ◌^◌, ◌<◌, ◌≡◌, ◌&&◌, true, false, Option, Some, None, refl, sym, ◌∙◌, ap, subst, arith, List, [], ◌∷◌, length, map, get_or, is_some, is_none, slice_get, option_map, unwrap_or, nat_lt, nat_le, and_parts, ltb-true, length-map, is_out, with_number, if_true, IsFrame, bare_payload, Variable, PlanState, meaning, IsUsable, ReturnedPart, nones, inputs_closed, report_of, ReportState, sent_datagrams, MasterState, OpenCycle, closed, holds_value, value_put, variable_set, Plain, PlainFrame, Note, Cycle, progress_of, all_progress, filled, new_frames, setting, beginning, closing, WorldState, Flight, flight_progress, flights_progress, flights_from, can_begin, Begins, Closes, Refines, CyclesRefine, CycleRefines, said, CountersPredicted, FrameRefines, theres, nones-alike, none_some, some_same, same_slots, cycle_begun, none_in, some_guarded, is_some-mapped}
use Rattle.ec_world.proofs.SlotLaws.Filled.{filled-map, filled-both}
use Rattle.ec_world.proofs.Refinement.FreshFrame.{fresh, fresh_shows}
use Rattle.ec_world.proofs.Refinement.Close.{inputs_same, report_said, counters_predicted}
use Rattle.ec_world.proofs.Refinement.ApplicationEvents.{master_changed}

-- ---- cycles

pub record OpenBoth (plan : PlanState) (c : OpenCycle) (o : Option Cycle) : Type 0 where
  pub cycle : Cycle
  pub is : o ≡ Some cycle
  pub shows : CycleRefines plan c cycle

pub open_both : (plan : PlanState) (c : OpenCycle) (o : Option Cycle) → CyclesRefine plan (Some c) o → OpenBoth plan c o
open_both plan c None h = absurd h
open_both plan c (Some q) h = record { cycle = q; is = refl; shows = h }

pub cycles_alike : (plan : PlanState) (o : Option OpenCycle) (p : Option Cycle) → CyclesRefine plan o p → is_some o ≡ is_some p
cycles_alike plan None (Some q) h = absurd h
cycles_alike plan (Some c) None h = absurd h
cycles_alike plan _ _ h = refl

-- ---- a variable set

set_made : (p : Plain) (value : ℕ) (o : Option Variable) → holds_value value o ≡ is_some (setting p value o)
set_made p value None = refl
set_made p value (Some v) = some_guarded (is_out v.direction && nat_lt value (2 ^ v.bits)) (record p { outputs = with_number p.outputs v.from v.bits value })

set_is : (p : Plain) (value : ℕ) (o : Option Variable) → holds_value value o ≡ true → unwrap_or (setting p value o) p ≡ record p { outputs = value_put p.outputs value o }
set_is p value None e = refl
set_is p value (Some v) e = ap (λ x. unwrap_or x p) (if_true _ _ _ e)

variables_same : (w : WorldState) (p : Plain) (v : ℕ) → Refines w p → slice_get w.master.plan.variables v ≡ slice_get w.plan.variables v
variables_same w p v s = ap (λ (x : PlanState). slice_get x.variables v) s.same_plan

pub set_can : (w : WorldState) (p : Plain) (v x : ℕ) → Refines w p → holds_value x (slice_get w.master.plan.variables v) ≡ is_some (setting p x (slice_get (meaning w.plan).variables v))
set_can w p v x s = ap (holds_value x) (variables_same w p v s) ∙ set_made p x (slice_get w.plan.variables v)

pub set_shows : (w : WorldState) (p : Plain) (v x : ℕ) → Refines w p → holds_value x (slice_get w.master.plan.variables v) ≡ true
    → Refines (record w { master = variable_set w.master v x }) (unwrap_or (setting p x (slice_get (meaning w.plan).variables v)) p)
set_shows w p v x s can =
    subst (λ (q : Plain). Refines (record w { master = variable_set w.master v x }) q) (sym (set_is p x (slice_get w.plan.variables v) (sym (ap (holds_value x) (variables_same w p v s)) ∙ can)))
    (master_changed w p (record p { outputs = value_put p.outputs x (slice_get w.plan.variables v) }) (variable_set w.master v x) w.report w.got s s.is_ready s.same_plan
    (ap (value_put w.master.outputs x) (variables_same w p v s) ∙ ap (λ image. value_put image x (slice_get w.plan.variables v)) s.outputs) s.inputs s.next s.got s.cycle s.report)

-- ---- a cycle begun

begin_made : (w : WorldState) (p : Plain) → Refines w p
    → (is_none p.cycle && (nat_le (length (meaning w.plan).parts) (nones p.slots) && nat_lt p.next (2 ^ 64 - 1))) ≡ can_begin w
begin_made w p s =
    let parts : length (meaning w.plan).parts ≡ length w.plan.parts = length-map w.plan.parts (λ k. k.unit) in
    let free : nones p.slots ≡ nones w.slots = sym (nones-alike w.slots p.slots (same_slots w.slots p.slots s.progress)) in
    rw (not_same w.master.cycle p.cycle s.cycle, parts, free, s.next, s.is_ready, s.started) refl
  where
    not_same : (o : Option OpenCycle) (q : Option Cycle) → CyclesRefine w.plan o q → is_none q ≡ is_none o
    not_same None None h = refl
    not_same None (Some q) h = absurd h
    not_same (Some c) None h = absurd h
    not_same (Some c) (Some q) h = refl

pub begin_can : (w : WorldState) (p : Plain) → Refines w p → can_begin w ≡ is_some (beginning (meaning w.plan) p)
begin_can w p s = sym (begin_made w p s)
    ∙ some_guarded (is_none p.cycle && (nat_le (length (meaning w.plan).parts) (nones p.slots) && nat_lt p.next (2 ^ 64 - 1))) (cycle_begun (meaning w.plan) p)

abbrev nothing : (Z : Type 0) → {X : Type 0} → X → Option Z
nothing Z x = None

none_there : {X Y : Type 0} (Z W : Type 0) (xs : List X) (ys : List Y) → length xs ≡ length ys → theres (map (nothing Z) xs) ≡ theres (map (nothing W) ys)
none_there Z W [] [] e = refl
none_there Z W (x ∷ xs) (y ∷ ys) e = ap (λ bs. false ∷ bs) (none_there Z W xs ys (omega arith))
none_there Z W _ _ e = absurd (omega arith)

same_start : (number k : ℕ) (image : List ℕ) (bs : List (List ℕ)) (us : List ℕ) → length bs ≡ length us → map flight_progress (flights_from number k bs) ≡ map progress_of (new_frames number image k us)
same_start number k image [] [] e = refl
same_start number k image (b ∷ bs) (u ∷ us) e = ap (λ ps. record { number = number; part = k; passed = 0 } ∷ ps) (same_start number (k + 1) image bs us (omega arith))
same_start number k image _ _ e = absurd (omega arith)

many_flights : (number k : ℕ) (image : List ℕ) (bs : List (List ℕ)) (us : List ℕ) → length bs ≡ length us → length (flights_from number k bs) ≡ length (new_frames number image k us)
many_flights number k image bs us e = sym (length-map (flights_from number k bs) flight_progress) ∙ (ap length (same_start number k image bs us e) ∙ length-map (new_frames number image k us) progress_of)

-- what holds of each new frame
new_both : (R : Flight → PlainFrame → Type 0) (number k : ℕ) (image : List ℕ) (bs : List (List ℕ)) (us : List ℕ)
    → ((i : ℕ) → i < length bs → R (record { bytes = get_or bs i []; number = number; part = k + i; passed = 0 }) (fresh number (k + i) image))
    → (i : ℕ) (x : Flight) (y : PlainFrame) → slice_get (flights_from number k bs) i ≡ Some x → slice_get (new_frames number image k us) i ≡ Some y → R x y
new_both R number k image [] us h i x y a b = absurd (none_some x a)
new_both R number k image (c ∷ bs) [] h i x y a b = absurd (none_some y b)
new_both R number k image (c ∷ bs) (u ∷ us) h zero x y a b =
    let z : k + 0 ≡ k = omega arith in
    let r : R (record { bytes = c; number = number; part = k; passed = 0 }) (fresh number k image) = subst (λ (n : ℕ). R (record { bytes = c; number = number; part = n; passed = 0 }) (fresh number n image)) z (h 0 (omega arith)) in
    subst (λ (x : Flight). R x y) (some_same _ x a) (subst (λ (y : PlainFrame). R (record { bytes = c; number = number; part = k; passed = 0 }) y) (some_same _ y b) r)
new_both R number k image (c ∷ bs) (u ∷ us) h (suc i) x y a b =
    new_both R number (k + 1) image bs us (λ j l. let z : k + suc j ≡ k + 1 + j = omega arith in subst (λ (n : ℕ). R (record { bytes = get_or bs j []; number = number; part = n; passed = 0 }) (fresh number n image)) z (h (suc j) (omega arith))) i x y a b

pub begin_shows : (w : WorldState) (p : Plain) (w2 : WorldState) → IsUsable w.plan → Refines w p → can_begin w ≡ true → Begins w w2 → Refines w2 (unwrap_or (beginning (meaning w.plan) p) p)
begin_shows w p w2 sound s can begins =
    let m = meaning w.plan in
    let c = begins.cycle in
    let b = begins.master in
    let slots = filled (flights_from w.master.next 0 c.frames) w.slots in
    let begun : MasterState = record w.master { next = w.master.next + 1; cycle = Some c } in
    let w3 : WorldState = record w { master = begun; slots = slots } in
    let is : w2 ≡ w3 = begins.is ∙ ap (λ x. record w { master = x; slots = slots }) b.is in
    let p2 : Plain = cycle_begun m p in
    let made : beginning m p ≡ Some p2 = if_true _ _ _ (begin_made w p s ∙ can) in
    let parts : length m.parts ≡ length w.plan.parts = length-map w.plan.parts (λ k. k.unit) in
    let plan_parts : length w.master.plan.parts ≡ length w.plan.parts = ap (λ (x : PlanState). length x.parts) s.same_plan in
    let as_many : length c.frames ≡ length m.parts = b.count ∙ (plan_parts ∙ sym parts) in
    let fits : w.master.next < 2 ^ 64 - 1 = ltb-true _ _ (and_parts (nat_le (length w.plan.parts) (nones w.slots)) _ (and_parts (is_none w.master.cycle) _ (and_parts w.master.is_ready _ (and_parts (is_up w.start) _ can).1).1).1).1 in
    let cycle : CycleRefines w.plan c (record { number = p.next; kept = map (λ u. None) m.parts }) = record {
      number = b.number ∙ s.next;
      number_fits = let e = s.next in omega arith;
      each_part = ap length b.kept ∙ (length-map w.master.plan.parts (nothing ReturnedPart) ∙ plan_parts);
      same_parts = ap theres b.kept ∙ none_there ReturnedPart (List Note) w.master.plan.parts m.parts (plan_parts ∙ sym parts);
      kept = λ k part notes a z. absurd (none_in m.parts k notes z);
    } in
    let progress : flights_progress slots ≡ all_progress p2.slots
    = filled-map flight_progress (flights_from w.master.next 0 c.frames) w.slots
    ∙ (ap (λ fs. filled fs (flights_progress w.slots)) (same_start w.master.next 0 p.outputs c.frames m.parts as_many)
    ∙ (ap (λ os. filled (map progress_of (new_frames w.master.next p.outputs 0 m.parts)) os) s.progress
    ∙ (ap (λ n. filled (map progress_of (new_frames n p.outputs 0 m.parts)) (all_progress p.slots)) s.next
    ∙ sym (filled-map progress_of (new_frames p.next p.outputs 0 m.parts) p.slots)))) in
    let frames = filled-both (λ x f. FrameRefines w.plan f x.bytes) (flights_from w.master.next 0 c.frames) (new_frames p.next p.outputs 0 m.parts) w.slots p.slots
    (many_flights w.master.next 0 p.outputs c.frames m.parts as_many ∙ ap (λ n. length (new_frames n p.outputs 0 m.parts)) s.next)
    (same_slots w.slots p.slots s.progress)
    (subst (λ (n : ℕ). (i : ℕ) (x : Flight) (y : PlainFrame) → slice_get (flights_from w.master.next 0 c.frames) i ≡ Some x → slice_get (new_frames n p.outputs 0 m.parts) i ≡ Some y → FrameRefines w.plan y x.bytes) s.next
    (new_both (λ x f. FrameRefines w.plan f x.bytes) w.master.next 0 p.outputs c.frames m.parts (λ i l.
    let k : 0 + i ≡ i = omega arith in
    subst (λ (n : ℕ). FrameRefines w.plan (fresh w.master.next n p.outputs) (get_or c.frames i [])) (sym k)
    (fresh_shows w.plan w.master.next i p.outputs (get_or c.frames i []) sound (omega arith) (omega arith)
    (subst (λ (x : PlanState). IsFrame (get_or c.frames i []) (bare_payload (sent_datagrams x w.master.next i p.outputs))) s.same_plan
    (subst (λ (image : List ℕ). IsFrame (get_or c.frames i []) (bare_payload (sent_datagrams w.master.plan w.master.next i image))) s.outputs
    (b.frames i (let e = b.count in omega arith)))))))) s.frames in
    subst (λ (x : WorldState). Refines x (unwrap_or (beginning m p) p)) (sym is) (subst (λ (o : Option Plain). Refines w3 (unwrap_or o p)) (sym made) (assumption (ap (λ n. n + 1) s.next, cycle, progress, frames)))

-- ---- a cycle closed

pub close_can : (w : WorldState) (p : Plain) → Refines w p → is_some w.master.cycle ≡ is_some (option_map (closing (meaning w.plan) p) p.cycle)
close_can w p s = cycles_alike w.plan w.master.cycle p.cycle s.cycle ∙ sym (is_some-mapped (closing (meaning w.plan) p) p.cycle)

pub close_shows : (w : WorldState) (p : Plain) (w2 : WorldState) → IsUsable w.plan → Refines w p → Closes w w2 → Refines w2 (unwrap_or (option_map (closing (meaning w.plan) p) p.cycle) p)
close_shows w p w2 sound s closes =
    let m = meaning w.plan in
    let c = closes.cycle in
    let both = open_both w.plan c p.cycle (subst (λ (o : Option OpenCycle). CyclesRefine w.plan o p.cycle) closes.is_open s.cycle) in
    let q = both.cycle in
    let w3 : WorldState = record w { master = closed w.master c; report = Some (report_of w.master.plan c.kept) } in
    subst (λ (x : WorldState). Refines x (unwrap_or (option_map (closing m p) p.cycle) p)) (sym closes.is)
    (subst (λ (o : Option Cycle). Refines w3 (unwrap_or (option_map (closing m p) o) p)) (sym both.is)
    (master_changed w p (closing m p q) (closed w.master c) (Some (report_of w.master.plan c.kept)) w.got s s.is_ready s.same_plan s.outputs
    (ap (λ x. inputs_closed x c.kept w.master.inputs) s.same_plan ∙ (ap (inputs_closed w.plan c.kept) s.inputs ∙ inputs_same w.plan c q p.inputs sound both.shows)) s.next s.got tt (record {
      same = ap (λ x. Some x) (ap (λ x. said (report_of x c.kept)) s.same_plan ∙ report_said w.plan c q both.shows);
      counters = λ r e. subst (λ (x : ReportState). CountersPredicted w.plan x) (some_same _ r e)
          (subst (λ (x : PlanState). CountersPredicted w.plan (report_of x c.kept)) (sym s.same_plan) (counters_predicted w.plan c.kept both.shows.each_part));
    })))
