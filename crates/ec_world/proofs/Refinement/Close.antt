-- Closing a cycle: a master that goes by counters takes what the plain machine takes by its notes.
use Rattle.ec_world.proofs.Words.{ℕ, ◌+◌, ◌-◌, ◌*◌, ◌<◌, ◌≡◌, ◌≢◌, ◌==◌, true, false, Option, Some, None, refl, sym, ◌∙◌, ap, subst, inl, inr, arith, List, [], length, map, get_or, is_some, slice_get, if◌then◌else◌, option_and_then, option_map, unwrap_or, suc, Bool, ◌∷◌, get_or-map as get_or-mapped, cases_Bool, eq-eqb, eqb-true, and_parts, cases_eq, length-map, list_get_or-map as get_or-map, slice_get-get_or, linked_inputs, bit, overlay_alike, if_true, if_false, Share, ExpectedCounters, Lrw, Split, Lrw as InOne, same_counters, unit_of_part, predicted, Gave, counters_of, sum_of, lwr_count, lrd_count, lrw_count, whole_share, nothing_given, share_of, Linked, slave_at, area_at, meaning, in_source, span_of_part, PlanState, part_at, no_part, PartPlan, IsUsable, ReturnedPart, is_good, unit_taken, bytes_of, returned_bit, inputs_closed, report_of, nones, returned_part_of, OpenCycle, Answers, Note, Other, Short, Full, Cycle, is_full, all_full, unit_full, noted_bit, notes_of_part, taken_bit, inputs_taken, PlainFrame, note_at, GaveAs, DatagramsRefine, KeptRefines, CycleRefines, said, CountersPredicted, IsCounted, all_from-each, all_from-alike, nones-alike, there_too, map-alike, all_each, Datagram, IsReturned, answer_on_their_way, frames_are_returned, Meaning}
use Rattle.ec_world.proofs.Refinement.CyclicFrame.{share_is}
use Rattle.ec_world.proofs.Refinement.RoundTrip.{good_is_full, at}
use Rattle.ec_world.proofs.Refinement.ProcessData.{same_place, full_in_part}

pub unit_is : (plan : PlanState) (k : ℕ) → unit_of_part (meaning plan) k ≡ (part_at plan.parts k).unit
unit_is plan k = get_or-mapped (λ (x : PartPlan). x.unit) plan.parts k no_part

pub taken_is_full : (plan : PlanState) (c : OpenCycle) (q : Cycle) (u : ℕ) → CycleRefines plan c q → unit_taken plan c.kept u ≡ unit_full (meaning plan) q u
taken_is_full plan c q u h = all_from-alike
    (λ k o. if (part_at plan.parts k).unit == u then is_good plan k o else true)
    (λ k o. if unit_of_part (meaning plan) k == u then all_full o else true) 0 c.kept q.kept h.same_parts
    (λ n. ap (λ v. if v == u then false else true) (sym (unit_is plan n)))
    (λ i x y a b.
    let z : 0 + i ≡ i = omega arith in
    subst (λ (n : ℕ). (if (part_at plan.parts n).unit == u then is_good plan n (Some x) else true) ≡ (if unit_of_part (meaning plan) n == u then all_full (Some y) else true)) (sym z)
    (ap (λ v. if v == u then is_good plan i (Some x) else true) (sym (unit_is plan i)) ∙ ap (λ v. if unit_of_part (meaning plan) i == u then v else true) (good_is_full plan i y x (h.kept i x y a b))))

pub full_or : (n : Note) → is_full n ≡ true → n ≢ Other → (v : List ℕ) × (n ≡ Full v)
full_or Other e ne = absurd (ne refl)
full_or Short e ne = absurd (let z : false ≡ true = e in cc)
full_or (Full v) e ne = (v, refl)

pub all_full_kept : (o : Option (List Note)) → all_full o ≡ true → (ns : List Note) × (o ≡ Some ns)
all_full_kept None e = absurd (let z : false ≡ true = e in cc)
all_full_kept (Some ns) e = (ns, refl)

-- a part of a unit that is full
pub part_full : (m : Meaning) (q : Cycle) (u k : ℕ) → unit_full m q u ≡ true → k < length q.kept → unit_of_part m k ≡ u → all_full (get_or q.kept k None) ≡ true
part_full m q u k on inside own =
    let z : 0 + k ≡ k = omega arith in
    sym (if_true (unit_of_part m k == u) (all_full (get_or q.kept k None)) true (eq-eqb _ _ own))
    ∙ subst (λ (n : ℕ). (if unit_of_part m n == u then all_full (get_or q.kept k None) else true) ≡ true) z
    (all_from-each (λ j o. if unit_of_part m j == u then all_full o else true) 0 q.kept k None on inside)

-- one linked input bit
returned_is_taken : (plan : PlanState) (c : OpenCycle) (q : Cycle) (i : Linked) → IsUsable plan → CycleRefines plan c q
    → i.slave < length plan.slaves → i.bit_of < (area_at plan i.slave).ins → returned_bit plan c.kept i ≡ taken_bit (meaning plan) q i
returned_is_taken plan c q i sound h l b =
    let m = meaning plan in
    let k = (slave_at plan i.slave).share.part in
    let u = (part_at plan.parts k).unit in
    let part : (share_of m i.slave).part ≡ k = ap (λ (x : Share). x.part) (share_is plan i.slave) in
    let unit : unit_of_part m k ≡ u = unit_is plan k in
    let same : unit_taken plan c.kept u ≡ unit_full m q u = taken_is_full plan c q u h in
    let len : length c.kept ≡ length q.kept = sym (length-map c.kept (λ o. is_some o)) ∙ (ap length h.same_parts ∙ length-map q.kept (λ o. is_some o)) in
    let inside : k < length q.kept = let x = h.each_part in let y = sound.in_parts i.slave l in omega arith in
    let plain : taken_bit m q i ≡ (if unit_full m q u then noted_bit (slice_get (notes_of_part q k) i.slave) i.bit_of else None)
    = ap (λ j. if unit_full m q (unit_of_part m j) then noted_bit (slice_get (notes_of_part q j) i.slave) i.bit_of else None) part
    ∙ ap (λ v. if unit_full m q v then noted_bit (slice_get (notes_of_part q k) i.slave) i.bit_of else None) unit in
    elim (cases_Bool (unit_full m q u)) as (λ _. returned_bit plan c.kept i ≡ taken_bit m q i) [
      | inr off ↦ if_false _ _ _ (same ∙ off) ∙ sym (plain ∙ if_false _ _ _ off)
      | inl on ↦
          let own = part_full m q u k on inside unit in
          let notes = all_full_kept (get_or q.kept k None) own in
          let kept = there_too c.kept q.kept k notes.0 h.same_parts notes.1 in
          let shows = h.kept k kept.0 notes.0 kept.1 notes.1 in
          let few : i.slave < length notes.0 = let x = shows.all in omega arith in
          let full = all_each is_full notes.0 i.slave Other (sym (ap all_full notes.1) ∙ own) few in
          let note = full_or (note_at notes.0 i.slave) full (shows.in_part i.slave few part) in
          if_true _ _ _ (same ∙ on)
          ∙ (ap (λ o. Some (bit (bytes_of o) ((area_at plan i.slave).in_at + i.bit_of - 8 * (part_at plan.parts k).address))) kept.1
          ∙ (ap (λ x. Some x) (shows.noted i.slave i.bit_of note.0 few note.1 b)
          ∙ sym (plain ∙ (if_true _ _ _ on
          ∙ (ap (λ o. noted_bit (slice_get (unwrap_or o []) i.slave) i.bit_of) notes.1
          ∙ (ap (λ o. noted_bit o i.bit_of) (slice_get-get_or notes.0 i.slave Other few)
          ∙ ap (λ n. noted_bit (Some n) i.bit_of) note.1))))))
    ]

pub inputs_same : (plan : PlanState) (c : OpenCycle) (q : Cycle) (image : List ℕ) → IsUsable plan → CycleRefines plan c q
    → inputs_closed plan c.kept image ≡ inputs_taken (meaning plan) q image
inputs_same plan c q image sound h = overlay_alike image _ _ (λ b l. ap (λ o. unwrap_or o (bit image b)) (go b (in_source plan.in_links b) refl))
  where
    go : (b : ℕ) (o : Option Linked) → in_source plan.in_links b ≡ o → option_and_then (returned_bit plan c.kept) (in_source plan.in_links b) ≡ option_and_then (taken_bit (meaning plan) q) (in_source plan.in_links b)
    go b None e = ap (option_and_then (returned_bit plan c.kept)) e ∙ sym (ap (option_and_then (taken_bit (meaning plan) q)) e)
    go b (Some i) e =
        let linked = linked_inputs plan sound b i e in
        let few : i.slave < length plan.slaves = let x = length-map plan.slaves (λ s. s.share) in let y = linked.0 in omega arith in
        let inside : i.bit_of < (area_at plan i.slave).ins = let x = sound.laid.ins i.slave in let y = linked.1 in omega arith in
        ap (option_and_then (returned_bit plan c.kept)) e ∙ (returned_is_taken plan c q i sound h few inside ∙ sym (ap (option_and_then (taken_bit (meaning plan) q)) e))

pub report_said : (plan : PlanState) (c : OpenCycle) (q : Cycle) → CycleRefines plan c q
    → said (report_of plan c.kept) ≡ record { taken = map (unit_full (meaning plan) q) plan.units; missing = nones q.kept }
report_said plan c q h =
    ap (λ ts. record { taken = ts; missing = nones c.kept }) (map-alike (unit_taken plan c.kept) (unit_full (meaning plan) q) plan.units (λ u. taken_is_full plan c q u h))
    ∙ ap (λ n. record { taken = map (unit_full (meaning plan) q) plan.units; missing = n }) (nones-alike c.kept q.kept h.same_parts)

-- ---- counters

counters_equal : (a b : ExpectedCounters) → same_counters a b ≡ true → a ≡ b
counters_equal (Lrw n) (Lrw m) e = ap (λ x. Lrw x) (eqb-true n m e)
counters_equal (Split w r) (Split v q) e =
    let both = and_parts (w == v) (r == q) e in
    ap (λ x. Split x r) (eqb-true w v both.0) ∙ ap (λ x. Split v x) (eqb-true r q both.1)
counters_equal _ _ e = absurd (let z : false ≡ true = e in cc)

good_counters : (plan : PlanState) (k : ℕ) (o : Option ReturnedPart) → is_good plan k o ≡ true → option_map (λ (q : ReturnedPart). q.counters) o ≡ Some (predicted plan k)
good_counters plan k None e = absurd (let z : false ≡ true = e in cc)
good_counters plan k (Some q) e = ap (λ x. Some x) (counters_equal q.counters (predicted plan k) (and_parts (q.broadcast == length plan.slaves) (same_counters q.counters (predicted plan k)) e).1)

-- each part of a taken unit is good
good_part : (plan : PlanState) (kept : List (Option ReturnedPart)) (k : ℕ) → length kept ≡ length plan.parts → k < length plan.parts → unit_taken plan kept (part_at plan.parts k).unit ≡ true
    → is_good plan k (get_or kept k None) ≡ true
good_part plan kept k len there on =
    let u = (part_at plan.parts k).unit in
    let z : 0 + k ≡ k = omega arith in
    sym (if_true (u == u) (is_good plan k (get_or kept k None)) true (eq-eqb u u refl))
    ∙ subst (λ (n : ℕ). (if (part_at plan.parts n).unit == u then is_good plan n (get_or kept k None) else true) ≡ true) z
    (all_from-each (λ j o. if (part_at plan.parts j).unit == u then is_good plan j o else true) 0 kept k None on (omega (arith, len, there)))

counted_one : (plan : PlanState) (kept : List (Option ReturnedPart)) (k : ℕ) (o : Option ReturnedPart) → get_or kept k None ≡ o → is_good plan k o ≡ true → IsCounted plan kept (report_of plan kept) k
counted_one plan kept k None at e = absurd (let z : false ≡ true = e in cc)
counted_one plan kept k (Some q) at e =
    let both = and_parts (q.broadcast == length plan.slaves) (same_counters q.counters (predicted plan k)) e in
    record {
      part = q;
      back = at;
      broadcast = eqb-true q.broadcast (length plan.slaves) both.0;
      counters = counters_equal q.counters (predicted plan k) both.1;
      told = get_or-mapped (λ (o : Option ReturnedPart). option_map (λ q. q.counters) o) kept k None ∙ ap (λ (o : Option ReturnedPart). option_map (λ q. q.counters) o) at;
    }

-- each part of a unit that the plain machine takes came back with the predicted counters
pub counted : (plan : PlanState) (c : OpenCycle) (q : Cycle) (k : ℕ) → CycleRefines plan c q → k < length plan.parts → unit_full (meaning plan) q (unit_of_part (meaning plan) k) ≡ true
    → IsCounted plan c.kept (report_of plan c.kept) k
counted plan c q k h there on =
    let u = (part_at plan.parts k).unit in
    let taken : unit_taken plan c.kept u ≡ true = taken_is_full plan c q u h ∙ (ap (unit_full (meaning plan) q) (sym (unit_is plan k)) ∙ on) in
    counted_one plan c.kept k (get_or c.kept k None) refl (good_part plan c.kept k h.each_part there taken)

-- a taken unit has the predicted counters
pub counters_predicted : (plan : PlanState) (kept : List (Option ReturnedPart)) → length kept ≡ length plan.parts → CountersPredicted plan (report_of plan kept)
counters_predicted plan kept len i k b taken there unit =
    let on : unit_taken plan kept (get_or plan.units i 0) ≡ true = sym (get_or-map (unit_taken plan kept) plan.units i 0 false b) ∙ taken in
    let own : is_good plan k (get_or kept k None) ≡ true = good_part plan kept k len there (ap (unit_taken plan kept) unit ∙ on) in
    get_or-mapped (λ (o : Option ReturnedPart). option_map (λ q. q.counters) o) kept k None ∙ good_counters plan k (get_or kept k None) own

-- ---- a cyclic frame that comes back answers its part, and no other; what is kept of it agrees with its notes

-- ---- it answers

half : (a b n : ℕ) → a ≡ 8 * n → a ≡ 8 * b → n ≡ b
half a b n e f = omega arith

pub answers_own : (plan : PlanState) (f : PlainFrame) (ds : List Datagram) → DatagramsRefine plan f ds → Answers plan f.number f.part ds
answers_own plan f ds shows =
    let bytes = (part_at plan.parts f.part).bytes in
    subst (Answers plan f.number f.part) (sym shows.is) (answer_on_their_way plan f.number f.part (length f.notes) shows.al shows.sent shows.returned shows.gave shows.al_word
    (half (8 * bytes) bytes (length shows.sent) shows.process.sent_room refl) (half (8 * bytes) bytes (length shows.returned) shows.process.returned_room refl))

-- ---- what is kept

sum_nothing : (c : Gave → ℕ) (gs : List Gave) → c nothing_given ≡ 0 → ((t : ℕ) → t < length gs → at gs t ≡ nothing_given) → sum_of c gs ≡ 0
sum_nothing c [] z h = refl
sum_nothing c (g ∷ gs) z h = let a = ap c (h 0 (omega arith)) ∙ z in let b = sum_nothing c gs z (λ t l. h (suc t) (omega arith)) in omega arith

-- in a part without bytes nobody gives anything
nothing_there : (plan : PlanState) (f : PlainFrame) (ds : List Datagram) → IsUsable plan → DatagramsRefine plan f ds → (part_at plan.parts f.part).bytes ≡ 0 → (t : ℕ) → t < length f.notes
    → (share_of (meaning plan) t).part ≡ f.part → ((area_at plan t).ins ≡ 0) × (whole_share (share_of (meaning plan) t) ≡ nothing_given)
nothing_there plan f ds sound shows z t l e =
    let m = meaning plan in
    let c = same_place m (area_at plan) (span_of_part plan) f.part t sound.laid (let x = shows.not_more in let y = length-map plan.slaves (λ s. s.share) in omega arith) e in
    let no_outs : (share_of m t).outs ≡ 0 = let x = c.out_to in let y = c.out_from in let w = sound.laid.outs t in omega arith in
    let no_ins : (area_at plan t).ins ≡ 0 = let x = c.in_to in let y = c.in_from in omega arith in
    let no_ins2 : (share_of m t).ins ≡ 0 = sym (sound.laid.ins t) ∙ no_ins in
    (no_ins, rw (no_outs, no_ins2) refl)

gave_nothing : (h : Share) (n : Note) (g : Gave) → GaveAs h n g → whole_share h ≡ nothing_given → g ≡ nothing_given
gave_nothing h Other g x e = x
gave_nothing h Short g x e = absurd (let a = x.less in let b = ap lrw_count e in omega arith)
gave_nothing h (Full v) g x e = x ∙ e

pub kept_shows : (plan : PlanState) (f : PlainFrame) (ds : List Datagram) → IsUsable plan → DatagramsRefine plan f ds → length f.notes ≡ length plan.slaves
    → KeptRefines plan f.part f.notes (returned_part_of (part_at plan.parts f.part) ds)
kept_shows plan f ds sound shows all =
    let m = meaning plan in
    let part = part_at plan.parts f.part in
    let own : IsReturned part (length f.notes) shows.returned shows.gave (returned_part_of part ds)
    = subst (λ ds. IsReturned part (length f.notes) shows.returned shows.gave (returned_part_of part ds)) (sym shows.is) (frames_are_returned part f.number f.part (length f.notes) shows.al shows.sent shows.returned shows.gave) in
    let empty : part.bytes ≡ 0 → (t : ℕ) → t < length shows.gave → at shows.gave t ≡ nothing_given
    = λ z t l.
    let b : t < length f.notes = let x = shows.process.as_many in omega arith in
    elim (cases_eq (share_of m t).part f.part) [
      | inl e ↦ gave_nothing (share_of m t) (note_at f.notes t) (at shows.gave t) (shows.process.each t b) (nothing_there plan f ds sound shows z t b e).1
      | inr ne ↦ subst (λ (n : Note). GaveAs (share_of m t) n (at shows.gave t)) (shows.process.elsewhere t b ne) (shows.process.each t b)
    ] in
    let none : part.bytes ≡ 0 → (c : Gave → ℕ) → c nothing_given ≡ 0 → 0 ≡ sum_of c shows.gave = λ z c x. sym (sum_nothing c shows.gave x (empty z)) in
    record {
      all = all;
      broadcast = own.broadcast ∙ all;
      gave = shows.gave;
      counters = elim (cases_eq part.bytes 0) [
        | inl z ↦ own.no_bytes z ∙ same_nothing part.split (none z lwr_count refl) (none z lrd_count refl) (none z lrw_count refl)
        | inr ne ↦ own.counters ne
      ];
      as_many = shows.process.as_many;
      each = shows.process.each;
      in_part = shows.process.in_part;
      elsewhere = shows.process.elsewhere;
      noted = λ t o v l e b.
          let mine = full_in_part m t f.part (note_at f.notes t) v e (shows.process.elsewhere t l) in
          elim (cases_eq part.bytes 0) [
            | inl z ↦ absurd (let x = (nothing_there plan f ds sound shows z t l mine).0 in omega arith)
            | inr ne ↦ ap (λ bs. bit bs ((area_at plan t).in_at + o - 8 * part.address)) (own.bytes ne) ∙ shows.process.noted t o v l e b
          ];
    }
  where
    same_nothing : (y : Bool) → 0 ≡ sum_of lwr_count shows.gave → 0 ≡ sum_of lrd_count shows.gave → 0 ≡ sum_of lrw_count shows.gave → counters_of y [] ≡ counters_of y shows.gave
    same_nothing true w r b = ap (λ n. Split n 0) w ∙ ap (λ n. Split (sum_of lwr_count shows.gave) n) r
    same_nothing false w r b = ap (λ n. InOne n) b
