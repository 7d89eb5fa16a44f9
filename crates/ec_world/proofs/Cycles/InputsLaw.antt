-- What is promised to a user, of each world that refines a plain state.
use Rattle.ec_world.proofs.Words.{ℕ, suc, ◌+◌, ◌*◌, ◌<◌, ◌≡◌, ◌==◌, ◌&&◌, ◌||◌, Bool, true, false, Option, Some, None, refl, sym, ◌∙◌, ap, subst, inl, inr, arith, List, [], ◌∷◌, length, get_or, is_some, if◌then◌else◌, option_map, option_and_then, unwrap_or, slice_get, get_or-set_same, get_or-set_other, length-set, list_all, cases_Bool, eqb-true, length-map, length-replicate, slice_get-get_or, bit, zeros, bytes_of_bits, length-overlay, bit-overlay, bit-zeros, if_true, if_false, SlaveState, with_outputs, Share, has_outs, has_ins, whole_share, nothing_given, unit_of_part, Meaning, Linked, share_of, meaning, slave_at, IsUsable, PlanState, linked_inputs, ReportState, report_of, inputs_closed, all_from, OpenCycle, Plain, PlainSlave, PlainFrame, Health, Note, Other, Short, Full, Cycle, Working, Faulted, Reset, unit_full, all_full, is_full, Closed, giving, plain_slave, linked_outputs, inputs_taken, taken_bit, noted_bit, notes_of_part, Progress, WorldState, slave_of, no_slave, Passes, Closes, ByStart, GivesUp, given_by, given_in, slave_left, note_at, Refines, CycleRefines, CyclesRefine, AreLinked, has_outputs_for, IsPublished, OutputsLaw, FallsShort, NotesLaw, IsNoted, IsMissed, NotBack, FellShort, unit_of_slave, IsCounted, InputsLaw, all_each, there_too, some_same}
use Rattle.ec_world.proofs.Refinement.FrameEvents.{has_met, same_way}
use Rattle.ec_world.proofs.Refinement.CyclicFrame.{share_is}
use Rattle.ec_world.proofs.Refinement.MasterEvents.{open_both}
use Rattle.ec_world.proofs.Refinement.Close.{inputs_same, report_said, counted, all_full_kept, full_or, part_full}

-- ---- a pass

pub linked : (m : Meaning) (s : ℕ) (image : List ℕ) → AreLinked m s image (linked_outputs m s image)
linked m s image =
    let n = bytes_of_bits (share_of m s).outs in
    let f : ℕ → Option Bool = λ k. option_map (bit image) (m.out_source s k) in
    let same : length (linked_outputs m s image) ≡ length (zeros n) = length-overlay (zeros n) f in
    record {
      size = same ∙ (length-replicate {A = ℕ} n 0);
      each = λ b l. bit-overlay (zeros n) f b (omega (arith, l, same)) ∙ ap (λ x. unwrap_or (f b) x) (bit-zeros n b);
    }

left_working : (m : Meaning) (t : ℕ) (f : PlainFrame) (q : PlainSlave) (s : SlaveState) → q.health ≡ Working
    → slave_left m t f q s ≡ (if has_outputs_for m f t then with_outputs s (linked_outputs m t f.snapshot) else s)
left_working m t f q s e =
    let same : (given_in m t f q).wrote ≡ has_outputs_for m f t
    = ap (λ (h : Health). (if (share_of m t).part == f.part then given_by (share_of m t) h else nothing_given).wrote) e ∙ by ((share_of m t).part == f.part) in
    ap (λ (b : Bool). if b then with_outputs s (linked_outputs m t f.snapshot) else s) same
  where
    by : (b : Bool) → (if b then whole_share (share_of m t) else nothing_given).wrote ≡ (b && has_outs (share_of m t))
    by true = refl
    by false = refl

pub outputs_law : OutputsLaw
outputs_law old p k f new sound s there working h =
    let m = meaning old.plan in
    let pass : Passes old k new = h.happens refl in
    let x = pass.flight in
    let met = has_met old p k new sound s (sym h.can) pass in
    let g = met.both.frame in
    let own : g ≡ f = some_same g f (sym met.both.there ∙ there) in
    let t = length g.notes in
    let y = slave_of old t in
    let inside : t < length old.slaves = omega (arith, met.here, s.count) in
    let well : (plain_slave p t).health ≡ Working = ap (λ (e : PlainFrame). (plain_slave p (length e.notes)).health) own ∙ working in
    let left : slave_of new t ≡ (if has_outputs_for m g t then with_outputs y (linked_outputs m t g.snapshot) else y)
    = ap (λ (ss : List SlaveState). get_or ss t no_slave) met.slaves ∙ (get_or-set_same old.slaves t met.after no_slave inside ∙ (met.one.slave ∙ left_working m t g (plain_slave p t) y well)) in
    subst (λ (e : PlainFrame). IsPublished old k e new) own (record {
      value = linked_outputs m t g.snapshot;
      linked = linked m t g.snapshot;
      slave = left;
      others = λ u ne. ap (λ (ss : List SlaveState). get_or ss u no_slave) met.slaves ∙ get_or-set_other old.slaves t u met.after no_slave ne;
      count = ap length met.slaves ∙ length-set old.slaves t met.after;
      flight = record x { bytes = pass.bytes; passed = x.passed + 1 };
      goes_on = ap (λ (r : Progress). record r { passed = r.passed + 1 }) (same_way x g met.both.number met.both.part met.both.passed);
      slots = ap (λ (w : WorldState). w.slots) pass.is;
      rest = pass.is ∙ ap (λ os. record old { slaves = new.slaves; slots = os }) (sym (ap (λ (w : WorldState). w.slots) pass.is));
    })

-- ---- notes

short_of : (m : Meaning) (s : ℕ) (q : PlainSlave) (h : Health) → q.health ≡ h → giving (share_of m s) q h ≡ Short → FallsShort m s q
short_of m s q Working e n = absurd (cc n)
short_of m s q Faulted e n = elim (cases_Bool (has_outs (share_of m s))) [
  | inl on ↦ inr (e, on)
  | inr off ↦ absurd (cc (sym (if_false _ _ _ off) ∙ n))
]
short_of m s q Reset e n = elim (cases_Bool (has_outs (share_of m s) || has_ins (share_of m s))) [
  | inl on ↦ inl (e, on)
  | inr off ↦ absurd (cc (sym (if_false _ _ _ off) ∙ n))
]

full_if : (b : Bool) (v w : List ℕ) → (if b then Short else Full w) ≡ Full v → v ≡ w
full_if true v w e = absurd (cc e)
full_if false v w e = cc e

full_of : (m : Meaning) (s : ℕ) (q : PlainSlave) (h : Health) (v : List ℕ) → giving (share_of m s) q h ≡ Full v → v ≡ q.inputs.published
full_of m s q Working v n = cc n
full_of m s q Faulted v n = full_if (has_outs (share_of m s)) v q.inputs.published n
full_of m s q Reset v n = full_if (has_outs (share_of m s) || has_ins (share_of m s)) v q.inputs.published n

pub notes_law : NotesLaw
notes_law m s f q = elim (cases_Bool ((share_of m s).part == f.part)) [
  | inl on ↦ record {
    short = λ e. (eqb-true _ _ on, short_of m s q q.health refl (sym (if_true _ _ _ on) ∙ e));
    full = λ v e. full_of m s q q.health v (sym (if_true _ _ _ on) ∙ e);
  }
  | inr off ↦ record {
    short = λ e. absurd (cc (sym (if_false _ _ _ off) ∙ e));
    full = λ v e. absurd (cc (sym (if_false _ _ _ off) ∙ e));
  }
]

-- ---- a close

-- what a test fails on, by place
pub record FailsAt {X : Type 0} (t : ℕ → X → Bool) (k : ℕ) (xs : List X) (d : X) : Type 0 where
  pub place : ℕ
  pub inside : place < length xs
  pub fails : t (k + place) (get_or xs place d) ≡ false

fails_later : {X : Type 0} (t : ℕ → X → Bool) (k : ℕ) (x : X) (xs : List X) (d : X) → FailsAt t (k + 1) xs d → FailsAt t k (x ∷ xs) d
fails_later {X} t k x xs d f = record {
  place = suc f.place;
  inside = let l = f.inside in omega (arith, l);
  fails = let z : k + 1 + f.place ≡ k + suc f.place = omega arith in subst (λ (n : ℕ). t n (get_or xs f.place d) ≡ false) z f.fails;
}

fails_at : {X : Type 0} (t : ℕ → X → Bool) (k : ℕ) (xs : List X) (d : X) → all_from t k xs ≡ false → FailsAt t k xs d
fails_at t k [] d e = absurd (let z : true ≡ false = e in cc)
fails_at {X} t k (x ∷ xs) d e = go (λ r. fails_at t (k + 1) xs d r) (t k x) refl e
  where
    go : (all_from t (k + 1) xs ≡ false → FailsAt t (k + 1) xs d) → (b : Bool) → t k x ≡ b → (b && all_from t (k + 1) xs) ≡ false → FailsAt t k (x ∷ xs) d
    go later true own rest = fails_later t k x xs d (later rest)
    go later false own rest = record { place = 0; inside = omega arith; fails = let z : k ≡ k + 0 = omega arith in subst (λ (n : ℕ). t n x ≡ false) z own }

is_short : (n : Note) → is_full n ≡ false → n ≡ Short
is_short Short e = refl
is_short _ e = absurd (let z : true ≡ false = e in cc)

-- a short note among these
one_short : (notes : List Note) → list_all is_full notes ≡ false → (s : ℕ) × (slice_get notes s ≡ Some Short)
one_short [] e = absurd (let z : true ≡ false = e in cc)
one_short (n ∷ notes) e = go (λ r. one_short notes r) (is_full n) refl e
  where
    later : ((s : ℕ) × (slice_get notes s ≡ Some Short)) → (s : ℕ) × (slice_get (n ∷ notes) s ≡ Some Short)
    later r = (suc r.0, r.1)

    go : (list_all is_full notes ≡ false → (s : ℕ) × (slice_get notes s ≡ Some Short)) → (b : Bool) → is_full n ≡ b → (b && list_all is_full notes) ≡ false → (s : ℕ) × (slice_get (n ∷ notes) s ≡ Some Short)
    go rests true own rest = later (rests rest)
    go rests false own rest = (0, ap (λ (x : Note). Some x) (is_short n own))

missed : (m : Meaning) (c : Cycle) (u : ℕ) → unit_full m c u ≡ false → IsMissed m c u
missed m c u e =
    let f = fails_at (λ k o. if unit_of_part m k == u then all_full o else true) 0 c.kept None e in
    let k = f.place in
    let z : 0 + k ≡ k = omega arith in
    let fails : (if unit_of_part m k == u then all_full (get_or c.kept k None) else true) ≡ false
    = subst (λ (n : ℕ). (if unit_of_part m n == u then all_full (get_or c.kept k None) else true) ≡ false) z f.fails in
    elim (cases_Bool (unit_of_part m k == u)) [
      | inr off ↦ absurd (let x : true ≡ false = sym (if_false _ _ _ off) ∙ fails in cc)
      | inl on ↦ go k f.inside (eqb-true _ _ on) (get_or c.kept k None) refl (sym (if_true _ _ _ on) ∙ fails)
    ]
  where
    go : (k : ℕ) → k < length c.kept → unit_of_part m k ≡ u → (o : Option (List Note)) → get_or c.kept k None ≡ o → all_full o ≡ false → IsMissed m c u
    go k l own None at bad = NotBack k l own at
    go k l own (Some notes) at bad = let s = one_short notes bad in FellShort k s.0 notes own at s.1

-- a slave's note, where its unit is taken
pub record Noted (c : Cycle) (k s : ℕ) : Type 0 where
  pub value : List ℕ
  pub is : IsNoted c k s value
  pub bits : (b : ℕ) → noted_bit (slice_get (notes_of_part c k) s) b ≡ Some (bit value b)

noted : (plan : PlanState) (c : OpenCycle) (q : Cycle) (i : Linked) → IsUsable plan → CycleRefines plan c q → i.slave < length plan.slaves
    → unit_full (meaning plan) q (unit_of_slave (meaning plan) i.slave) ≡ true → Noted q (share_of (meaning plan) i.slave).part i.slave
noted plan c q i sound h l on =
    let m = meaning plan in
    let k = (share_of m i.slave).part in
    let u = unit_of_part m k in
    let part : k ≡ (slave_at plan i.slave).share.part = ap (λ (x : Share). x.part) (share_is plan i.slave) in
    let len : length c.kept ≡ length q.kept = sym (length-map c.kept (λ o. is_some o)) ∙ (ap length h.same_parts ∙ length-map q.kept (λ o. is_some o)) in
    let inside : k < length q.kept = let x = h.each_part in let y = sound.in_parts i.slave l in omega (arith, x, y, part, len) in
    let own = part_full m q u k on inside refl in
    let notes = all_full_kept (get_or q.kept k None) own in
    let kept = there_too c.kept q.kept k notes.0 h.same_parts notes.1 in
    let shows = h.kept k kept.0 notes.0 kept.1 notes.1 in
    let few : i.slave < length notes.0 = let x = shows.all in omega (arith, x, l) in
    let full = all_each is_full notes.0 i.slave Other (sym (ap all_full notes.1) ∙ own) few in
    let note = full_or (note_at notes.0 i.slave) full (shows.in_part i.slave few refl) in
    let at : slice_get notes.0 i.slave ≡ Some (Full note.0) = slice_get-get_or notes.0 i.slave Other few ∙ ap (λ (n : Note). Some n) note.1 in
    record {
      value = note.0;
      is = record { notes = notes.0; back = notes.1; note = at };
      bits = λ b. ap (λ o. noted_bit (slice_get (unwrap_or o []) i.slave) b) notes.1 ∙ ap (λ o. noted_bit o b) at;
    }

module _ (old : WorldState) (p : Plain) (q : Cycle) (c : OpenCycle) (sound : IsUsable old.plan) (s : Refines old p) (shows : CycleRefines old.plan c q) where
  abbrev image : List ℕ
  image = old.master.inputs

  abbrev found : ℕ → Option Bool
  found b = option_and_then (taken_bit (meaning old.plan) q) ((meaning old.plan).in_source b)

  abbrev after : List ℕ
  after = inputs_taken (meaning old.plan) q image

  sized : length after ≡ length image
  sized = length-overlay image found

  each : (b : ℕ) → b < 8 * length image → bit after b ≡ unwrap_or (found b) (bit image b)
  each b l = bit-overlay image found b l

  taken_one : (b : ℕ) (i : Linked) → b < 8 * length image → (meaning old.plan).in_source b ≡ Some i
      → unit_full (meaning old.plan) q (unit_of_slave (meaning old.plan) i.slave) ≡ true
      → (v : List ℕ) × IsNoted q (share_of (meaning old.plan) i.slave).part i.slave v × (bit after b ≡ bit v i.bit_of)
  taken_one b i l e on =
      let linked_at = linked_inputs old.plan sound b i e in
      let few : i.slave < length old.plan.slaves = let x = length-map old.plan.slaves (λ y. y.share) in let y = linked_at.0 in omega (arith, x, y) in
      let n = noted old.plan c q i sound shows few on in
      let told : found b ≡ Some (bit n.value i.bit_of) = ap (option_and_then (taken_bit (meaning old.plan) q)) e ∙ (if_true _ _ _ on ∙ n.bits i.bit_of) in
      (n.value, n.is, each b l ∙ ap (λ o. unwrap_or o (bit image b)) told)

  untaken_one : (b : ℕ) (i : Linked) → b < 8 * length image → (meaning old.plan).in_source b ≡ Some i
      → unit_full (meaning old.plan) q (unit_of_slave (meaning old.plan) i.slave) ≡ false → bit after b ≡ bit image b
  untaken_one b i l e off = each b l ∙ ap (λ o. unwrap_or o (bit image b)) (ap (option_and_then (taken_bit (meaning old.plan) q)) e ∙ if_false _ _ _ off)

  unlinked_one : (b : ℕ) → b < 8 * length image → (meaning old.plan).in_source b ≡ None → bit after b ≡ bit image b
  unlinked_one b l e = each b l ∙ ap (λ o. unwrap_or o (bit image b)) (ap (option_and_then (taken_bit (meaning old.plan) q)) e)

pub inputs_law : InputsLaw
inputs_law old p q new sound s opened h =
    let m = meaning old.plan in
    let closes : Closes old new = subst (λ (b : Bool). ByStart b (GivesUp old new) (Closes old new)) s.no_start (h.happens refl) in
    let c = closes.cycle in
    let both = open_both old.plan c p.cycle (subst (λ (o : Option OpenCycle). CyclesRefine old.plan o p.cycle) closes.is_open s.cycle) in
    let same : both.cycle ≡ q = some_same both.cycle q (sym both.is ∙ opened) in
    let shows : CycleRefines old.plan c q = subst (CycleRefines old.plan c) same both.shows in
    let report : ReportState = report_of old.master.plan c.kept in
    let inputs : new.master.inputs ≡ inputs_taken m q old.master.inputs
    = ap (λ (w : WorldState). w.master.inputs) closes.is ∙ (ap (λ (x : PlanState). inputs_closed x c.kept old.master.inputs) s.same_plan ∙ inputs_same old.plan c q old.master.inputs sound shows) in
    record {
      taken = λ b i l e on. let r = taken_one old p q c sound s shows b i l e on in (r.0, r.1, ap (λ xs. bit xs b) inputs ∙ r.2);
      untaken = λ b i l e off. ap (λ xs. bit xs b) inputs ∙ untaken_one old p q c sound s shows b i l e off;
      unlinked = λ b l e. ap (λ xs. bit xs b) inputs ∙ unlinked_one old p q c sound s shows b l e;
      size = ap length inputs ∙ sized old p q c sound s shows;
      missed = missed m q;
      report = report;
      reported = ap (λ (w : WorldState). w.report) closes.is;
      units = ap (λ (x : PlanState). x.units) s.same_plan;
      says = ap (λ (x : PlanState). (report_of x c.kept).taken) s.same_plan ∙ ap (λ (x : Closed). x.taken) (report_said old.plan c q shows);
      missing = ap (λ (x : Closed). x.missing) (report_said old.plan c q shows);
      cycle = c;
      was_open = closes.is_open;
      counted = λ k there on. subst (λ (x : PlanState). IsCounted old.plan c.kept (report_of x c.kept) k) (sym s.same_plan) (counted old.plan c q k shows there on);
      rest = closes.is ∙ sym (ap (λ (w : WorldState). record old { master = record old.master { inputs = w.master.inputs; cycle = None }; report = w.report }) closes.is);
    }
