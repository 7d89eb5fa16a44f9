-- What a slave that refines a plain slave does with a cyclic frame, and what it shows then.
use Rattle.ec_world.proofs.Words.{ℕ, ◌+◌, ◌-◌, ◌*◌, ◌<◌, ◌≡◌, ◌≢◌, ◌==◌, ◌||◌, Bool, true, false, Option, Some, None, refl, sym, ◌∙◌, ap, subst, inl, inr, arith, if◌then◌else◌, List, [], ◌∷◌, length, nat_lt, slice_index, bit_at, get_or-map, length-replicate, length-map, cases_Bool, cases_eq, cases_lt, and_from, and_left, and_right, lt-ltb, le-ltb, eq-eqb, ne_eqb, both_ways, listed, bytes_of_bits, within, zeros, length-overlay, if_true, if_false, within_parts, FmmuSettings, fmmu_of, SyncManager, may_read, may_write, publishing, LogicalSpan, inside_span, target, source, readers, writers, SlaveState, manager_at, fmmus_of, power_on, IsMapped, with_outputs, with_published, Area, Misses, outputs_published, switched_on, Share, Gave, has_outs, has_ins, nothing_given, Meaning, share_of, slave_at, no_slave_plan, area_of, area_at, span_of_part, meaning, IsLaid, PlanState, part_at, SlavePlan, AreListed, IsUsable, PlainSlave, PlainFrame, Health, Working, Faulted, Reset, Note, Other, Short, Full, linked_outputs, giving, met_note, met_slave, taking, IsWorking, IsFaulted, IsReset, IsAs, SlaveRefines, GaveAs, given_by, given_in, slave_left, ◌&&◌, IsOfLength, HoldsData}
use Rattle.ec_device.specs.declared.hardware.Hardware.{Hardware}
use Rattle.ec_regs.specs.Names.{shown_fmmu}
use Rattle.ec_world.proofs.Refinement.LogicalDatagram.{Acts, Does, Acting, Missing, Knows}
use Rattle.ec_device.specs.Hardware.{out_manager, in_manager}
use Rattle.ec_world.proofs.Refinement.ProcessManagers.{outs_enabled, ins_enabled, locked_denies, holds_mapped, third_held, fourth_held, still_holds, still_quiet}

-- ---- notes and shares

gave_as : (h : Share) (q : PlainSlave) (x : Health) → GaveAs h (giving h q x) (given_by h x)
gave_as h q Working = refl
gave_as h q Faulted = go (has_outs h) refl
  where
    go : (b : Bool) → has_outs h ≡ b → GaveAs h (if b then Short else Full q.inputs.published) (given_by h Faulted)
    go true e = record { wrote = rw e (omega arith); read = omega arith; less = rw e (omega arith) }
    go false e = ap (λ w. record { wrote = w; read = has_ins h }) (sym e)
gave_as h q Reset = go (has_outs h) (has_ins h) refl refl
  where
    go : (w r : Bool) → has_outs h ≡ w → has_ins h ≡ r → GaveAs h (if w || r then Short else Full q.inputs.published) nothing_given
    go false false x y = ap (λ b. record { wrote = b; read = false }) (sym x) ∙ ap (λ b. record { wrote = has_outs h; read = b }) (sym y)
    go _ _ x y = record { wrote = omega arith; read = omega arith; less = rw (x, y) (omega arith) }

not_other : (h : Share) (q : PlainSlave) (x : Health) → giving h q x ≢ Other
not_other h q Working = λ e. cc e
not_other h q Faulted = elim (has_outs h) as (λ b. (if b then Short else Full q.inputs.published) ≢ Other) [ true ↦ λ e. cc e | false ↦ λ e. cc e ]
not_other h q Reset = elim (has_outs h || has_ins h) as (λ b. (if b then Short else Full q.inputs.published) ≢ Other) [ true ↦ λ e. cc e | false ↦ λ e. cc e ]

full_of : (h : Share) (q : PlainSlave) (x : Health) (w : List ℕ) → giving h q x ≡ Full w → 0 < h.ins → (w ≡ q.inputs.published) × ((given_by h x).read ≡ true)
full_of h q Working w e l = (cc e, lt-ltb 0 h.ins l)
full_of h q Faulted w e l = (go (has_outs h) e, lt-ltb 0 h.ins l)
  where
    go : (b : Bool) → (if b then Short else Full q.inputs.published) ≡ Full w → w ≡ q.inputs.published
    go true e = absurd (cc e)
    go false e = cc e
full_of h q Reset w e l = absurd (go (has_outs h) (has_ins h) (lt-ltb 0 h.ins l) e)
  where
    go : (b r : Bool) → r ≡ true → (if b || r then Short else Full q.inputs.published) ≡ Full w → ⊥
    go true r z e = cc e
    go false true z e = cc e
    go false false z e = both_ways false refl z

-- ---- slaves that map nothing here

four_idle : (f0 f1 f2 f3 : FmmuSettings) → f0.reads ≡ false → f1.reads ≡ false → f2.reads ≡ false → f3.reads ≡ false → readers (f0 ∷ f1 ∷ f2 ∷ f3 ∷ []) ≡ []
four_idle f0 f1 f2 f3 e0 e1 e2 e3 = rw (e0, e1, e2, e3) refl

four_mute : (f0 f1 f2 f3 : FmmuSettings) → f0.writes ≡ false → f1.writes ≡ false → f2.writes ≡ false → f3.writes ≡ false → writers (f0 ∷ f1 ∷ f2 ∷ f3 ∷ []) ≡ []
four_mute f0 f1 f2 f3 e0 e1 e2 e3 = rw (e0, e1, e2, e3) refl

fmmu_off : (byte : ℕ → ℕ) → ((k : ℕ) → byte k ≡ 0) → ((fmmu_of byte).reads ≡ false) × ((fmmu_of byte).writes ≡ false)
fmmu_off byte z = (ap (λ x. bit_at x 0 == 1) (z 11), ap (λ x. bit_at x 1 == 1) (z 11))

blank_misses : (o : Option Hardware) (memory : List ℕ) → ((i : ℕ) → slice_index memory i ≡ 0) → (readers (fmmus_of o memory) ≡ []) × (writers (fmmus_of o memory) ≡ [])
blank_misses o memory z =
    let at = λ (n : ℕ). shown_fmmu o (fmmu_of (λ k. slice_index memory (0x0600 + 16 * n + k))) in
    let off : (n : ℕ) → ((at n).reads ≡ false) × ((at n).writes ≡ false) = λ n. fmmu_off (λ k. slice_index memory (0x0600 + 16 * n + k)) (λ k. z (0x0600 + 16 * n + k)) in
    (four_idle (at 0) (at 1) (at 2) (at 3) (off 0).0 (off 1).0 (off 2).0 (off 3).0, four_mute (at 0) (at 1) (at 2) (at 3) (off 0).1 (off 1).1 (off 2).1 (off 3).1)

memory_on : (s : SlaveState) → s ≡ power_on s.kind s.identity → (i : ℕ) → slice_index s.memory i ≡ 0
memory_on s e i = ap (λ (x : SlaveState). slice_index x.memory i) e ∙ (switched_on s.kind s.identity).memory i

pub reset_misses : (p : SlavePlan) (s : SlaveState) (at : LogicalSpan) → IsReset p s → Misses s at
reset_misses p s at h =
    let none = blank_misses s.kind.hardware s.memory (memory_on s h.as_on) in
    record { reads = λ i l. ap (λ fs. target fs (at.from + i)) none.0; writes = λ q. ap (λ fs. inside_span at (source fs q)) none.1 }

pub other_misses : (m : Meaning) (area : ℕ → Area) (place : ℕ → LogicalSpan) (k : ℕ) (s : SlaveState) (t : ℕ) → IsLaid m area place → t < length m.slaves → (share_of m t).part ≢ k → IsMapped s (area t) → Misses s (place k)
other_misses m area place k s t laid l ne h =
    let a = area t in
    let p = place k in
    let c = laid.inside t l in
    record {
      reads = λ i b. h.reads (p.from + i) ∙ elim (cases_Bool (within a.in_at a.ins (p.from + i))) [
        | inl w ↦ let x = within_parts a.in_at a.ins (p.from + i) w in
            absurd (laid.parts_apart (share_of m t).part k (p.from + i - (place (share_of m t).part).from) i ne
            (let y = x.0 in let z = x.1 in let g = c.in_from in let k = c.in_to in omega arith) b (let y = x.0 in let g = c.in_from in omega arith))
        | inr n ↦ if_false _ _ _ n
      ];
      writes = λ q. ap (inside_span p) (h.writes q) ∙ elim (cases_Bool (within (8 * a.out_start) a.outs q)) as (λ _. inside_span p (if within (8 * a.out_start) a.outs q then Some (a.out_at + (q - 8 * a.out_start)) else None) ≡ None) [
        | inl w ↦
            let x = within_parts (8 * a.out_start) a.outs q w in
            let j = a.out_at + (q - 8 * a.out_start) in
            ap (inside_span p) (if_true _ (Some j) None w) ∙ if_false (within p.from p.bits j) (Some (j - p.from)) None (elim (cases_Bool (within p.from p.bits j)) as (λ _. within p.from p.bits j ≡ false) [
              | inl u ↦ let v = within_parts p.from p.bits j u in
                  absurd (laid.parts_apart (share_of m t).part k (j - (place (share_of m t).part).from) (j - p.from) ne
                  (let y = x.0 in let z = x.1 in let g = c.out_from in let k = c.out_to in omega arith) (let y = v.0 in let z = v.1 in omega arith) (let y = v.0 in let g = c.out_from in omega arith))
              | inr n ↦ n
            ])
        | inr n ↦ ap (inside_span p) (if_false (within (8 * a.out_start) a.outs q) (Some (a.out_at + (q - 8 * a.out_start))) None n)
      ];
    }

-- ---- a slave of a sound plan

pub share_is : (plan : PlanState) (t : ℕ) → share_of (meaning plan) t ≡ (slave_at plan t).share
share_is plan t = get_or-map (λ (s : SlavePlan). s.share) plan.slaves t no_slave_plan

-- bits that the share has, where the manager lets them pass
let_by : (bits n : ℕ) (may : Bool) → bits ≡ n → (0 < n → may ≡ true) → (nat_lt 0 bits && may) ≡ nat_lt 0 n
let_by bits n may e h = elim (cases_lt 0 n) [
  | inl l ↦ and_from _ _ (lt-ltb 0 bits (omega arith)) (h l) ∙ sym (lt-ltb 0 n l)
  | inr z ↦ and_left _ _ (le-ltb 0 bits (omega arith)) ∙ sym (le-ltb 0 n z)
]

module _ (plan : PlanState) (t : ℕ) (f : PlainFrame) (q : PlainSlave) (s : SlaveState) (sound : IsUsable plan) (b : t < length plan.slaves) where
  abbrev m : Meaning
  m = meaning plan

  abbrev h : Share
  h = share_of m t

  abbrev pl : SlavePlan
  pl = slave_at plan t

  abbrev fits : AreListed pl
  fits = listed plan sound t b

  outs_is : pl.share.outs ≡ h.outs
  outs_is = ap (λ (x : Share). x.outs) (sym (share_is plan t))

  ins_is : pl.share.ins ≡ h.ins
  ins_is = ap (λ (x : Share). x.ins) (sym (share_is plan t))

  working_acts : IsWorking t pl s q → Acts s (area_of pl) (given_by h Working) q.inputs.published
  working_acts w = record {
    mapped = holds_mapped t pl s w.holds fits;
    takes_is = let_by pl.share.outs h.outs (may_write (manager_at s.managers 2)) outs_is (λ l. (outs_enabled (manager_at s.managers 2) pl.share.outs pl.kind.out_start (out_manager pl.kind.hardware).control fits.out_mode (let e = outs_is in omega arith) fits.out_fits (third_held t pl s w.holds fits) w.out_unlocked).0);
    gives_is = let_by pl.share.ins h.ins (may_read (manager_at s.managers 3)) ins_is (λ l. (ins_enabled (manager_at s.managers 3) pl.share.ins pl.kind.in_start (in_manager pl.kind.hardware).control fits.in_mode (let e = ins_is in omega arith) fits.in_fits (fourth_held t pl s w.holds fits) w.in_unlocked).0);
    inputs_is = ap (λ b. b.published) w.process.inputs;
  }

  faulted_acts : IsFaulted t pl s q → Acts s (area_of pl) (given_by h Faulted) q.inputs.published
  faulted_acts w = record {
    mapped = holds_mapped t pl s w.holds fits;
    takes_is = and_right _ _ (locked_denies (manager_at s.managers 2) w.out_locked).0;
    gives_is = let_by pl.share.ins h.ins (may_read (manager_at s.managers 3)) ins_is (λ l. (ins_enabled (manager_at s.managers 3) pl.share.ins pl.kind.in_start (in_manager pl.kind.hardware).control fits.in_mode (let e = ins_is in omega arith) fits.in_fits (fourth_held t pl s w.holds fits) w.in_unlocked).0);
    inputs_is = ap (λ b. b.published) w.process.inputs;
  }

  by_lrw : h.part ≡ f.part → (part_at plan.parts f.part).split ≡ false → s.kind ≡ pl.kind → s.kind.lrw ≡ true
  by_lrw e y k = ap (λ x. x.lrw) k ∙ sound.by_lrw t b (subst (λ (k : ℕ). (part_at plan.parts k).split ≡ false) (sym e ∙ ap (λ (x : Share). x.part) (share_is plan t)) y)

  -- of the frame's part
  does_by : (x : Health) → IsAs t pl s q x → h.part ≡ f.part → Does s (span_of_part plan f.part) (area_at plan t) (given_by h x) q.inputs.published (h.part ≡ f.part) ((part_at plan.parts f.part).split ≡ false → s.kind.lrw ≡ true)
  does_by Working w e = Acting (working_acts w) e (λ y. by_lrw e y w.holds.kind)
  does_by Faulted w e = Acting (faulted_acts w) e (λ y. by_lrw e y w.holds.kind)
  does_by Reset w e = Missing (reset_misses pl s (span_of_part plan f.part) w) refl

  -- of another part
  misses_by : (x : Health) → IsAs t pl s q x → h.part ≢ f.part → Misses s (span_of_part plan f.part)
  misses_by Reset w ne = reset_misses pl s (span_of_part plan f.part) w
  misses_by _ w ne = other_misses m (area_at plan) (span_of_part plan) f.part s t sound.laid (subst (λ (k : ℕ). t < k) (sym (length-map plan.slaves (λ s. s.share))) b) ne (holds_mapped t pl s w.holds fits)

  pub knows : SlaveRefines t pl s q → Knows m (area_at plan t) (span_of_part plan f.part) (part_at plan.parts f.part).split f q s t
  knows w = elim (cases_eq h.part f.part) [
    | inl e ↦
        let same : (h.part == f.part) ≡ true = eq-eqb _ _ e in
        let gave : given_in m t f q ≡ given_by h q.health = if_true _ _ _ same in
        let note : met_note m t f q ≡ giving h q q.health = if_true _ _ _ same in
        record {
          does = subst (λ (g : Gave). Does s (span_of_part plan f.part) (area_at plan t) g q.inputs.published (h.part ≡ f.part) ((part_at plan.parts f.part).split ≡ false → s.kind.lrw ≡ true)) (sym gave) (does_by q.health w e);
          given = subst (λ (g : Gave). GaveAs h (met_note m t f q) g) (sym gave) (subst (λ (n : Note). GaveAs h n (given_by h q.health)) (sym note) (gave_as h q q.health));
          in_part = λ x o. not_other h q q.health (sym note ∙ o);
          elsewhere = λ ne. absurd (ne e);
          full = λ v x l. let r = full_of h q q.health v (sym note ∙ x) (let z = ins_is in omega arith) in (r.0, ap (λ (g : Gave). g.read) gave ∙ r.1);
        }
    | inr ne ↦
        let other : (h.part == f.part) ≡ false = ne_eqb _ _ ne in
        let gave : given_in m t f q ≡ nothing_given = if_false _ _ _ other in
        let note : met_note m t f q ≡ Other = if_false _ _ _ other in
        record {
          does = Missing (misses_by q.health w ne) gave;
          given = subst (λ (n : Note). GaveAs h n (given_in m t f q)) (sym note) gave;
          in_part = λ e. absurd (ne e);
          elsewhere = λ x. note;
          full = λ v x l. absurd (cc (sym x ∙ note));
        }
  ]

  -- ---- what it shows then

  working_left : (v : List ℕ) → length v ≡ bytes_of_bits pl.share.outs → IsWorking t pl s q → IsWorking t pl (with_outputs s v) (record q { outputs = publishing q.outputs v })
  working_left v e w =
      let l : 2 < length s.managers = let x = (holds_mapped t pl s w.holds fits).four in omega (arith, x) in
      let own = (outputs_published s v).own l in
      let fourth = (outputs_published s v).others 3 (omega arith) in
      let m : SyncManager = with_published (manager_at s.managers 2) v in
      let bytes : IsOfLength (bytes_of_bits pl.share.outs) (publishing q.outputs v) = record { published = e; draft = w.process.out_bytes.draft } in
      let held : HoldsData pl (with_outputs s v) (record q { outputs = publishing q.outputs v })
      = assumption (ap (λ (x : SyncManager). x.buffer) own ∙ ap (λ b. publishing b v) w.process.outputs, ap (λ (x : SyncManager). x.buffer) fourth ∙ w.process.inputs, bytes) in
      assumption (
        still_holds t pl s s.al 2 m refl w.holds,
        still_quiet s s.al 2 m l refl (w.quiet.no_message 2 (λ e. omega (arith, e))) w.quiet,
        held,
        ap (λ (x : SyncManager). x.locked) own ∙ w.out_unlocked,
        ap (λ (x : SyncManager). x.awaited) own,
        ap (λ (x : SyncManager). x.locked) fourth ∙ w.in_unlocked,
      )

  long : length (linked_outputs m t f.snapshot) ≡ bytes_of_bits pl.share.outs
  long = length-overlay (zeros (bytes_of_bits h.outs)) _ ∙ (length-replicate (bytes_of_bits h.outs) 0 ∙ ap bytes_of_bits (sym outs_is))

  left_by : (x : Health) → q.health ≡ x → IsAs t pl s q x → SlaveRefines t pl (if (given_by h x).wrote then with_outputs s (linked_outputs m t f.snapshot) else s) (taking m t f q x)
  left_by Working e w = go (has_outs h)
    where
      go : (o : Bool) → SlaveRefines t pl (if o then with_outputs s (linked_outputs m t f.snapshot) else s) (if o then record q { outputs = publishing q.outputs (linked_outputs m t f.snapshot) } else q)
      go true = subst (λ (x : Health). IsAs t pl (with_outputs s (linked_outputs m t f.snapshot)) (record q { outputs = publishing q.outputs (linked_outputs m t f.snapshot) }) x) (sym e) (working_left (linked_outputs m t f.snapshot) long w)
      go false = subst (λ (x : Health). IsAs t pl s q x) (sym e) w
  left_by _ e w = subst (λ (x : Health). IsAs t pl s q x) (sym e) w

  pub left_shows : SlaveRefines t pl s q → SlaveRefines t pl (slave_left m t f q s) (met_slave m t f q)
  left_shows w = go (h.part == f.part)
    where
      go : (o : Bool) → SlaveRefines t pl (if (if o then given_by h q.health else nothing_given).wrote then with_outputs s (linked_outputs m t f.snapshot) else s) (if o then taking m t f q q.health else q)
      go true = left_by q.health refl w
      go false = w
