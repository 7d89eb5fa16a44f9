-- What a slave does with a logical datagram over its area, where it is known what it takes and gives.
use Rattle.ec_world.proofs.Words.{ℕ, ◌+◌, ◌*◌, ◌<◌, ◌≡◌, Bool, true, false, refl, ◌∙◌, ap, arith, if◌then◌else◌, List, length, nat_lt, ◌&&◌, ◌%◌, ◌≤◌, ◌≢◌, ◌==◌, sym, subst, inl, inr, [], ◌∷◌, ◌++◌, mod-eq_of_lt, from_bool, Datagram, SyncManager, may_read, may_write, SlaveState, with_answer, Met, span_of, meets_logically, IsMapped, takes, gives, outputs_from, inputs_into, inputs_of, with_outputs, Area, Spans, exchange, mapped_kept, outputs_published, Gave, lwr_count, lrd_count, lrw_count, nothing_given, sum_of, cases_Bool, and_left, le-ltb, both_ways, eq-eqb, eqb-true, Lrd, Lwr, SlaveLrw as Lrw, if_true, if_false, LogicalSpan, Misses, bit, meets, passes, Passed, logical_meet, misses, Meaning, share_of, IsLaid, PartPlan, process_datagram, process_datagrams, PlainSlave, PlainFrame, Note, Other, Full, linked_outputs, met_note, with_note, GaveAs, DataRefines, given_in, slave_left, from_bool-lt}
use Rattle.ec_world.proofs.Refinement.ProcessData.{outputs_are, Took, took, Meets, data_passed, same_place}

-- a mapped slave that takes and gives this, and these inputs
pub record Acts (s : SlaveState) (a : Area) (g : Gave) (v : List ℕ) : Type 0 where
  pub mapped : IsMapped s a
  pub takes_is : takes s a ≡ g.wrote
  pub gives_is : gives s a ≡ g.read
  pub inputs_is : inputs_of s ≡ v

abbrev pub left : SlaveState → Gave → List ℕ → SlaveState
left s g u = if g.wrote then with_outputs s u else s

abbrev pub data_left : Gave → Area → Datagram → List ℕ → List ℕ
data_left g a d v = if g.read then inputs_into a (span_of d) v d.data_bytes else d.data_bytes

pub lrw_acts : (s : SlaveState) (a : Area) (g : Gave) (v : List ℕ) (d : Datagram) → Acts s a g v → Spans (span_of d) a
    → meets_logically true true 2 s d ≡ record { slave = left s g (outputs_from a (span_of d) d.data_bytes); datagram = with_answer d d.address (data_left g a d v) (lrw_count g) }
lrw_acts s a g v d h c = exchange true true 2 s a d h.mapped c ∙ rw (h.takes_is, h.gives_is, h.inputs_is) refl

pub lwr_acts : (s : SlaveState) (a : Area) (g : Gave) (v : List ℕ) (d : Datagram) → Acts s a g v → Spans (span_of d) a
    → meets_logically false true 1 s d ≡ record { slave = left s g (outputs_from a (span_of d) d.data_bytes); datagram = with_answer d d.address d.data_bytes (lwr_count g) }
lwr_acts s a g v d h c =
    let one : 0 + 1 * from_bool g.wrote ≡ from_bool g.wrote = omega arith in
    exchange false true 1 s a d h.mapped c ∙ rw h.takes_is (ap (λ n. record { slave = left s g (outputs_from a (span_of d) d.data_bytes); datagram = with_answer d d.address d.data_bytes n }) one)

pub lrd_acts : (s : SlaveState) (a : Area) (g : Gave) (v : List ℕ) (d : Datagram) → Acts s a g v → Spans (span_of d) a
    → meets_logically true false 1 s d ≡ record { slave = s; datagram = with_answer d d.address (data_left g a d v) (lrd_count g) }
lrd_acts s a g v d h c =
    let one : from_bool g.read + 1 * 0 ≡ from_bool g.read = omega arith in
    exchange true false 1 s a d h.mapped c ∙ rw (h.gives_is, h.inputs_is) (ap (λ n. record { slave = s; datagram = with_answer d d.address (data_left g a d v) n }) one)

published : (s : SlaveState) (a : Area) (g : Gave) (v u : List ℕ) → Acts s a g v → Acts (with_outputs s u) a g v
published s a g v u h =
    let two : 2 < length s.managers = let e = h.mapped.four in omega arith in
    record {
      mapped = mapped_kept s a u h.mapped;
      takes_is = ap (λ m. nat_lt 0 a.outs && may_write m) ((outputs_published s u).own two) ∙ h.takes_is;
      gives_is = ap (λ m. nat_lt 0 a.ins && may_read m) ((outputs_published s u).others 3 (omega arith)) ∙ h.gives_is;
      inputs_is = ap (λ (m : SyncManager). m.buffer.published) ((outputs_published s u).others 3 (omega arith)) ∙ h.inputs_is;
    }

-- it goes on so after it published
pub acts_left : (s : SlaveState) (a : Area) (g : Gave) (v u : List ℕ) → Acts s a g v → Acts (left s g u) a g v
acts_left s a g v u h = elim g.wrote as (λ b. Acts (if b then with_outputs s u else s) a g v) [ true ↦ published s a g v u h | false ↦ h ]

-- ---- the process datagrams of a frame pass the next slave

-- ---- what is known of the slave that meets the frame

pub data Does (s : SlaveState) (p : LogicalSpan) (a : Area) (g : Gave) (v : List ℕ) (in_part by_lrw : Type 0) : Type 0 where
  Acting : Acts s a g v → in_part → by_lrw → Does s p a g v in_part by_lrw
  Missing : Misses s p → g ≡ nothing_given → Does s p a g v in_part by_lrw

pub record Knows (m : Meaning) (a : Area) (p : LogicalSpan) (split : Bool) (f : PlainFrame) (q : PlainSlave) (s : SlaveState) (t : ℕ) : Type 0 where
  pub does : Does s p a (given_in m t f q) q.inputs.published ((share_of m t).part ≡ f.part) (split ≡ false → s.kind.lrw ≡ true)
  pub given : GaveAs (share_of m t) (met_note m t f q) (given_in m t f q)
  pub in_part : (share_of m t).part ≡ f.part → met_note m t f q ≢ Other
  pub elsewhere : (share_of m t).part ≢ f.part → met_note m t f q ≡ Other
  pub full : (w : List ℕ) → met_note m t f q ≡ Full w → 0 < a.ins → (w ≡ q.inputs.published) × ((given_in m t f q).read ≡ true)

-- ---- counters

pub sum_of-push : (f : Gave → ℕ) (gs : List Gave) (g : Gave) → sum_of f (gs ++ (g ∷ [])) ≡ sum_of f gs + f g
sum_of-push f [] g = omega arith
sum_of-push f (x ∷ gs) g = let e = sum_of-push f gs g in omega (arith, e)

pub sum_of-le : (f : Gave → ℕ) → ((g : Gave) → f g ≤ 3) → (gs : List Gave) → sum_of f gs ≤ 3 * length gs
sum_of-le f h [] = omega arith
sum_of-le f h (g ∷ gs) = let e = sum_of-le f h gs in let a = h g in omega arith

pub lwr_le : (g : Gave) → lwr_count g ≤ 3
lwr_le g = let a = from_bool-lt g.wrote in omega arith

pub lrd_le : (g : Gave) → lrd_count g ≤ 3
lrd_le g = let a = from_bool-lt g.read in omega arith

pub lrw_le : (g : Gave) → lrw_count g ≤ 3
lrw_le g = let a = from_bool-lt g.wrote in let b = from_bool-lt g.read in omega arith

-- no counter wraps among 64 slaves
counted : (f : Gave → ℕ) (gs : List Gave) (g : Gave) → ((g : Gave) → f g ≤ 3) → length gs < 64 → (sum_of f gs + f g) % 65536 ≡ sum_of f (gs ++ (g ∷ []))
counted f gs g h few = let e = sum_of-le f h gs in let a = h g in mod-eq_of_lt (omega arith) ∙ sym (sum_of-push f gs g)

small : (f : Gave → ℕ) (gs : List Gave) → ((g : Gave) → f g ≤ 3) → length gs < 64 → sum_of f gs < 65536
small f gs h few = let e = sum_of-le f h gs in omega arith

-- ---- one datagram

lrw_meets : (s : SlaveState) (number address : ℕ) (bytes : List ℕ) (n : ℕ) → s.kind.lrw ≡ true
    → meets s (process_datagram Lrw number address bytes n) ≡ meets_logically true true 2 s (process_datagram Lrw number address bytes n)
lrw_meets s number address bytes n h = (logical_meet s (process_datagram Lrw number address bytes n)).lrw refl h

lrw_misses : (s : SlaveState) (number address : ℕ) (bytes : List ℕ) (n : ℕ) → Misses s (record { from = 8 * address; bits = 8 * length bytes }) → n < 65536
    → meets s (process_datagram Lrw number address bytes n) ≡ record { slave = s; datagram = process_datagram Lrw number address bytes n }
lrw_misses s number address bytes n h l =
    let m = logical_meet s (process_datagram Lrw number address bytes n) in
    elim (cases_Bool s.kind.lrw) [
      | inl e ↦ m.lrw refl e ∙ misses true true 2 s (process_datagram Lrw number address bytes n) h l
      | inr e ↦ m.no_lrw refl e
    ]

lwr_meets : (s : SlaveState) (number address : ℕ) (bytes : List ℕ) (n : ℕ) → meets s (process_datagram Lwr number address bytes n) ≡ meets_logically false true 1 s (process_datagram Lwr number address bytes n)
lwr_meets s number address bytes n = (logical_meet s (process_datagram Lwr number address bytes n)).lwr refl

lrd_meets : (s : SlaveState) (number address : ℕ) (bytes : List ℕ) (n : ℕ) → meets s (process_datagram Lrd number address bytes n) ≡ meets_logically true false 1 s (process_datagram Lrd number address bytes n)
lrd_meets s number address bytes n = (logical_meet s (process_datagram Lrd number address bytes n)).lrd refl

-- the first datagram of a frame, and then the others
pub passes_first : (s s1 : SlaveState) (x x1 : Datagram) (ds : List Datagram) → meets s x ≡ record { slave = s1; datagram = x1 }
    → passes s (x ∷ ds) ≡ record { slave = (passes s1 ds).slave; datagrams = x1 ∷ (passes s1 ds).datagrams }
passes_first s s1 x x1 ds e = ap (λ (m : Met). record { slave = (passes m.slave ds).slave; datagrams = m.datagram ∷ (passes m.slave ds).datagrams }) e

-- ---- the process datagrams

pub record ProcessPassed (m : Meaning) (area : ℕ → Area) (p : LogicalSpan) (part : PartPlan) (f : PlainFrame) (q : PlainSlave) (s : SlaveState) (gave : List Gave) (after : Passed) : Type 0 where
  pub sent : List ℕ
  pub returned : List ℕ
  pub is : after ≡ record { slave = slave_left m (length f.notes) f q s; datagrams = process_datagrams part f.number sent returned (gave ++ (given_in m (length f.notes) f q ∷ [])) }
  pub one_datagram : part.split ≡ false → sent ≡ returned
  pub shows : DataRefines m area p (with_note f (met_note m (length f.notes) f q)) sent returned (gave ++ (given_in m (length f.notes) f q ∷ []))

-- the same with counters that are given
abbrev counting : PartPlan → ℕ → List ℕ → List ℕ → ℕ → ℕ → ℕ → List Datagram
counting part number sent returned w r b =
    if part.bytes == 0 then []
    else (if part.split
    then process_datagram Lwr number part.address sent w ∷ process_datagram Lrd number part.address returned r ∷ []
    else process_datagram Lrw number part.address returned b ∷ [])

missed : (part : PartPlan) (s : SlaveState) (number : ℕ) (sent returned : List ℕ) (w r b : ℕ)
    → Misses s (record { from = 8 * part.address; bits = 8 * length sent }) → Misses s (record { from = 8 * part.address; bits = 8 * length returned })
    → w < 65536 → r < 65536 → b < 65536
    → passes s (counting part number sent returned w r b) ≡ record { slave = s; datagrams = counting part number sent returned w r b }
missed part s number sent returned w r b h k lw lr lb = go (part.bytes == 0) part.split
  where
    go : (e y : Bool) → passes s (if e then [] else (if y then process_datagram Lwr number part.address sent w ∷ process_datagram Lrd number part.address returned r ∷ [] else process_datagram Lrw number part.address returned b ∷ []))
        ≡ record { slave = s; datagrams = if e then [] else (if y then process_datagram Lwr number part.address sent w ∷ process_datagram Lrd number part.address returned r ∷ [] else process_datagram Lrw number part.address returned b ∷ []) }
    go true y = refl
    go false true =
        let x = process_datagram Lwr number part.address sent w in
        let y = process_datagram Lrd number part.address returned r in
        passes_first s s x x (y ∷ []) (lwr_meets s number part.address sent w ∙ misses false true 1 s x h lw)
        ∙ ap (λ (p : Passed). record { slave = p.slave; datagrams = x ∷ p.datagrams }) (passes_first s s y y [] (lrd_meets s number part.address returned r ∙ misses true false 1 s y k lr))
    go false false =
        let z = process_datagram Lrw number part.address returned b in
        passes_first s s z z [] (lrw_misses s number part.address returned b k lb)

module _ (m : Meaning) (area : ℕ → Area) (place : ℕ → LogicalSpan) (part : PartPlan) (f : PlainFrame) (q : PlainSlave) (s : SlaveState) (sent returned : List ℕ) (gave : List Gave)
    (laid : IsLaid m area place) (l : length f.notes < length m.slaves) (few : length m.slaves ≤ 64)
    (at : place f.part ≡ record { from = 8 * part.address; bits = 8 * part.bytes })
    (shows : DataRefines m area (place f.part) f sent returned gave)
    (one : part.split ≡ false → sent ≡ returned)
    (knows : Knows m (area (length f.notes)) (place f.part) part.split f q s (length f.notes)) where
  abbrev t : ℕ
  t = length f.notes

  abbrev g : Gave
  g = given_in m t f q

  abbrev n : Note
  n = met_note m t f q

  abbrev a : Area
  a = area t

  many : length gave < 64
  many = let e = shows.as_many in omega arith

  sent_place : record { from = 8 * part.address; bits = 8 * length sent } ≡ place f.part
  sent_place = ap (λ k. record { from = 8 * part.address; bits = k }) (sym (sym (ap (λ (p : LogicalSpan). p.bits) at) ∙ shows.sent_room)) ∙ sym at

  returned_place : record { from = 8 * part.address; bits = 8 * length returned } ≡ place f.part
  returned_place = ap (λ k. record { from = 8 * part.address; bits = k }) (sym (sym (ap (λ (p : LogicalSpan). p.bits) at) ∙ shows.returned_room)) ∙ sym at

  -- the slave's inputs change in the data, and nothing else does
  meets_so : (sent2 returned2 : List ℕ) → Took a (place f.part) q.inputs.published returned returned2 g.read
      → Took a (place f.part) q.inputs.published sent sent2 false → Meets m a (place f.part) f t n sent returned sent2 returned2 g
  meets_so sent2 returned2 x y = record {
    same_sent = y.same_length;
    same_returned = x.same_length;
    sent_kept = y.kept;
    returned_kept = x.kept;
    mine = λ w o e b. let k = knows.full w e (omega arith) in x.there o k.1 b ∙ ap (λ z. bit z o) (sym k.0);
    given = knows.given;
    in_part = knows.in_part;
    elsewhere = knows.elsewhere;
  }

  untold : (v old : List ℕ) (taken : Bool) → taken ≡ false → Took a (place f.part) v old old taken
  untold v old taken e = record { same_length = refl; kept = λ i l w. refl; there = λ o t l. absurd (both_ways taken e t) }

  told_less : (v old new : List ℕ) (taken : Bool) → Took a (place f.part) v old new taken → Took a (place f.part) v old new false
  told_less v old new taken x = record { same_length = x.same_length; kept = x.kept; there = λ o t l. absurd (both_ways false refl t) }

  missing : Misses s (place f.part) → g ≡ nothing_given → ProcessPassed m area (place f.part) part f q s gave (passes s (process_datagrams part f.number sent returned gave))
  missing miss none =
      let zero_more : (c : Gave → ℕ) → c nothing_given ≡ 0 → sum_of c gave ≡ sum_of c (gave ++ (g ∷ [])) = λ c z. let e = sum_of-push c gave g in let k = ap c none in omega (arith, e, k, z) in
      let all = missed part s f.number sent returned (sum_of lwr_count gave) (sum_of lrd_count gave) (sum_of lrw_count gave)
      (subst (λ (p : LogicalSpan). Misses s p) (sym sent_place) miss) (subst (λ (p : LogicalSpan). Misses s p) (sym returned_place) miss)
      (small lwr_count gave lwr_le many) (small lrd_count gave lrd_le many) (small lrw_count gave lrw_le many) in
      let same : slave_left m t f q s ≡ s = if_false _ _ _ (ap (λ g. g.wrote) none) in
      let counts : counting part f.number sent returned (sum_of lwr_count gave) (sum_of lrd_count gave) (sum_of lrw_count gave) ≡ process_datagrams part f.number sent returned (gave ++ (g ∷ []))
      = rw (zero_more lwr_count refl, zero_more lrd_count refl, zero_more lrw_count refl) refl in
      record {
        sent = sent;
        returned = returned;
        is = all ∙ (ap (λ x. record { slave = x; datagrams = counting part f.number sent returned (sum_of lwr_count gave) (sum_of lrd_count gave) (sum_of lrw_count gave) }) (sym same)
            ∙ ap (λ ds. record { slave = slave_left m t f q s; datagrams = ds }) counts);
        one_datagram = one;
        shows = data_passed m area place f sent returned sent returned gave n g laid shows l
            (meets_so sent returned (untold q.inputs.published returned g.read (ap (λ g. g.read) none)) (untold q.inputs.published sent false refl));
      }

  module _ (acts : Acts s a g q.inputs.published) (mine : (share_of m t).part ≡ f.part) (by_lrw : part.split ≡ false → s.kind.lrw ≡ true) where
    spans : Spans (place f.part) a
    spans = same_place m area place f.part t laid l mine

    outs : outputs_from a (place f.part) sent ≡ linked_outputs m t f.snapshot
    outs = outputs_are m area place (place f.part) f sent returned gave t laid shows (omega arith) l mine

    acting_none : part.bytes ≡ 0 → ProcessPassed m area (place f.part) part f q s gave (passes s (process_datagrams part f.number sent returned gave))
    acting_none z =
        let room : (place f.part).bits ≡ 0 = ap (λ (p : LogicalSpan). p.bits) at ∙ ap (λ k. 8 * k) z in
        let no_outs : a.outs ≤ 0 = let x = spans.out_to in let y = spans.out_from in omega arith in
        let no_ins : a.ins ≤ 0 = let x = spans.in_to in let y = spans.in_from in omega arith in
        let wrote : g.wrote ≡ false = sym acts.takes_is ∙ and_left _ _ (le-ltb 0 a.outs no_outs) in
        let read : g.read ≡ false = sym acts.gives_is ∙ and_left _ _ (le-ltb 0 a.ins no_ins) in
        record {
          sent = sent;
          returned = returned;
          is = ap (passes s) (if_true _ _ _ (eq-eqb part.bytes 0 z))
              ∙ (ap (λ x. record { slave = x; datagrams = [] }) (sym (if_false _ _ _ wrote))
              ∙ ap (λ ds. record { slave = slave_left m t f q s; datagrams = ds }) (sym (if_true _ _ _ (eq-eqb part.bytes 0 z))));
          one_datagram = one;
          shows = data_passed m area place f sent returned sent returned gave n g laid shows l
              (meets_so sent returned (untold q.inputs.published returned g.read read) (untold q.inputs.published sent false refl));
        }

    abbrev returned2 : List ℕ
    returned2 = if g.read then inputs_into a (place f.part) q.inputs.published returned else returned

    took_it : Took a (place f.part) q.inputs.published returned returned2 g.read
    took_it = took a (place f.part) q.inputs.published returned g.read shows.returned_room spans

    acting_joint : (part.bytes == 0) ≡ false → part.split ≡ false → ProcessPassed m area (place f.part) part f q s gave (passes s (process_datagrams part f.number sent returned gave))
    acting_joint z y =
        let same : sent ≡ returned = one y in
        let d = process_datagram Lrw f.number part.address returned (sum_of lrw_count gave) in
        let whole : (xs ys : List ℕ) (gs : List Gave) → process_datagrams part f.number xs ys gs ≡ process_datagram Lrw f.number part.address ys (sum_of lrw_count gs) ∷ []
        = λ xs ys gs. if_false _ _ _ z ∙ if_false _ _ _ y in
        let u : outputs_from a (span_of d) returned ≡ linked_outputs m t f.snapshot = ap (λ p. outputs_from a p returned) returned_place ∙ (ap (outputs_from a (place f.part)) (sym same) ∙ outs) in
        let changed : data_left g a d q.inputs.published ≡ returned2 = ap (λ p. if g.read then inputs_into a p q.inputs.published returned else returned) returned_place in
        let e : meets s d ≡ record { slave = slave_left m t f q s; datagram = process_datagram Lrw f.number part.address returned2 (sum_of lrw_count (gave ++ (g ∷ []))) }
        = lrw_meets s f.number part.address returned (sum_of lrw_count gave) (by_lrw y)
        ∙ (lrw_acts s a g q.inputs.published d acts (subst (λ (p : LogicalSpan). Spans p a) (sym returned_place) spans)
        ∙ (ap (λ v. record { slave = left s g v; datagram = with_answer d d.address (data_left g a d q.inputs.published) (lrw_count g) }) u
        ∙ (ap (λ x. record { slave = slave_left m t f q s; datagram = with_answer d d.address x (lrw_count g) }) changed
        ∙ ap (λ k. record { slave = slave_left m t f q s; datagram = process_datagram Lrw f.number part.address returned2 k }) (counted lrw_count gave g lrw_le many)))) in
        record {
          sent = returned2;
          returned = returned2;
          is = ap (passes s) (whole sent returned gave) ∙ (passes_first s _ d _ [] e ∙ ap (λ ds. record { slave = slave_left m t f q s; datagrams = ds }) (sym (whole returned2 returned2 (gave ++ (g ∷ [])))));
          one_datagram = λ x. refl;
          shows = data_passed m area place f sent returned returned2 returned2 gave n g laid shows l
              (meets_so returned2 returned2 took_it (subst (λ (xs : List ℕ). Took a (place f.part) q.inputs.published xs returned2 false) (sym same) (told_less q.inputs.published returned returned2 g.read took_it)));
        }

    acting_split : (part.bytes == 0) ≡ false → part.split ≡ true → ProcessPassed m area (place f.part) part f q s gave (passes s (process_datagrams part f.number sent returned gave))
    acting_split z y =
        let d = process_datagram Lwr f.number part.address sent (sum_of lwr_count gave) in
        let d2 = process_datagram Lrd f.number part.address returned (sum_of lrd_count gave) in
        let whole : (xs ys : List ℕ) (gs : List Gave) → process_datagrams part f.number xs ys gs ≡ process_datagram Lwr f.number part.address xs (sum_of lwr_count gs) ∷ process_datagram Lrd f.number part.address ys (sum_of lrd_count gs) ∷ []
        = λ xs ys gs. if_false _ _ _ z ∙ if_true _ _ _ y in
        let u : outputs_from a (span_of d) sent ≡ linked_outputs m t f.snapshot = ap (λ p. outputs_from a p sent) sent_place ∙ outs in
        let changed : data_left g a d2 q.inputs.published ≡ returned2 = ap (λ p. if g.read then inputs_into a p q.inputs.published returned else returned) returned_place in
        let s1 = slave_left m t f q s in
        let e : meets s d ≡ record { slave = s1; datagram = process_datagram Lwr f.number part.address sent (sum_of lwr_count (gave ++ (g ∷ []))) }
        = lwr_meets s f.number part.address sent (sum_of lwr_count gave)
        ∙ (lwr_acts s a g q.inputs.published d acts (subst (λ (p : LogicalSpan). Spans p a) (sym sent_place) spans)
        ∙ (ap (λ v. record { slave = left s g v; datagram = with_answer d d.address sent (lwr_count g) }) u
        ∙ ap (λ k. record { slave = s1; datagram = process_datagram Lwr f.number part.address sent k }) (counted lwr_count gave g lwr_le many))) in
        let acts2 : Acts s1 a g q.inputs.published = acts_left s a g q.inputs.published (linked_outputs m t f.snapshot) acts in
        let e2 : meets s1 d2 ≡ record { slave = s1; datagram = process_datagram Lrd f.number part.address returned2 (sum_of lrd_count (gave ++ (g ∷ []))) }
        = lrd_meets s1 f.number part.address returned (sum_of lrd_count gave)
        ∙ (lrd_acts s1 a g q.inputs.published d2 acts2 (subst (λ (p : LogicalSpan). Spans p a) (sym returned_place) spans)
        ∙ (ap (λ x. record { slave = s1; datagram = with_answer d2 d2.address x (lrd_count g) }) changed
        ∙ ap (λ k. record { slave = s1; datagram = process_datagram Lrd f.number part.address returned2 k }) (counted lrd_count gave g lrd_le many))) in
        let first = process_datagram Lwr f.number part.address sent (sum_of lwr_count (gave ++ (g ∷ []))) in
        record {
          sent = sent;
          returned = returned2;
          is = ap (passes s) (whole sent returned gave)
              ∙ (passes_first s s1 d first (d2 ∷ []) e
              ∙ (ap (λ (p : Passed). record { slave = p.slave; datagrams = first ∷ p.datagrams }) (passes_first s1 s1 d2 _ [] e2)
              ∙ ap (λ ds. record { slave = s1; datagrams = ds }) (sym (whole sent returned2 (gave ++ (g ∷ []))))));
          one_datagram = λ x. absurd (both_ways part.split x y);
          shows = data_passed m area place f sent returned sent returned2 gave n g laid shows l
              (meets_so sent returned2 took_it (untold q.inputs.published sent false refl));
        }

    acting : ProcessPassed m area (place f.part) part f q s gave (passes s (process_datagrams part f.number sent returned gave))
    acting = elim (cases_Bool (part.bytes == 0)) [
      | inl z ↦ acting_none (eqb-true part.bytes 0 z)
      | inr z ↦ elim (cases_Bool part.split) [ inl y ↦ acting_split z y | inr y ↦ acting_joint z y ]
    ]

  pub process_pass : ProcessPassed m area (place f.part) part f q s gave (passes s (process_datagrams part f.number sent returned gave))
  process_pass = elim knows.does [ Acting acts mine by_lrw ↦ acting acts mine by_lrw | Missing miss none ↦ missing miss none ]
