-- No slave gives more than its share, so predicted counters mean that each gave the whole of it.
use Rattle.ec_world.proofs.Words.{ℕ, zero, suc, ◌<◌, ◌≤◌, ◌≡◌, ◌≢◌, ◌==◌, refl, sym, ◌∙◌, ap, subst, inl, inr, arith, length, List, [], ◌∷◌, map, get_or, Bool, true, false, Some, ◌+◌, ◌++◌, if◌then◌else◌, common_append-nil as append-nil, common_append_assoc as append_assoc, bit_or, cases_eq, eq-eqb, eqb-true, ne_eqb, and_parts, and_from, length-map, list_get_or-map as get_or-map, length_push, if_true, if_false, Share, Gave, counters_of, same_counters, share_in, sum_of, lwr_count, lrd_count, lrw_count, whole_share, nothing_given, predicted, share_of, no_slave_plan, meaning, Meaning, slave_at, PlanState, part_at, SlavePlan, ReturnedPart, is_good, bytes_at, Note, Other, Short, Full, is_full, all_full, PlainSlave, PlainFrame, Working, met_note, with_note, no_plain_slave, giving, GaveAs, note_at, KeptRefines, DatagramsRefine, same_truth, all_each, each_all, al_word, Al, status_word, state_number, State, Op, Datagram, SlaveState, inputs_of, passes, passes_ring, cyclic_datagrams, sent_datagrams, no_slave, SlaveRefines, slave_left, notes_round, SlavesFrom, RoundTrip, word_past, in_op, CycleLaw}
use Rattle.ec_world.proofs.Refinement.CyclicFrame.{share_is}
use Rattle.ec_world.proofs.Refinement.AlWord.{datagrams_pass}
use Rattle.ec_world.proofs.Refinement.FreshFrame.{fresh, fresh_datagrams}

abbrev pub at : List Gave → ℕ → Gave
at gs t = get_or gs t nothing_given

pub sums_le : (f : Gave → ℕ) (xs ys : List Gave) → length xs ≡ length ys → ((t : ℕ) → t < length xs → f (at xs t) ≤ f (at ys t)) → sum_of f xs ≤ sum_of f ys
sums_le f [] [] e h = omega arith
sums_le f (x ∷ xs) (y ∷ ys) e h = let a = sums_le f xs ys (omega arith) (λ t l. h (suc t) (omega arith)) in let b = h 0 (omega arith) in omega arith
sums_le f _ _ e h = absurd (omega arith)

-- equal sums of terms of which none is greater: equal terms
pub sums_tell : (f : Gave → ℕ) (xs ys : List Gave) → length xs ≡ length ys → ((t : ℕ) → t < length xs → f (at xs t) ≤ f (at ys t)) → sum_of f xs ≡ sum_of f ys → (t : ℕ) → t < length xs → f (at xs t) ≡ f (at ys t)
sums_tell f [] ys e h s t l = absurd (omega arith)
sums_tell f (x ∷ xs) [] e h s t l = absurd (omega arith)
sums_tell f (x ∷ xs) (y ∷ ys) e h s zero l = let a = sums_le f xs ys (omega arith) (λ t l. h (suc t) (omega arith)) in let b = h 0 (omega arith) in omega arith
sums_tell f (x ∷ xs) (y ∷ ys) e h s (suc t) l =
    let a = sums_le f xs ys (omega arith) (λ t l. h (suc t) (omega arith)) in
    let b = h 0 (omega arith) in
    sums_tell f xs ys (omega arith) (λ t l. h (suc t) (omega arith)) (omega arith) t (omega arith)

pub same_gave : (xs ys : List Gave) → length xs ≡ length ys → ((t : ℕ) → t < length xs → at xs t ≡ at ys t) → xs ≡ ys
same_gave [] [] e h = refl
same_gave (x ∷ xs) (y ∷ ys) e h = ap (λ z. z ∷ xs) (h 0 (omega arith)) ∙ ap (λ zs. y ∷ zs) (same_gave xs ys (omega arith) (λ t l. h (suc t) (omega arith)))
same_gave _ _ e h = absurd (omega arith)

-- ---- one slave

pub record WithinShare (g whole : Gave) : Type 0 where
  pub wrote : lwr_count g ≤ lwr_count whole
  pub read : lrd_count g ≤ lrd_count whole

within_share : (h : Share) (k : ℕ) (n : Note) (g : Gave) → GaveAs h n g → (h.part ≢ k → n ≡ Other) → (h.part ≡ k → n ≢ Other) → WithinShare g (share_in k h)
within_share h k n g gave elsewhere in_part = elim (cases_eq h.part k) [
  | inl e ↦ subst (λ (w : Gave). WithinShare g w) (sym (if_true _ _ _ (eq-eqb _ _ e))) (mine n gave (in_part e))
  | inr ne ↦ subst (λ (w : Gave). WithinShare w (share_in k h)) (sym (subst (λ (x : Note). GaveAs h x g) (elsewhere ne) gave)) (record { wrote = omega arith; read = omega arith })
]
  where
    mine : (n : Note) → GaveAs h n g → n ≢ Other → WithinShare g (whole_share h)
    mine Other x ne = absurd (ne refl)
    mine Short x ne = record { wrote = x.wrote; read = x.read }
    mine (Full v) x ne = subst (λ (w : Gave). WithinShare w (whole_share h)) (sym x) (record { wrote = omega arith; read = omega arith })

full_note : (h : Share) (k : ℕ) (n : Note) (g : Gave) → GaveAs h n g → (h.part ≢ k → n ≡ Other) → lrw_count g ≡ lrw_count (share_in k h) → is_full n ≡ true
full_note h k Short g gave elsewhere e = elim (cases_eq h.part k) as (λ _. false ≡ true) [
  | inl q ↦ absurd (let x = gave.less in let y = e ∙ ap lrw_count (if_true (h.part == k) (whole_share h) nothing_given (eq-eqb _ _ q)) in omega arith)
  | inr ne ↦ absurd (cc (sym (elsewhere ne)))
]
full_note h k _ g gave elsewhere e = refl

pub gave_whole : (h : Share) (k : ℕ) (n : Note) (g : Gave) → GaveAs h n g → (h.part ≢ k → n ≡ Other) → (h.part ≡ k → n ≢ Other) → is_full n ≡ true → g ≡ share_in k h
gave_whole h k n g gave elsewhere in_part full = elim (cases_eq h.part k) [
  | inl e ↦ mine n gave (in_part e) full ∙ sym (if_true _ _ _ (eq-eqb _ _ e))
  | inr ne ↦ subst (λ (x : Note). GaveAs h x g) (elsewhere ne) gave ∙ sym (if_false _ _ _ (ne_eqb _ _ ne))
]
  where
    mine : (n : Note) → GaveAs h n g → n ≢ Other → is_full n ≡ true → g ≡ whole_share h
    mine Other x ne f = absurd (ne refl)
    mine Short x ne f = absurd (let z : false ≡ true = f in cc)
    mine (Full v) x ne f = x

-- ---- the counters of a part

same_eqb : (n : ℕ) → (n == n) ≡ true
same_eqb n = eq-eqb n n refl

counters_same : (split : Bool) (xs : List Gave) → same_counters (counters_of split xs) (counters_of split xs) ≡ true
counters_same true xs = and_from _ _ (same_eqb (sum_of lwr_count xs)) (same_eqb (sum_of lrd_count xs))
counters_same false xs = same_eqb (sum_of lrw_count xs)

-- predicted counters: each slave gave what counts as its whole share
counts_tell : (split : Bool) (xs ys : List Gave) → length xs ≡ length ys → ((t : ℕ) → t < length xs → WithinShare (at xs t) (at ys t))
    → same_counters (counters_of split xs) (counters_of split ys) ≡ true → (t : ℕ) → t < length xs → lrw_count (at xs t) ≡ lrw_count (at ys t)
counts_tell true xs ys e h same t l =
    let both = and_parts (sum_of lwr_count xs == sum_of lwr_count ys) (sum_of lrd_count xs == sum_of lrd_count ys) same in
    let w = sums_tell lwr_count xs ys e (λ t l. (h t l).wrote) (eqb-true (sum_of lwr_count xs) (sum_of lwr_count ys) both.0) t l in
    let r = sums_tell lrd_count xs ys e (λ t l. (h t l).read) (eqb-true (sum_of lrd_count xs) (sum_of lrd_count ys) both.1) t l in
    omega arith
counts_tell false xs ys e h same t l = sums_tell lrw_count xs ys e (λ t l. let a = (h t l).wrote in let b = (h t l).read in omega arith) (eqb-true (sum_of lrw_count xs) (sum_of lrw_count ys) same) t l

-- A part that came back is good exactly where all its notes are full.
pub good_is_full : (plan : PlanState) (k : ℕ) (notes : List Note) (q : ReturnedPart) → KeptRefines plan k notes q → is_good plan k (Some q) ≡ all_full (Some notes)
good_is_full plan k notes q shows =
    let m = meaning plan in
    let whole = map (λ (s : SlavePlan). share_in k s.share) plan.slaves in
    let split = (part_at plan.parts k).split in
    let len : length shows.gave ≡ length whole = shows.as_many ∙ (shows.all ∙ sym (length-map plan.slaves (λ s. share_in k s.share))) in
    let there : (t : ℕ) → t < length plan.slaves → at whole t ≡ share_in k (share_of m t)
    = λ t l. get_or-map (λ (s : SlavePlan). share_in k s.share) plan.slaves t no_slave_plan nothing_given l ∙ ap (share_in k) (sym (share_is plan t)) in
    let broadcast : (q.broadcast == length plan.slaves) ≡ true = eq-eqb _ _ shows.broadcast in
    same_truth (is_good plan k (Some q)) (all_full (Some notes))
    (λ good.
    let same : same_counters (counters_of split shows.gave) (counters_of split whole) ≡ true = ap (λ c. same_counters c (predicted plan k)) (sym shows.counters) ∙ (and_parts (q.broadcast == length plan.slaves) (same_counters q.counters (predicted plan k)) good).1 in
    each_all is_full notes Other (λ t l.
    let few : t < length shows.gave = let x = shows.as_many in omega arith in
    let few2 : t < length plan.slaves = let x = shows.all in omega arith in
    full_note (share_of m t) k (note_at notes t) (at shows.gave t) (shows.each t l) (shows.elsewhere t l)
    (counts_tell split shows.gave whole len (λ u b.
    let c : u < length notes = let x = shows.as_many in omega arith in
    let d : u < length plan.slaves = let x = shows.all in omega arith in
    subst (λ (w : Gave). WithinShare (at shows.gave u) w) (sym (there u d)) (within_share (share_of m u) k (note_at notes u) (at shows.gave u) (shows.each u c) (shows.elsewhere u c) (shows.in_part u c))) same t few
    ∙ ap lrw_count (there t few2))))
    (λ full.
    let same : shows.gave ≡ whole = same_gave shows.gave whole len (λ t l.
    let c : t < length notes = let x = shows.as_many in omega arith in
    let d : t < length plan.slaves = let x = shows.all in omega arith in
    gave_whole (share_of m t) k (note_at notes t) (at shows.gave t) (shows.each t c) (shows.elsewhere t c) (shows.in_part t c) (all_each is_full notes t Other full c) ∙ sym (there t d)) in
    and_from _ _ broadcast (ap (λ c. same_counters c (predicted plan k)) (shows.counters ∙ ap (counters_of split) same) ∙ counters_same split whole))

-- ---- a frame round the ring, by induction over the slaves

same_notes : (m : Meaning) (t : ℕ) (f : PlainFrame) (n : Note) (qs : List PlainSlave) → notes_round m t (with_note f n) qs ≡ notes_round m t f qs
same_notes m t f n [] = refl
same_notes m t f n (q ∷ qs) = ap (λ ns. met_note m t f q ∷ ns) (same_notes m (t + 1) f n qs)

pub round_trip : RoundTrip
round_trip plan f [] [] ds sound all len slaves frame = record {
  slaves = λ i l. absurd (omega arith);
  frame = subst (λ (ns : List Note). DatagramsRefine plan (record f { notes = ns }) ds) (sym (append-nil f.notes)) frame;
  word = λ w e. e;
}
round_trip plan f (s ∷ ss) (q ∷ qs) ds sound all len slaves frame =
    let m = meaning plan in
    let t = length f.notes in
    let n = met_note m t f q in
    let g = with_note f n in
    let zero_more : t + 0 ≡ t = omega arith in
    let here : SlaveRefines t (slave_at plan t) s q = subst (λ (k : ℕ). SlaveRefines k (slave_at plan k) s q) zero_more (slaves 0 (omega arith)) in
    let one = datagrams_pass plan f q s ds sound (omega arith) here frame in
    let more : length g.notes ≡ t + 1 = length_push f.notes n in
    let later : SlavesFrom plan (length g.notes) ss qs = λ i l. let e : t + suc i ≡ length g.notes + i = omega (arith, more) in subst (λ (k : ℕ). SlaveRefines k (slave_at plan k) (get_or ss i no_slave) (get_or qs i no_plain_slave)) e (slaves (suc i) (omega arith)) in
    let rest = round_trip plan g ss qs (passes s ds).datagrams sound (omega (arith, more)) (omega arith) later one.shows in
    let ns : g.notes ++ notes_round m (length g.notes) g qs ≡ f.notes ++ (n ∷ notes_round m (t + 1) f qs)
    = ap (λ xs. g.notes ++ xs) (ap (λ k. notes_round m k g qs) more ∙ same_notes m (t + 1) f n qs) ∙ append_assoc f.notes (n ∷ []) (notes_round m (t + 1) f qs) in
    record {
      slaves = λ i l. by_place i l one.slave more rest.slaves;
      frame = subst (λ (ys : List Note). DatagramsRefine plan (record f { notes = ys }) (passes_ring ss (passes s ds).datagrams).datagrams) ns rest.frame;
      word = λ w e. rest.word (bit_or w (status_word s.al)) (one.word w e);
    }
  where
    by_place : (i : ℕ) → i < length (s ∷ ss) → (passes s ds).slave ≡ slave_left (meaning plan) (length f.notes) f q s
        → length (f.notes ++ (met_note (meaning plan) (length f.notes) f q ∷ [])) ≡ length f.notes + 1
        → ((j : ℕ) → j < length ss → get_or (passes_ring ss (passes s ds).datagrams).slaves j no_slave ≡ slave_left (meaning plan) (length (f.notes ++ (met_note (meaning plan) (length f.notes) f q ∷ [])) + j) f (get_or qs j no_plain_slave) (get_or ss j no_slave))
        → get_or (passes_ring (s ∷ ss) ds).slaves i no_slave ≡ slave_left (meaning plan) (length f.notes + i) f (get_or (q ∷ qs) i no_plain_slave) (get_or (s ∷ ss) i no_slave)
    by_place zero l one more rest = let e : length f.notes ≡ length f.notes + 0 = omega arith in one ∙ ap (λ k. slave_left (meaning plan) k f q s) e
    by_place (suc j) l one more rest =
        let e : length (f.notes ++ (met_note (meaning plan) (length f.notes) f q ∷ [])) + j ≡ length f.notes + suc j = omega (arith, more) in
        rest j (omega arith) ∙ ap (λ k. slave_left (meaning plan) k f (get_or qs j no_plain_slave) (get_or ss j no_slave)) e
round_trip plan f _ _ ds sound all len slaves frame = absurd (omega arith)

-- ---- slaves in OP

in_op_says : (al : Al) → al.state ≡ Op → al.error ≡ false → status_word al ≡ 8
in_op_says al state error = ap (λ (st : State). al_word (state_number st) al.error) state ∙ ap (λ (e : Bool). al_word 8 e) error

still_eight : (ss : List SlaveState) → ((i : ℕ) → i < length ss → status_word (get_or ss i no_slave).al ≡ 8) → word_past 8 ss ≡ 8
still_eight [] h = refl
still_eight (s ∷ ss) h = ap (λ (n : ℕ). word_past (bit_or 8 n) ss) (h 0 (omega arith)) ∙ still_eight ss (λ i l. h (suc i) (omega arith))

all_in_op : (ss : List SlaveState) → 0 < length ss → ((i : ℕ) → i < length ss → status_word (get_or ss i no_slave).al ≡ 8) → word_past 0 ss ≡ 8
all_in_op [] some h = absurd (omega (arith, some))
all_in_op (s ∷ ss) some h = ap (λ (n : ℕ). word_past (bit_or 0 n) ss) (h 0 (omega arith)) ∙ still_eight ss (λ i l. h (suc i) (omega arith))

note_round : (m : Meaning) (t : ℕ) (f : PlainFrame) (qs : List PlainSlave) (i : ℕ) → i < length qs → note_at (notes_round m t f qs) i ≡ met_note m (t + i) f (get_or qs i no_plain_slave)
note_round m t f [] i l = absurd (omega arith)
note_round m t f (q ∷ qs) zero l = let e : t ≡ t + 0 = omega arith in ap (λ k. met_note m k f q) e
note_round m t f (q ∷ qs) (suc i) l = let e : t + 1 + i ≡ t + suc i = omega arith in note_round m (t + 1) f qs i (omega arith) ∙ ap (λ k. met_note m k f (get_or qs i no_plain_slave)) e

length-notes_round : (m : Meaning) (t : ℕ) (f : PlainFrame) (qs : List PlainSlave) → length (notes_round m t f qs) ≡ length qs
length-notes_round m t f [] = refl
length-notes_round m t f (q ∷ qs) = ap suc (length-notes_round m (t + 1) f qs)

pub cycle_law : CycleLaw
cycle_law plan number k image ss sound fits there len working =
    let m = meaning plan in
    let f = fresh number k image in
    let qs = map in_op ss in
    let len2 : length qs ≡ length ss = length-map ss in_op in
    let own : (i : ℕ) → i < length ss → get_or qs i no_plain_slave ≡ in_op (get_or ss i no_slave) = λ i l. get_or-map in_op ss i no_slave no_plain_slave l in
    let slaves : SlavesFrom plan 0 ss qs = λ i l.
    let z : i ≡ 0 + i = omega arith in
    subst (λ (k : ℕ). SlaveRefines k (slave_at plan k) (get_or ss i no_slave) (get_or qs i no_plain_slave)) z
    (subst (λ (q : PlainSlave). SlaveRefines i (slave_at plan i) (get_or ss i no_slave) q) (sym (own i l)) (working i l)) in
    let trip = round_trip plan f ss qs (sent_datagrams plan number k image) sound (omega arith) len2 slaves (fresh_datagrams plan number k image sound fits there) in
    let shows = trip.frame in
    let notes = notes_round m 0 f qs in
    let many : length notes ≡ length ss = length-notes_round m 0 f qs ∙ len2 in
    let note : (t : ℕ) → t < length ss → note_at notes t ≡ met_note m t f (in_op (get_or ss t no_slave))
    = λ t l. note_round m 0 f qs t (omega arith) ∙ (ap (λ j. met_note m j f (get_or qs t no_plain_slave)) (let z : 0 + t ≡ t = omega arith in z) ∙ ap (λ q. met_note m t f q) (own t l)) in
    let whole = map (λ (s : SlavePlan). share_in k s.share) plan.slaves in
    let gave : shows.gave ≡ whole = same_gave shows.gave whole (shows.process.as_many ∙ (many ∙ (len ∙ sym (length-map plan.slaves (λ s. share_in k s.share)))))
    (λ t l.
    let b : t < length notes = let x = shows.process.as_many in omega arith in
    let c : t < length ss = omega (arith, many) in
    gave_whole (share_of m t) k (note_at notes t) (at shows.gave t) (shows.process.each t b) (shows.process.elsewhere t b) (shows.process.in_part t b) (full (share_of m t) f (get_or ss t no_slave) t (note_at notes t) (note t c))
    ∙ sym (get_or-map (λ (s : SlavePlan). share_in k s.share) plan.slaves t no_slave_plan nothing_given (omega arith) ∙ ap (share_in k) (sym (share_is plan t)))) in
    record {
      slaves = λ t l.
          let z : 0 + t ≡ t = omega arith in
          trip.slaves t l ∙ (ap (λ j. slave_left m j f (get_or qs t no_plain_slave) (get_or ss t no_slave)) z
          ∙ ap (λ q. slave_left m t f q (get_or ss t no_slave)) (own t l));
      al = shows.al;
      in_op = λ some. ap (λ (ds : List Datagram). bytes_at ds 1) (sym shows.is) ∙ (trip.word 0 refl ∙ ap (λ (w : ℕ). w ∷ 0 ∷ []) (all_in_op ss some (λ t l. in_op_says (get_or ss t no_slave).al (working t l).state (working t l).no_error)));
      sent = shows.sent;
      returned = shows.returned;
      back = shows.is ∙ (ap (λ n. cyclic_datagrams (part_at plan.parts k) number k n shows.al shows.sent shows.returned shows.gave) many ∙ ap (cyclic_datagrams (part_at plan.parts k) number k (length ss) shows.al shows.sent shows.returned) gave);
      inputs = λ t o l e b.
          let full_note : note_at notes t ≡ Full (inputs_of (get_or ss t no_slave)) = note t l ∙ if_true _ _ _ (eq-eqb _ _ e) in
          shows.process.noted t o (inputs_of (get_or ss t no_slave)) (omega (arith, many)) full_note b;
    }
  where
    full : (h : Share) (f : PlainFrame) (s : SlaveState) (t : ℕ) (n : Note) → n ≡ (if h.part == f.part then giving h (in_op s) Working else Other) → is_full n ≡ true
    full h f s t n e = ap is_full e ∙ (elim (h.part == f.part) as (λ b. is_full (if b then giving h (in_op s) Working else Other) ≡ true) [ true ↦ refl | false ↦ refl ])
