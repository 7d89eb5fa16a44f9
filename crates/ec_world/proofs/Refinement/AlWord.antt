-- The AL word in a cyclic frame: each slave that the frame passes joins its own by OR.
use Rattle.ec_world.proofs.Words.{ℕ, ◌+◌, ◌≡◌, sym, ◌∙◌, ap, subst, arith, List, [], ◌∷◌, slice_index, bit_or, Some, ◌*◌, ◌%◌, ◌<◌, ◌≤◌, refl, ◌++◌, length, mod-eq_of_lt, status_word, SlaveState, with_answer, byte_at, updated, shows_itself, updated_by_index, length_push, length-map, Datagram, adp_of, ado_of, Payload, IsFrame, with_datagrams, one_payload, logical_meet, meets, passes, Passed, IsPassed, broadcast_read, PlanState, part_at, slave_at, area_at, span_of_part, meaning, IsUsable, bytes_at, name_datagram, status_datagram, process_datagrams, PlainSlave, PlainFrame, met_note, met_slave, with_note, SlaveRefines, DatagramsRefine, FrameRefines, given_in, slave_left, BringsWord}
use Rattle.ec_world.proofs.Refinement.LogicalDatagram.{ProcessPassed, process_pass, passes_first}
use Rattle.ec_world.proofs.Refinement.CyclicFrame.{knows, left_shows}

-- what a broadcast read of it makes of a word
pub joins : (s : SlaveState) (al : List ℕ) (word a : ℕ) → a ≡ 0x0130 → al ≡ word ∷ 0 ∷ [] → updated al (λ k. Some (bit_or (slice_index al k) (byte_at s (a + k)))) ≡ bit_or word (status_word s.al) ∷ 0 ∷ []
joins s al word a at is = subst (λ (xs : List ℕ). updated xs (λ k. Some (bit_or (slice_index xs k) (byte_at s (a + k)))) ≡ bit_or word (status_word s.al) ∷ 0 ∷ []) (sym is) two
  where
    two : bit_or word (byte_at s (a + 0)) ∷ bit_or 0 (byte_at s (a + 1)) ∷ [] ≡ bit_or word (status_word s.al) ∷ 0 ∷ []
    two =
        ap (λ (n : ℕ). bit_or word (byte_at s n) ∷ bit_or 0 (byte_at s (a + 1)) ∷ []) (let z : a + 0 ≡ 0x0130 = omega (arith, at) in z)
        ∙ (ap (λ (n : ℕ). bit_or word n ∷ bit_or 0 (byte_at s (a + 1)) ∷ []) (shows_itself s).status
        ∙ (ap (λ (n : ℕ). bit_or word (status_word s.al) ∷ bit_or 0 (byte_at s n) ∷ []) (let z : a + 1 ≡ 0x0131 = omega (arith, at) in z)
        ∙ ap (λ (n : ℕ). bit_or word (status_word s.al) ∷ bit_or 0 n ∷ []) (shows_itself s).status_high))

-- ---- a cyclic frame passes the next slave

nop_meets : (s : SlaveState) (number k : ℕ) → meets s (name_datagram number k) ≡ record { slave = s; datagram = name_datagram number k }
nop_meets s number k = (logical_meet s (name_datagram number k)).nop refl

-- the AL status word after the slave
pub record StatusMet (s : SlaveState) (number n : ℕ) (al : List ℕ) : Type 0 where
  pub al2 : List ℕ
  pub word : length al2 ≡ 2
  pub joined : (w : ℕ) → al ≡ w ∷ 0 ∷ [] → al2 ≡ bit_or w (status_word s.al) ∷ 0 ∷ []
  pub is : meets s (status_datagram number n al) ≡ record { slave = s; datagram = status_datagram number (n + 1) al2 }

pub status_meets : (s : SlaveState) (number n : ℕ) (al : List ℕ) → length al ≡ 2 → n < 64 → StatusMet s number n al
status_meets s number n al two few =
    let d = status_datagram number n al in
    let ado : ado_of d ≡ 0x0130 = omega arith in
    let adp : adp_of d ≡ n = omega arith in
    let al2 = updated al (λ k. Some (bit_or (slice_index al k) (byte_at s (ado_of d + k)))) in
    let met = broadcast_read s d refl (omega arith) (omega arith) in
    let wraps : (n + 1) % 65536 ≡ n + 1 = mod-eq_of_lt (omega arith) in
    record {
      al2 = al2;
      word = (updated_by_index al _).long ∙ two;
      joined = λ w e. joins s al w (ado_of d) ado e;
      is = met ∙ ap (λ x. record { slave = s; datagram = x }) (answer d al2 ado adp wraps);
    }
  where
    answer : (d : Datagram) (al2 : List ℕ) → ado_of d ≡ 0x0130 → adp_of d ≡ n → (n + 1) % 65536 ≡ n + 1 → with_answer (status_datagram number n al) ((adp_of d + 1) % 65536 + 65536 * ado_of d) al2 1 ≡ status_datagram number (n + 1) al2
    answer d al2 ado adp wraps = rw (ado, adp, wraps) refl

-- the AL word of a cyclic frame after one more slave
pub word_on : (s : SlaveState) (number k n : ℕ) (al : List ℕ) (rest : List Datagram) (w : ℕ) → length al ≡ 2 → n < 64 → al ≡ w ∷ 0 ∷ []
    → BringsWord (passes s (name_datagram number k ∷ status_datagram number n al ∷ rest)).datagrams (bit_or w (status_word s.al))
word_on s number k n al rest w two few is =
    let st = status_meets s number n al two few in
    let name = name_datagram number k in
    let status = status_datagram number n al in
    let status2 = status_datagram number (n + 1) st.al2 in
    let whole : passes s (name ∷ status ∷ rest) ≡ record { slave = (passes s rest).slave; datagrams = name ∷ status2 ∷ (passes s rest).datagrams }
    = passes_first s s name name (status ∷ rest) (nop_meets s number k)
    ∙ ap (λ (x : Passed). record { slave = x.slave; datagrams = name ∷ x.datagrams }) (passes_first s s status status2 rest st.is) in
    ap (λ (x : Passed). bytes_at x.datagrams 1) whole ∙ st.joined w is

-- a frame brings this AL word
abbrev pub FrameBrings : List ℕ → ℕ → Type 0
FrameBrings bytes w = (p : Payload) → IsFrame bytes p → BringsWord p.datagrams w

pub frame_word : (plan : PlanState) (f : PlainFrame) (s : SlaveState) (bytes bytes2 : List ℕ) → length f.notes < 64 → FrameRefines plan f bytes
    → ((p : Payload) → IsFrame bytes p → IsFrame bytes2 (with_datagrams p (passes s p.datagrams).datagrams)) → (w : ℕ) → FrameBrings bytes w → FrameBrings bytes2 (bit_or w (status_word s.al))
frame_word plan f s bytes bytes2 few shows passed w says p2 e =
    let p = shows.payload in
    let d = shows.shows in
    let al : d.al ≡ w ∷ 0 ∷ [] = ap (λ (xs : List Datagram). bytes_at xs 1) (sym d.is) ∙ says p shows.spelled in
    let on : BringsWord (passes s p.datagrams).datagrams (bit_or w (status_word s.al))
    = subst (λ (xs : List Datagram). BringsWord (passes s xs).datagrams (bit_or w (status_word s.al))) (sym d.is)
    (word_on s f.number f.part (length f.notes) d.al (process_datagrams (part_at plan.parts f.part) f.number d.sent d.returned d.gave) w d.al_word few al) in
    subst (λ (y : Payload). BringsWord y.datagrams (bit_or w (status_word s.al))) (one_payload bytes2 (with_datagrams p (passes s p.datagrams).datagrams) p2 (passed p shows.spelled) e) on

-- the datagrams of a cyclic frame after one more slave
pub record DatagramsPassed (plan : PlanState) (f : PlainFrame) (q : PlainSlave) (s : SlaveState) (ds : List Datagram) (after : Passed) : Type 0 where
  pub slave : after.slave ≡ slave_left (meaning plan) (length f.notes) f q s
  pub shows : DatagramsRefine plan (with_note f (met_note (meaning plan) (length f.notes) f q)) after.datagrams
  pub word : (w : ℕ) → BringsWord ds w → BringsWord after.datagrams (bit_or w (status_word s.al))

pub datagrams_pass : (plan : PlanState) (f : PlainFrame) (q : PlainSlave) (s : SlaveState) (ds : List Datagram)
    → IsUsable plan → length f.notes < length plan.slaves → SlaveRefines (length f.notes) (slave_at plan (length f.notes)) s q
    → DatagramsRefine plan f ds → DatagramsPassed plan f q s ds (passes s ds)
datagrams_pass plan f q s ds sound l h shows =
    let m = meaning plan in
    let t = length f.notes in
    let part = part_at plan.parts f.part in
    let n = met_note m t f q in
    let few : length plan.slaves ≤ 64 = sound.few_slaves in
    let many : length m.slaves ≡ length plan.slaves = length-map plan.slaves (λ s. s.share) in
    let st = status_meets s f.number t shows.al shows.al_word (omega arith) in
    let on : ProcessPassed m (area_at plan) (span_of_part plan f.part) part f q s shows.gave (passes s (process_datagrams part f.number shows.sent shows.returned shows.gave))
    = process_pass m (area_at plan) (span_of_part plan) part f q s shows.sent shows.returned shows.gave sound.laid (omega arith) (omega arith) refl shows.process shows.one_datagram (knows plan t f q s sound l h) in
    let more : length (f.notes ++ (n ∷ [])) ≡ t + 1 = length_push f.notes n in
    let gs = shows.gave ++ ((given_in m t f q) ∷ []) in
    let process = process_datagrams part f.number on.sent on.returned gs in
    let name = name_datagram f.number f.part in
    let status = status_datagram f.number t shows.al in
    let status2 = status_datagram f.number (t + 1) st.al2 in
    let first = process_datagrams part f.number shows.sent shows.returned shows.gave in
    let whole : passes s ds ≡ record { slave = (slave_left m t f q s); datagrams = name ∷ status2 ∷ process }
    = ap (passes s) shows.is
    ∙ (passes_first s s name name (status ∷ first) (nop_meets s f.number f.part)
    ∙ (ap (λ (x : Passed). record { slave = x.slave; datagrams = name ∷ x.datagrams }) (passes_first s s status status2 first st.is)
    ∙ ap (λ (x : Passed). record { slave = x.slave; datagrams = name ∷ status2 ∷ x.datagrams }) on.is)) in
    subst (λ (x : Passed). DatagramsPassed plan f q s ds x) (sym whole) (record {
      slave = refl;
      shows = record {
        al = st.al2;
        al_word = st.word;
        sent = on.sent;
        returned = on.returned;
        gave = gs;
        is = ap (λ k. name ∷ status_datagram f.number k st.al2 ∷ process) (sym more);
        one_datagram = on.one_datagram;
        process = on.shows;
        part_there = shows.part_there;
        number_fits = shows.number_fits;
        not_more = omega (arith, more);
      };
      word = λ w e. st.joined w (ap (λ (xs : List Datagram). bytes_at xs 1) (sym shows.is) ∙ e);
    })

-- what a pass owes
pub record FramePassed (plan : PlanState) (f : PlainFrame) (q : PlainSlave) (s s2 : SlaveState) (bytes2 : List ℕ) : Type 0 where
  pub slave : s2 ≡ slave_left (meaning plan) (length f.notes) f q s
  pub shows : SlaveRefines (length f.notes) (slave_at plan (length f.notes)) s2 (met_slave (meaning plan) (length f.notes) f q)
  pub frame : FrameRefines plan (with_note f (met_note (meaning plan) (length f.notes) f q)) bytes2

pub frame_pass : (plan : PlanState) (f : PlainFrame) (q : PlainSlave) (s s2 : SlaveState) (bytes bytes2 : List ℕ)
    → IsUsable plan → length f.notes < length plan.slaves → SlaveRefines (length f.notes) (slave_at plan (length f.notes)) s q
    → FrameRefines plan f bytes → IsPassed s bytes s2 bytes2 → FramePassed plan f q s s2 bytes2
frame_pass plan f q s s2 bytes bytes2 sound l h shows passed =
    let m = meaning plan in
    let t = length f.notes in
    let p = shows.payload in
    let on = datagrams_pass plan f q s p.datagrams sound l h shows.shows in
    let left : s2 ≡ slave_left m t f q s = passed.slave p shows.spelled ∙ on.slave in
    record {
      slave = left;
      shows = subst (λ (x : SlaveState). SlaveRefines t (slave_at plan t) x (met_slave m t f q)) (sym left) (left_shows plan t f q s sound l h);
      frame = record {
        payload = with_datagrams p (passes s p.datagrams).datagrams;
        spelled = passed.frame p shows.spelled;
        shows = on.shows;
      };
    }
