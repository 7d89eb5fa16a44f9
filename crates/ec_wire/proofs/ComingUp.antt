-- A start-up over a wire that carries each frame past all slaves and back comes up.
use Rattle.std.proofs.Common.{ℕ, suc, ◌+◌, ◌<◌, ◌≤◌, ◌≡◌, ◌≢◌, ◌==◌, ◌&&◌, Bool, true, false, if◌then◌else◌, None, inl, inr, ◌⊎◌, List, [], ◌∷◌, ◌++◌, length, map, slice_index_or, refl, sym, ◌∙◌, ap, subst, arith}
use Rattle.std.proofs.lemmas.Bool.{both_ways, cases_Bool, cases_eq, eq-eqb, ne_eqb}
use Rattle.std.proofs.lemmas.List.{append-nil, append_cancel_left}
use Rattle.ec_bits.proofs.AnyLaws.{if_true, if_false}
use Rattle.ec_frame.proofs.FrameOrFault.{no_refusal}
use Rattle.ec_sync.specs.SyncManager.{may_app_get, may_app_put}
use Rattle.ec_slave.specs.State.{SlaveState, manager_at}
use Rattle.ec_slave.specs.Application.{get_size, put_size, is_running}
use Rattle.ec_slave.specs.Serving.{served}
use Rattle.ec_link.specs.declared.settings.SlavePlan.{SlavePlan}
use Rattle.ec_start.specs.declared.phase.NextFrame.{NextFrame}
use Rattle.ec_start.specs.declared.phase.NextFrame.TheVariants.{Send, Waiting, Ended}
use Rattle.ec_start.specs.declared.phase.Phase.TheVariants.{Ready}
use Rattle.ec_start.specs.declared.action.Feed.{Feed}
use Rattle.ec_start.specs.Running.{StartState, IsStartTaken, asked, asked_by, begun, last_number, next_frame, next_frame_by, sending}
use Rattle.ec_bringup.specs.Undisturbed.{Rising, turned, ArePlansWith, AreDevices}
use Rattle.ec_bringup.specs.BringUp.{rising}
use Rattle.ec_bringup.specs.ComesUp.{AllAgree, IsOnItsWay, IsUpAndWorks}
use Rattle.ec_bringup.specs.Counting.{frames_up}
use Rattle.ec_bringup.specs.Applied.{Applied, Rests as Idles, Reads, Writes, AreApplied, TurnsTo, Stays}
use Rattle.ec_bringup.proofs.AllSlaves.Applications.{turns-on}
use Rattle.ec_bringup.proofs.StartUp.BringUp.{is-sending, turn-kept, turn-made}
use Rattle.ec_bringup.proofs.StartUp.ComesUpLaw.{applied_up}
use Rattle.ec_wire.specs.Wires.{Carries, Nothing, Number, Payloads, Trace, WireState, grown, is_fault, has_payloads}
use Rattle.ec_wire.specs.Applications.{IsServed, AreServed, has_data, inputs_written, outputs_read}
use Rattle.ec_wire.specs.Segments.{IsAnswer, IsTreated, AreTreated}
use Rattle.ec_wire.specs.BringingUp.{IsBroughtUp, IsNextFrame, Rests, Waits, Loses, Goes}
use Rattle.ec_wire.specs.ComingUp.{AnyInputs, ComesUpOver}
use Rattle.ec_wire.proofs.WireCalls.{carries-none, carries-then, fault-from, fine-same}

-- ---- applications

runs-by : (s : SlaveState) (n : ℕ) (b : Bool) → (if is_running s.al.state && b then n else 0) ≢ 0 → is_running s.al.state ≡ true
runs-by s n b ne = elim (cases_Bool (is_running s.al.state)) [
  | inl y ↦ y
  | inr off ↦ absurd (ne (if_false (is_running s.al.state && b) n 0 (ap (λ (x : Bool). x && b) off)))
]

written-applied : (s : SlaveState) (inputs : List ℕ) → Applied s (inputs_written s inputs)
written-applied s inputs = elim (cases_eq (put_size s) 0) [
  | inl z ↦ subst (Applied s) (sym (if_true (put_size s == 0) s _ (eq-eqb (put_size s) 0 z))) (Idles s)
  | inr ne ↦ subst (Applied s) (sym (if_false (put_size s == 0) s _ (ne_eqb (put_size s) 0 ne)))
      (Writes s _ _ (runs-by s (manager_at s.managers 3).settings.length (may_app_put (manager_at s.managers 3)) ne) (Idles _))
]

read-applied : (s t : SlaveState) → Applied (outputs_read s) t → Applied s t
read-applied s t h = elim (cases_eq (get_size s) 0) [
  | inl z ↦ subst (λ (x : SlaveState). Applied x t) (if_true (get_size s == 0) s _ (eq-eqb (get_size s) 0 z)) h
  | inr ne ↦ Reads s t None (runs-by s (manager_at s.managers 2).settings.length (may_app_get (manager_at s.managers 2)) ne)
      (subst (λ (x : SlaveState). Applied x t) (if_false (get_size s == 0) s _ (ne_eqb (get_size s) 0 ne)) h)
]

served-applied : (s t : SlaveState) → IsServed AnyInputs s t → Applied (served s) t
served-applied s t h = elim (cases_Bool (has_data (served s))) [
  | inr off ↦ subst (Applied (served s)) (sym (h.idle off)) (Idles (served s))
  | inl y ↦
      let k = h.works y in
      subst (Applied (served s)) (sym k.slave) (read-applied (served s) _ (written-applied (outputs_read (served s)) k.inputs))
]

all-applied : (ss ts : List SlaveState) → AreServed AnyInputs ss ts → AreApplied (map served ss) ts
all-applied [] [] h = tt
all-applied [] (t ∷ ts) h = absurd (let c = h.count in omega (arith, c))
all-applied (s ∷ ss) [] h = absurd (let c = h.count in omega (arith, c))
all-applied (s ∷ ss) (t ∷ ts) h = (
  served-applied s t (h.each 0 s t refl refl),
  all-applied ss ts (record { count = let c = h.count in omega (arith, c); each = λ i x y e f. h.each (suc i) x y e f }),
)

-- ---- what was carried

same-payloads : (xs ys : List (List ℕ)) → Payloads xs ≡ Payloads ys → xs ≡ ys
same-payloads xs ys e = cc

went-so : (old new : Trace) (xs ys : List (List ℕ)) → has_payloads old ≡ true → new ≡ grown old xs → new ≡ grown old ys → xs ≡ ys
went-so Nothing new xs ys told g h = absurd (both_ways false refl told)
went-so (Number n) new xs ys told g h = absurd (both_ways false refl told)
went-so (Payloads zs) new xs ys told g h = append_cancel_left zs xs ys (same-payloads (zs ++ xs) (zs ++ ys) (sym g ∙ h))

tells-by : (old : Trace) (xs : List (List ℕ)) → has_payloads old ≡ true → has_payloads (grown old xs) ≡ true
tells-by Nothing xs told = told
tells-by (Number n) xs told = told
tells-by (Payloads zs) xs told = refl

still-told : (old new : Trace) (xs : List (List ℕ)) → has_payloads old ≡ true → new ≡ grown old xs → has_payloads new ≡ true
still-told old new xs told g = ap has_payloads g ∙ tells-by old xs told

pub record HasCarried (w x : WireState) : Type 0 where
  pub sent : List (List ℕ)
  pub received : List (List ℕ)
  pub carried : Carries w x sent received

has-carried : (s e : StartState) (w x : WireState) → IsBroughtUp s w e x → HasCarried w x
has-carried _ _ _ _ (Rests s w f) = record { sent = []; received = []; carried = carries-none w }
has-carried _ _ _ _ (Waits s w f) = record { sent = []; received = []; carried = carries-none w }
has-carried _ _ _ _ (Loses s w v frame f n u) = record { sent = u.frames; received = u.foreign; carried = u.carried }
has-carried _ _ _ _ (Goes s t e w v x k up) =
    let r = has-carried t e v x up in
    let a = k.answered in
    record {
      sent = (k.frame ∷ []) ++ r.sent;
      received = (a.foreign ++ a.answer ∷ []) ++ r.received;
      carried = carries-then w v x (k.frame ∷ []) (a.foreign ++ a.answer ∷ []) r.sent r.received a.carried r.carried;
    }

-- ---- what comes next

sends-on : (number : ℕ) (r : Rising) → IsOnItsWay number r → number < last_number → next_frame r.start ≡ Send
sends-on number r h l =
    let e = h.next_number in
    ap (next_frame_by r.start) h.idle ∙ if_false _ _ _ (ne_eqb r.start.next last_number (λ z. omega (arith, e, l, z)))

rests-on : (s : StartState) → s.phase ≡ Ready → next_frame s ≡ Ended
rests-on s e = ap (next_frame_by s) e

send-ended : (x : NextFrame) → x ≡ Send → x ≡ Ended → ⊥
send-ended x e f = let g : Send ≡ Ended = sym e ∙ f in cc

send-waiting : (x : NextFrame) → x ≡ Send → x ≡ Waiting → ⊥
send-waiting x e f = let g : Send ≡ Waiting = sym e ∙ f in cc

ended-waiting : (x : NextFrame) → x ≡ Ended → x ≡ Waiting → ⊥
ended-waiting x e f = let g : Ended ≡ Waiting = sym e ∙ f in cc

-- ---- one payload

-- a frame has one answer, and no other payload has two
one-answer : (ss mid : List SlaveState) (frame : List ℕ) (first : List (List ℕ)) → IsTreated AnyInputs ss frame mid first → length first ≤ 1
one-answer ss mid frame first (inl (answer, e, h)) = let n : length first ≡ 1 = ap length e in omega (arith, n)
one-answer ss mid frame first (inr (refused, same, e)) = let n : length first ≡ 0 = ap length e in omega (arith, n)

few-answers : (ss tt : List SlaveState) (frame : List ℕ) (received : List (List ℕ)) → AreTreated AnyInputs ss (frame ∷ []) tt received → length received ≤ 1
few-answers ss tt frame received (mid, first, rest, treated, more, e) =
    let n = one-answer ss mid frame first treated in
    let q : received ≡ first = e ∙ (ap (λ (l : List (List ℕ)). first ++ l) more.1 ∙ append-nil first) in
    let m : length received ≡ length first = ap length q in
    omega (arith, n, m)

pub record IsAnsweredAt (ss mid : List SlaveState) (frame : List ℕ) (first : List (List ℕ)) : Type 0 where
  pub answer : List ℕ
  pub only : first ≡ answer ∷ []
  pub is : IsAnswer AnyInputs ss frame mid answer

answered-at : (s : StartState) (ss mid : List SlaveState) (frame : List ℕ) (first : List (List ℕ)) → IsNextFrame s frame → IsTreated AnyInputs ss frame mid first → IsAnsweredAt ss mid frame first
answered-at s ss mid frame first spelled (inl (answer, e, h)) = record { answer = answer; only = e; is = h }
answered-at s ss mid frame first spelled (inr (refused, same, e)) = absurd (no_refusal frame _ refused.0 spelled refused.1)

head-is : (p q : List ℕ) (ps qs : List (List ℕ)) → p ∷ ps ≡ q ∷ qs → p ≡ q
head-is p q ps qs e = cc

tail-is : (p q : List ℕ) (ps qs : List (List ℕ)) → p ∷ ps ≡ q ∷ qs → ps ≡ qs
tail-is p q ps qs e = cc

-- what one turn leads to
pub record HasTurned (s t : StartState) (ss mid : List SlaveState) (answered rest more : List (List ℕ)) : Type 0 where
  pub start : t ≡ (turned (rising s ss)).start
  pub applied : AreApplied (turned (rising s ss)).slaves mid
  pub behind : rest ≡ more

-- what is received for a frame is its answer, and nothing before it
by-answer : (s t : StartState) (ss mid : List SlaveState) (frame answer a : List ℕ) (foreign rest more : List (List ℕ)) → next_frame s ≡ Send → IsNextFrame s frame → IsAnswer AnyInputs ss frame mid a
    → ((k : ℕ) (d : List ℕ) → k < length foreign → IsStartTaken (asked s) (slice_index_or foreign k d) false (asked s)) → IsStartTaken (asked s) answer true t
    → (foreign ++ answer ∷ []) ++ rest ≡ a ∷ more → HasTurned s t ss mid (answer ∷ []) rest more
by-answer s t ss mid frame answer a [] rest more sends spelled h strange took e =
    let state : asked s ≡ sending s = (is-sending s sends).state in
    let same : answer ≡ a = head-is answer a rest more e in
    let kept : IsStartTaken (sending s) a true t = subst (λ (p : List ℕ). IsStartTaken (sending s) p true t) same (subst (λ (x : StartState). IsStartTaken x answer true t) state took) in
    let made : rising t (map served h.passed) ≡ turned (rising s ss) = turn-made s t ss h.passed frame a true spelled h.ring kept in
    record {
      start = ap (λ (r : Rising). r.start) made;
      applied = subst (λ (r : Rising). AreApplied r.slaves mid) made (all-applied h.passed mid h.served);
      behind = tail-is answer a rest more e;
    }
by-answer s t ss mid frame answer a (p ∷ ps) rest more sends spelled h strange took e =
    let state : asked s ≡ sending s = (is-sending s sends).state in
    let same : p ≡ a = head-is p a ((ps ++ answer ∷ []) ++ rest) more e in
    let first : IsStartTaken (asked s) p false (asked s) = strange 0 [] (omega arith) in
    let foreign : IsStartTaken (sending s) a false (asked s) = subst (λ (x : List ℕ). IsStartTaken (sending s) x false (asked s)) same (subst (λ (x : StartState). IsStartTaken x p false (asked s)) state first) in
    absurd (both_ways false refl (turn-kept s (asked s) ss h.passed frame a false spelled h.ring foreign))

-- ---- all of them

-- from the k-th turn on
abbrev FromHere : (ps : List SlavePlan) (fs : List Feed) (from : ℕ) (first : List SlaveState) → (s e : StartState) (w x : WireState) → Type 0
FromHere ps fs from first s e w x =
    (k : ℕ) (ss tt : List SlaveState) (sent received : List (List ℕ)) → k ≤ frames_up ps fs first → TurnsTo k (rising (begun ps fs from) first) (rising s ss)
    → has_payloads w.sent ≡ true → has_payloads w.received ≡ true → is_fault w x ≡ false → Carries w x sent received → AreTreated AnyInputs ss sent tt received → IsUpAndWorks ps (from + frames_up ps fs first) (rising e tt)

-- a start-up that sends no frame has made all turns
rests-up : (ps : List SlavePlan) (fs : List Feed) (first : List SlaveState) (from k : ℕ) (s e : StartState) (w : WireState) (ss tt : List SlaveState) (sent received : List (List ℕ)) → (k ≡ frames_up ps fs first → IsUpAndWorks ps (from + k) (rising s ss))
    → k ≡ frames_up ps fs first → e ≡ s → has_payloads w.sent ≡ true → Carries w w sent received → AreTreated AnyInputs ss sent tt received → IsUpAndWorks ps (from + frames_up ps fs first) (rising e tt)
rests-up ps fs first from k s e w ss tt sent received up last same told carried treated =
    let none : sent ≡ [] = went-so w.sent w.sent sent [] told carried.sends (carries-none w).sends in
    let h : AreTreated AnyInputs ss [] tt received = subst (λ (l : List (List ℕ)). AreTreated AnyInputs ss l tt received) none treated in
    subst (λ (l : List SlaveState). IsUpAndWorks ps (from + frames_up ps fs first) (rising e l)) (sym h.0)
    (subst (λ (x : StartState). IsUpAndWorks ps (from + frames_up ps fs first) (rising x ss)) (sym same)
    (subst (λ (n : ℕ). IsUpAndWorks ps (from + n) (rising s ss)) last (up last)))

-- how far it is
next-at : (ps : List SlavePlan) (fs : List Feed) (first : List SlaveState) (from k : ℕ) (s : StartState) (ss : List SlaveState) → k ≤ frames_up ps fs first → from + frames_up ps fs first ≤ last_number
    → (k < frames_up ps fs first → IsOnItsWay (from + k) (rising s ss)) → (k ≡ frames_up ps fs first → IsUpAndWorks ps (from + k) (rising s ss))
    → ((k < frames_up ps fs first) × (next_frame s ≡ Send)) ⊎ ((k ≡ frames_up ps fs first) × (s.phase ≡ Ready))
next-at ps fs first from k s ss most few way up = elim (cases_eq k (frames_up ps fs first)) [
  | inl e ↦ inr (e, (up e).ready)
  | inr ne ↦
      let l : k < frames_up ps fs first = omega (arith, most, ne) in
      inl (l, sends-on (from + k) (rising s ss) (way l) (omega (arith, l, few)))
]

pub comes-up-over : (ps : List SlavePlan) (fs : List Feed) → ArePlansWith ps fs → AllAgree ps → (from : ℕ) (first : List SlaveState) → AreDevices ps first → from + frames_up ps fs first ≤ last_number
    → (s e : StartState) (w x : WireState) → IsBroughtUp s w e x → FromHere ps fs from first s e w x
comes-up-over ps fs plans agree from first devices few s e w x (Rests _ _ f) k ss tt sent received most turns told_sent told_received fine carried treated =
    let law = applied_up ps fs plans agree from first devices k (rising s ss) turns in
    elim (next-at ps fs first from k s ss most few law.0 law.1) [
      | inl n ↦ absurd (send-ended (next_frame s) n.1 f)
      | inr n ↦ rests-up ps fs first from k s (asked s) w ss tt sent received law.1 n.0 (ap (asked_by s) n.1) told_sent carried treated
    ]
comes-up-over ps fs plans agree from first devices few s e w x (Waits _ _ f) k ss tt sent received most turns told_sent told_received fine carried treated =
    let law = applied_up ps fs plans agree from first devices k (rising s ss) turns in
    absurd (elim (next-at ps fs first from k s ss most few law.0 law.1) [
      | inl n ↦ send-waiting (next_frame s) n.1 f
      | inr n ↦ ended-waiting (next_frame s) (rests-on s n.1) f
    ])
comes-up-over ps fs plans agree from first devices few s e w x (Loses _ _ _ frame f spelled u) k ss tt sent received most turns told_sent told_received fine carried treated =
    let got : received ≡ u.foreign = went-so w.received x.received received u.foreign told_received carried.receives u.carried.receives in
    let went : sent ≡ u.frames = went-so w.sent x.sent sent u.frames told_sent carried.sends u.carried.sends in
    let size : length received ≡ length u.foreign = ap length got in
    absurd (elim u.lost [
      | inl fault ↦ both_ways (is_fault w x) fine fault
      | inr long ↦ elim u.is_sent [
        | inl none ↦ (let z : length u.foreign ≡ 0 = ap length none.1 in omega (arith, z, long))
        | inr one ↦
            (let n : length received ≤ 1 = few-answers ss tt frame received (subst (λ (l : List (List ℕ)). AreTreated AnyInputs ss l tt received) (went ∙ one) treated) in
            omega (arith, n, size, long))
      ]
    ])
comes-up-over ps fs plans agree from first devices few s e w x (Goes _ t _ _ v _ turn up) k ss tt sent received most turns told_sent told_received fine carried treated =
    let law = applied_up ps fs plans agree from first devices k (rising s ss) turns in
    let a = turn.answered in
    let r = has-carried t e v x up in
    let all = carries-then w v x (turn.frame ∷ []) (a.foreign ++ a.answer ∷ []) r.sent r.received a.carried r.carried in
    let went : sent ≡ turn.frame ∷ r.sent = went-so w.sent x.sent sent (turn.frame ∷ r.sent) told_sent carried.sends all.sends in
    let got : received ≡ (a.foreign ++ a.answer ∷ []) ++ r.received = went-so w.received x.received received ((a.foreign ++ a.answer ∷ []) ++ r.received) told_received carried.receives all.receives in
    let h : AreTreated AnyInputs ss (turn.frame ∷ r.sent) tt received = subst (λ (l : List (List ℕ)). AreTreated AnyInputs ss l tt received) went treated in
    let one = answered-at s ss h.0 turn.frame h.1 turn.is_next h.3 in
    let split : (a.foreign ++ a.answer ∷ []) ++ r.received ≡ one.answer ∷ h.2 = sym got ∙ (h.5 ∙ ap (λ (l : List (List ℕ)). l ++ h.2) one.only) in
    let made = by-answer s t ss h.0 turn.frame a.answer one.answer a.foreign r.received h.2 turn.sends turn.is_next one.is a.strange a.kept split in
    let there : k < frames_up ps fs first = elim (next-at ps fs first from k s ss most few law.0 law.1) [
      | inl n ↦ n.0
      | inr n ↦ absurd (send-ended (next_frame s) turn.sends (rests-on s n.1))
    ] in
    let stays : v.failed ≡ w.failed = (let p = a.carried.faults in let q = r.carried.faults in let z = fine-same w x fine carried.faults in omega (arith, p, q, z)) in
    comes-up-over ps fs plans agree from first devices few t e v x up (suc k) h.0 tt r.sent r.received there
    (subst (λ (y : StartState). TurnsTo (suc k) (rising (begun ps fs from) first) (rising y h.0)) (sym made.start) (turns-on k (rising (begun ps fs from) first) (rising s ss) h.0 turns made.applied))
    (still-told w.sent v.sent (turn.frame ∷ []) told_sent a.carried.sends)
    (still-told w.received v.received (a.foreign ++ a.answer ∷ []) told_received a.carried.receives)
    (fault-from w v x stays ∙ fine) r.carried
    (subst (λ (l : List (List ℕ)). AreTreated AnyInputs h.0 r.sent tt l) (sym made.behind) h.4)

-- A new start-up comes up.
pub comes_up_over : (s e : StartState) (w x : WireState) → IsBroughtUp s w e x → ComesUpOver s e w x
comes_up_over s e w x up ps fs from before after plans agree new devices few past =
    comes-up-over ps fs plans agree from before devices few s e w x up 0 before after past.sent past.received (omega arith)
    (subst (λ (y : StartState). TurnsTo 0 (rising (begun ps fs from) before) (rising y before)) (sym new) (Stays (rising (begun ps fs from) before)))
    past.sent_is_known past.received_is_known past.fine past.carried past.treated
