-- The step of a start-up and its place in the script.
use Rattle.std.proofs.Common.{◌≡◌, ℕ, zero, suc, ◌+◌, ◌<◌, ◌≤◌, List, [], ◌∷◌, length, drop, map, get_or, slice_get, Option, Some, None, Bool, true, false, if◌then◌else◌, nat_lt, refl, sym, ap, subst, ◌∙◌, arith}
use Rattle.std.proofs.lemmas.Bool.{lt-ltb, le-ltb}
use Rattle.ec_bits.proofs.AnyLaws.{if_true, if_false}
use Rattle.ec_coe.specs.Objects.{has_some}
use Rattle.ec_frame.specs.Datagram.{Datagram}
use Rattle.ec_frame.specs.Frame.{Payload, IsFrame}
use Rattle.ec_frame.proofs.FrameOrFault.{one_payload}
use Rattle.ec_device.specs.declared.slave_type.Device.{Device}
use Rattle.ec_start.specs.declared.verdict.WantedDevice.{WantedDevice}
use Rattle.ec_link.specs.declared.settings.SlavePlan.{SlavePlan}
use Rattle.ec_start.specs.declared.action.Action.{Action}
use Rattle.ec_start.specs.declared.action.Action.TheVariants.{CountSlaves, AskInit, AwaitInit, ClearFmmus, ClearManagers, ClearStations, NameSlave, AskWord, AwaitWord, SetManager, SetFmmu, AskState, AwaitState, SendRequest, AwaitReply, AwaitFreeReply, AwaitInitState, ClearAllFmmus, ClearAllManagers, AssignSii, ClearSiiError, AwaitCleanInit, FeedPart}
use Rattle.ec_start.specs.declared.action.Feed.{Feed}
use Rattle.ec_start.specs.declared.phase.Phase.{Phase}
use Rattle.ec_start.specs.declared.phase.Phase.TheVariants.{Idle, Sent, Ready, Failed}
use Rattle.ec_start.specs.declared.script.Step.{Step}
use Rattle.ec_start.specs.Actions.{frame_of}
use Rattle.ec_start.specs.Scripts.{is_hardware, script}
use Rattle.ec_start.specs.Verdicts.{verdict}
use Rattle.ec_start.specs.Running.{StartState, is_sent, is_ended, with_identity, step_of, is_fed, feed_or, action_of, type_of, judged, shape, IsStartAnswer, IsStartTaken, second}
use Rattle.ec_start.specs.Ahead.{opening, ahead, IsSettled}
use Rattle.ec_start.specs.Answered.{answered, Answers, IsAnswerIn}
use Rattle.ec_start.specs.Held.{first_step, IsAtStep}
use Rattle.ec_start.proofs.CursorActions.{ahead_here, script_ahead, get_none}

-- ---- lists

get_of_drop : {X : Type 0} (xs : List X) (k : ℕ) (x : X) (ys : List X) (d : X) → drop k xs ≡ x ∷ ys → get_or xs k d ≡ x
get_of_drop [] zero x ys d e = absurd (let f : [] ≡ x ∷ ys = e in cc)
get_of_drop [] (suc k) x ys d e = absurd (let f : [] ≡ x ∷ ys = e in cc)
get_of_drop (z ∷ zs) zero x ys d e = let f : z ∷ zs ≡ x ∷ ys = e in cc
get_of_drop (z ∷ zs) (suc k) x ys d e = get_of_drop zs k x ys d e

slice_of_drop : {X : Type 0} (xs : List X) (k : ℕ) (x : X) (ys : List X) → drop k xs ≡ x ∷ ys → slice_get xs k ≡ Some x
slice_of_drop [] zero x ys e = absurd (let f : [] ≡ x ∷ ys = e in cc)
slice_of_drop [] (suc k) x ys e = absurd (let f : [] ≡ x ∷ ys = e in cc)
slice_of_drop (z ∷ zs) zero x ys e = let f : z ∷ zs ≡ x ∷ ys = e in let g : z ≡ x = cc in ap Some g
slice_of_drop (z ∷ zs) (suc k) x ys e = slice_of_drop zs k x ys e

rest_of_drop : {X : Type 0} (xs : List X) (k : ℕ) (x : X) (ys : List X) → drop k xs ≡ x ∷ ys → drop (k + 1) xs ≡ ys
rest_of_drop [] zero x ys e = absurd (let f : [] ≡ x ∷ ys = e in cc)
rest_of_drop [] (suc k) x ys e = absurd (let f : [] ≡ x ∷ ys = e in cc)
rest_of_drop (z ∷ zs) zero x ys e = let f : z ∷ zs ≡ x ∷ ys = e in cc
rest_of_drop (z ∷ zs) (suc k) x ys e = let n : suc k + 1 ≡ suc (k + 1) = omega arith in rw n (rest_of_drop zs k x ys e)

some_of_drop : {X : Type 0} (xs : List X) (k : ℕ) (x : X) (ys : List X) → drop k xs ≡ x ∷ ys → k < length xs
some_of_drop [] zero x ys e = absurd (let f : [] ≡ x ∷ ys = e in cc)
some_of_drop [] (suc k) x ys e = absurd (let f : [] ≡ x ∷ ys = e in cc)
some_of_drop (z ∷ zs) zero x ys e = omega arith
some_of_drop (z ∷ zs) (suc k) x ys e = let h = some_of_drop zs k x ys e in omega (arith, h)

none_of_drop : {X : Type 0} (xs : List X) (k : ℕ) → drop k xs ≡ [] → length xs ≤ k
none_of_drop [] k e = omega arith
none_of_drop (z ∷ zs) zero e = absurd (let f : z ∷ zs ≡ [] = e in cc)
none_of_drop (z ∷ zs) (suc k) e = let h = none_of_drop zs k e in omega (arith, h)

-- ---- the step

first_here : (b hardware : Bool) → slice_get (opening b hardware) 0 ≡ Some CountSlaves
first_here true hardware = refl
first_here false hardware = refl

pub begins : (ps : List SlavePlan) → IsAtStep ps 0 first_step
begins ps = record { ahead_is = sym (script_ahead ps); here = first_here (has_some ps) (is_hardware ps); doable = tt; low = omega arith; small = omega arith }

stands : (ps : List SlavePlan) (place : ℕ) (s : Step) → IsAtStep ps place s → drop place (script ps) ≡ s.action ∷ ahead ps (record s.cursor { place = s.cursor.place + 1 })
stands ps place s h = sym h.ahead_is ∙ ahead_here ps s.cursor s.action h.here

pub action_is : (ps : List SlavePlan) (place : ℕ) (s : Step) → IsAtStep ps place s → get_or (script ps) place CountSlaves ≡ s.action
action_is ps place s h = get_of_drop (script ps) place s.action _ CountSlaves (stands ps place s h)

pub record Advances (ps : List SlavePlan) (place : ℕ) (s : Step) : Type 0 where
  pub more : nat_lt (place + 1) (length (script ps)) ≡ true
  pub at_step : IsAtStep ps (place + 1) s

pub advances : (ps : List SlavePlan) (place : ℕ) (s t : Step) → IsAtStep ps place s → IsSettled ps (record s.cursor { place = s.cursor.place + 1 }) t → Advances ps place t
advances ps place s t h g =
    let rest : drop (place + 1) (script ps) ≡ ahead ps (record s.cursor { place = s.cursor.place + 1 }) = rest_of_drop (script ps) place s.action _ (stands ps place s h) in
    let there : drop (place + 1) (script ps) ≡ ahead ps t.cursor = rest ∙ g.same in
    let lt = some_of_drop (script ps) (place + 1) t.action _ (there ∙ ahead_here ps t.cursor t.action g.here) in
    let small = h.small in
    let low = g.place in
    record {
      more = lt-ltb (place + 1) (length (script ps)) lt;
      at_step = record { ahead_is = sym there; here = g.here; doable = g.doable; low = g.low; small = omega (arith, small, low) };
    }

pub ends : (ps : List SlavePlan) (place : ℕ) (s : Step) → IsAtStep ps place s → ahead ps (record s.cursor { place = s.cursor.place + 1 }) ≡ [] → nat_lt (place + 1) (length (script ps)) ≡ false
ends ps place s h e =
    let rest : drop (place + 1) (script ps) ≡ ahead ps (record s.cursor { place = s.cursor.place + 1 }) = rest_of_drop (script ps) place s.action _ (stands ps place s h) in
    le-ltb (place + 1) (length (script ps)) (none_of_drop (script ps) (place + 1) (rest ∙ e))

-- ---- a step by its number

pub step_found : (ps qs : List SlavePlan) (place : ℕ) (s : Step) → ps ≡ qs → IsAtStep ps place s → Some s.action ≡ slice_get (script qs) place
step_found ps qs place s e h =
    sym (slice_of_drop (script ps) place s.action _ (stands ps place s h)) ∙ ap (λ (xs : List SlavePlan). slice_get (script xs) place) e

pub step_past : (ps qs : List SlavePlan) (place number : ℕ) (s : Step) → ps ≡ qs → place < number → IsAtStep ps place s
    → ahead ps (record s.cursor { place = s.cursor.place + 1 }) ≡ [] → None ≡ slice_get (script qs) number
step_past ps qs place number s e lt h end =
    let rest : drop (place + 1) (script ps) ≡ ahead ps (record s.cursor { place = s.cursor.place + 1 }) = rest_of_drop (script ps) place s.action _ (stands ps place s h) in
    let few : length (script ps) ≤ place + 1 = none_of_drop (script ps) (place + 1) (rest ∙ end) in
    sym (get_none (script ps) number (omega (arith, few, lt))) ∙ ap (λ (xs : List SlavePlan). slice_get (script xs) number) e

pub sent_runs : (p : Phase) → is_sent p ≡ true → is_ended p ≡ false
sent_runs Idle e = refl
sent_runs (Sent number) e = refl
sent_runs Ready e = absurd (let f : false ≡ true = e in cc)
sent_runs (Failed error) e = absurd (let f : false ≡ true = e in cc)

-- what a read shows, where another action isn't one
pub shown_else : (s : StartState) (a : Action) (value : ℕ) → ((i which : ℕ) → a ≡ AwaitWord i which → ⊥) → with_identity s a value ≡ s.seen
shown_else s CountSlaves value ne = refl
shown_else s AskInit value ne = refl
shown_else s AwaitInit value ne = refl
shown_else s ClearFmmus value ne = refl
shown_else s ClearManagers value ne = refl
shown_else s ClearStations value ne = refl
shown_else s (NameSlave i) value ne = refl
shown_else s (AskWord i which) value ne = refl
shown_else s (AwaitWord i which) value ne = absurd (ne i which refl)
shown_else s (SetManager i k m r) value ne = refl
shown_else s (SetFmmu i k f start) value ne = refl
shown_else s (AskState i state) value ne = refl
shown_else s (AwaitState i state) value ne = refl
shown_else s (SendRequest i before b r) value ne = refl
shown_else s (AwaitReply i b r) value ne = refl
shown_else s (AwaitFreeReply i b r) value ne = refl
shown_else s AwaitInitState value ne = refl
shown_else s ClearAllFmmus value ne = refl
shown_else s ClearAllManagers value ne = refl
shown_else s (AssignSii access) value ne = refl
shown_else s ClearSiiError value ne = refl
shown_else s (AwaitCleanInit i) value ne = refl
shown_else s (FeedPart f) value ne = refl

-- a part that is fed shows nothing, and neither does the step that it is fed for
shown_feed : (s : StartState) (a : Action) (o : Option Feed) (value : ℕ) → is_fed a ≡ true → with_identity s (feed_or o a) value ≡ with_identity s a value
shown_feed s a None value t = refl
shown_feed s (AskState i state) (Some f) value t = refl
shown_feed s (AwaitState i state) (Some f) value t = refl
shown_feed s CountSlaves (Some f) value t = refl
shown_feed s AskInit (Some f) value t = refl
shown_feed s AwaitInit (Some f) value t = refl
shown_feed s ClearFmmus (Some f) value t = refl
shown_feed s ClearManagers (Some f) value t = refl
shown_feed s ClearStations (Some f) value t = refl
shown_feed s (NameSlave i) (Some f) value t = refl
shown_feed s (AskWord i which) (Some f) value t = refl
shown_feed s (AwaitWord i which) (Some f) value t = absurd (let g : false ≡ true = t in cc)
shown_feed s (SetManager i k m r) (Some f) value t = refl
shown_feed s (SetFmmu i k m start) (Some f) value t = refl
shown_feed s (SendRequest i before b r) (Some f) value t = refl
shown_feed s (AwaitReply i b r) (Some f) value t = refl
shown_feed s (AwaitFreeReply i b r) (Some f) value t = refl
shown_feed s AwaitInitState (Some f) value t = refl
shown_feed s ClearAllFmmus (Some f) value t = refl
shown_feed s ClearAllManagers (Some f) value t = refl
shown_feed s (AssignSii access) (Some f) value t = refl
shown_feed s ClearSiiError (Some f) value t = refl
shown_feed s (AwaitCleanInit i) (Some f) value t = refl
shown_feed s (FeedPart g) (Some f) value t = refl

shown_if : (s : StartState) (value : ℕ) (b : Bool) → is_fed (step_of s) ≡ b → with_identity s (if b then feed_or (slice_get s.feeds s.fed) (step_of s) else step_of s) value ≡ with_identity s (step_of s) value
shown_if s value true t = shown_feed s (step_of s) (slice_get s.feeds s.fed) value t
shown_if s value false t = refl

pub shown_fed : (s : StartState) (value : ℕ) → with_identity s (action_of s) value ≡ with_identity s (step_of s) value
shown_fed s value = shown_if s value (is_fed (step_of s)) refl

-- ---- its next frame

-- while a step isn't fed, or no part is left, its next frame is the step's own
pub own_action : (s : StartState) → is_fed (step_of s) ≡ false → action_of s ≡ step_of s
own_action s f = if_false (is_fed (step_of s)) (feed_or (slice_get s.feeds s.fed) (step_of s)) (step_of s) f

pub fed_action : (s : StartState) (o : Option Feed) → is_fed (step_of s) ≡ true → slice_get s.feeds s.fed ≡ o → action_of s ≡ feed_or o (step_of s)
fed_action s o t e = if_true (is_fed (step_of s)) (feed_or (slice_get s.feeds s.fed) (step_of s)) (step_of s) t ∙ ap (λ (x : Option Feed). feed_or x (step_of s)) e

-- ---- what is taken

-- a verdict looks at the counter and the data alone
verdict_of : (n step : ℕ) (s : Device) (types : ℕ → WantedDevice) (a : Action) (d : Datagram) → verdict n step s types a (answered d.counter d.data_bytes) ≡ verdict n step s types a d
verdict_of n step s types CountSlaves d = refl
verdict_of n step s types AskInit d = refl
verdict_of n step s types AwaitInit d = refl
verdict_of n step s types ClearFmmus d = refl
verdict_of n step s types ClearManagers d = refl
verdict_of n step s types ClearStations d = refl
verdict_of n step s types (NameSlave i) d = refl
verdict_of n step s types (AskWord i which) d = refl
verdict_of n step s types (AwaitWord i which) d = refl
verdict_of n step s types (SetManager i k m r) d = refl
verdict_of n step s types (SetFmmu i k f start) d = refl
verdict_of n step s types (AskState i state) d = refl
verdict_of n step s types (AwaitState i state) d = refl
verdict_of n step s types (SendRequest i before b r) d = refl
verdict_of n step s types (AwaitReply i b r) d = refl
verdict_of n step s types (AwaitFreeReply i b r) d = refl
verdict_of n step s types AwaitInitState d = refl
verdict_of n step s types ClearAllFmmus d = refl
verdict_of n step s types ClearAllManagers d = refl
verdict_of n step s types (AssignSii access) d = refl
verdict_of n step s types ClearSiiError d = refl
verdict_of n step s types (AwaitCleanInit i) d = refl
verdict_of n step s types (FeedPart f) d = refl

answer_of : (s : StartState) (a : Action) (number : ℕ) (ds : List Datagram) → action_of s ≡ a → Answers a number ds → IsStartAnswer s number ds
answer_of s a number ds is h = record { shapes = h.shapes ∙ ap (λ (b : Action). map shape (frame_of b number)) (sym is); number_is = h.number_is }

of_answer : (s : StartState) (a : Action) (number : ℕ) (ds : List Datagram) → action_of s ≡ a → IsStartAnswer s number ds → Answers a number ds
of_answer s a number ds is h = record { shapes = h.shapes ∙ ap (λ (b : Action). map shape (frame_of b number)) is; number_is = h.number_is }

pub take_foreign : (s : StartState) (payload : List ℕ) → ((number : ℕ) (p : Payload) → s.phase ≡ Sent number → IsFrame payload p → IsStartAnswer s number p.datagrams → ⊥) → IsStartTaken s payload false s
take_foreign s payload none = record {
  answers = λ number p at f. (λ e. absurd (let g : false ≡ true = e in cc), λ h. absurd (none number p at f h));
  only = λ e. absurd (let g : false ≡ true = e in cc);
  kept = λ p d e f g. absurd (let h : false ≡ true = e in cc);
  foreign = λ e. refl;
}

-- where no frame is outstanding
pub take_idle : (s : StartState) (payload : List ℕ) → ((number : ℕ) → s.phase ≡ Sent number → ⊥) → IsStartTaken s payload false s
take_idle s payload none = take_foreign s payload (λ number p at f h. none number at)

-- where the payload answers another frame, or none
pub take_other : (s : StartState) (payload : List ℕ) (a : Action) (number : ℕ) → s.phase ≡ Sent number → action_of s ≡ a
    → ((p : Payload) → IsFrame payload p → Answers a number p.datagrams → ⊥) → IsStartTaken s payload false s
take_other s payload a number sent is none =
    take_foreign s payload (λ n p at f h.
    let e : Sent n ≡ Sent number = sym at ∙ sent in
    let same : n ≡ number = cc in
    none p f (of_answer s a number p.datagrams is (subst (λ (m : ℕ). IsStartAnswer s m p.datagrams) same h)))

pub take_kept : (s new : StartState) (payload : List ℕ) (a : Action) (number : ℕ) (part : List ℕ) (counter : ℕ) (bytes : List ℕ) (at : IsAnswerIn payload a number part)
    → s.phase ≡ Sent number → action_of s ≡ a → counter ≡ at.datagram.counter → bytes ≡ at.datagram.data_bytes
    → new ≡ judged s (verdict (length s.plan) s.place s.seen (type_of s.plan) a (answered counter bytes)) → IsStartTaken s payload true new
take_kept s new payload a number part counter bytes at sent is count told e =
    let answer : IsStartAnswer s number at.frame.datagrams = answer_of s a number at.frame.datagrams is at.answer in
    record {
      answers = λ n p here f.
          let g : Sent number ≡ Sent n = sym sent ∙ here in
          let same : number ≡ n = cc in
          let one : at.frame ≡ p = one_payload payload at.frame p at.spelled f in
          (λ x. subst (λ (m : ℕ). IsStartAnswer s m p.datagrams) same (subst (λ (q : Payload). IsStartAnswer s number q.datagrams) one answer), λ x. refl);
      only = λ x. record { number = number; frame = at.frame; sent = sent; spelled = at.spelled; answer = answer };
      kept = λ p d x f g.
          let one : p ≡ at.frame = one_payload payload p at.frame f at.spelled in
          let there : Some d ≡ Some at.datagram = sym g ∙ (ap (λ (q : Payload). second q.datagrams) one ∙ ap second at.both) in
          let same : d ≡ at.datagram = cc in
          e
          ∙ (ap (λ (k : ℕ). judged s (verdict (length s.plan) s.place s.seen (type_of s.plan) a (answered k bytes))) count
          ∙ (ap (λ (b : List ℕ). judged s (verdict (length s.plan) s.place s.seen (type_of s.plan) a (answered at.datagram.counter b))) told
          ∙ (ap (judged s) (verdict_of (length s.plan) s.place s.seen (type_of s.plan) a at.datagram)
          ∙ (ap (λ (b : Action). judged s (verdict (length s.plan) s.place s.seen (type_of s.plan) b at.datagram)) (sym is)
          ∙ ap (λ (b : Datagram). judged s (verdict (length s.plan) s.place s.seen (type_of s.plan) (action_of s) b)) (sym same)))));
      foreign = λ x. absurd (let g : true ≡ false = x in cc);
    }
