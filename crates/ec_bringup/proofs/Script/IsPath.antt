-- From one frame to the next, and from the first to the last: an undisturbed start-up goes on as its script says.
use Rattle.ec_bringup.proofs.Words.{ℕ, zero, suc, ◌+◌, ◌^◌, ◌*◌, ◌<◌, ◌≤◌, ◌≡◌, ◌≢◌, true, false, refl, sym, ◌∙◌, ap, subst, inl, inr, ◌⊎◌, arith, List, [], ◌∷◌, length, map, drop, get_or, slice_get, nat_lt, Bool, Option, Some, None, is_some, lt-ltb, le-ltb, cases_eq, both_ways, length-map, if_true, if_false, Device, WantedDevice, Hardware, SlaveKind, Datagram, IsDatagram, SlaveState, manager_at, datagram_met, served, SlavePlan, Feed, Action, CountSlaves, AskWord, AwaitWord, AskState, AskInit, ClearStations, AwaitReply, AwaitInit, Verdict, Again, Aside, Heard, max_polls, MayRepeat, steps_slow, polls_more, frames_each, frames_behind, Came, dictionary_of, Fits, ne_eqb, cases_lt, FeedPart, datagram_of, script, named, is_hardware, with_word, verdict, Fed, StartState, step_of, action_of, is_fed, type_of, sending, advanced, with_identity, judged, Idle, Ready, Stage, Up, Config, after, Stands, Stays, IsAssigned, IsSilent, Talks, Talk, Claim, Claims, AreApplied, IsOfKind, AreNamed, MayEnd, all_passed, all_met, Rising, turned, plan_at, planned, rising, TurnsTo, AppliedStays as Stays_on, Turns, State, Op, SdoRequest, IsOnItsWay, settles, has_outputs}
use Rattle.ec_bringup.specs.Fed.{AreFeedsOf, ArePredicted, IsFeedOf}
use Rattle.ec_bringup.proofs.OneFrame.FrameLaw.{take-law}
use Rattle.ec_bringup.proofs.OneFrame.FeedLaw.{feed-sets-out}
use Rattle.ec_bringup.proofs.OneSlave.Dry.{Dry, DryAt}
use Rattle.ec_bringup.proofs.OneSlave.MailboxServed.{stands-served}
use Rattle.ec_bringup.proofs.Mailbox.SendRequest.{IsSendable, datagram-good}
use Rattle.ec_bringup.proofs.Words.{wanted_of, Word}
use Rattle.ec_bringup.proofs.OneFrame.Commands.{IsWord, word_of, Unawaited}
use Rattle.ec_bringup.proofs.OneFrame.Awaits.{Tells, IsTold}
use Rattle.ec_bringup.proofs.Script.Walks.{Walks, walks-lead}
use Rattle.ec_bringup.proofs.Script.FedSteps.{AreFed, Acts, Own, Part, acts, HasAllSet, all-set, fed-ahead}
use Rattle.ec_bringup.proofs.Script.Chained.{Chained}
use Rattle.std.proofs.Math.Nat.{mul-le-mul_right}
use Rattle.ec_bringup.proofs.Script.Polls.{al_asked, IsCounted, own-each, fed-within, counted-one, due-of, on-of, paced-of, counted-next, more-few, behind-more}
use Rattle.ec_bringup.proofs.AllSlaves.Delays.{IsPolled, reached-of}
use Rattle.ec_bringup.proofs.AllSlaves.NextAction.{Prior, Prompted, Suits, Bless, IsPaced, Ready as IsReadyFor, Bears}
use Rattle.ec_bringup.proofs.AllSlaves.FramePasses.{Each, Ahead, After, Still, pass-all, wait-all, spelled-on, IsWanted, IsInside, IsDue, GoesOn, Told, sets-out, comes-back, goes-on}
use Rattle.ec_bringup.proofs.AllSlaves.FedTurns.{IsFedBy, fed-none, fed-applied, Waits, Goes, fed-back}
use Rattle.ec_bringup.proofs.AllSlaves.Applications.{Stood, stood-applied, each-applied, applied-length}

-- behind the last one stands none that asks anything
abbrev pub first_of : List Action → Action
first_of [] = ClearStations
first_of (a ∷ rest) = a

-- ---- the words seen, by the verdict on each action

abbrev pub word_in : Verdict → ℕ
word_in (Word value) = value
word_in _ = 0

abbrev pub seen_by : Device → Action → Verdict → Device
seen_by seen (AwaitWord t which) v = with_word seen which (word_in v)
seen_by seen _ v = seen

tells-more : (t : WantedDevice) (seen : Device) (which value : ℕ) → which < 2 → IsWord t which value → Tells t.device seen which → Tells t.device (with_word seen which value) (suc which)
tells-more t seen zero value l w h = w
tells-more t seen (suc zero) value l w h = (h, w)
tells-more t seen (suc (suc which)) value l w h = absurd (omega (arith, l))

told-next : (types : ℕ → WantedDevice) (seen : Device) (v : Verdict) (hw : Bool) (n : ℕ) (a b : Action) → IsInside hw n b → Prompted a b → IsWanted types a v → Told types seen a → Told types (seen_by seen a v) b
told-next types seen v hw n a (AskWord t (suc which)) i p w h =
    let is : IsTold (types t) which v = subst (λ (x : Action). IsWanted types x v) p w in
    subst (λ (x : Action). Told types (seen_by seen x v) (AskWord t (suc which))) (sym p)
    (subst (λ (x : Verdict). Tells (types t).device (with_word seen which (word_in x)) (suc which)) (sym is.2)
    (tells-more (types t) seen which is.0 (let l = i.1 in omega (arith, l)) is.1 (subst (λ (x : Action). Told types seen x) p h)))
told-next types seen v hw n a (AwaitWord t which) i p w h =
    subst (λ (x : Action). Told types (seen_by seen x v) (AwaitWord t which)) (sym p) (subst (λ (x : Action). Told types seen x) p h)
told-next types seen v hw n a _ i p w h = tt

-- ---- the start-up goes on

judged-wanted : (types : ℕ → WantedDevice) (s : StartState) (a : Action) (v : Verdict) → action_of s ≡ a → IsWanted types a v → judged s v ≡ advanced s (seen_by s.seen a v)
judged-wanted types s (AwaitWord t which) v e w =
    subst (λ (x : Verdict). judged s x ≡ advanced s (seen_by s.seen (AwaitWord t which) x)) (sym w.2) (ap (λ (x : Action). advanced s (with_identity s x w.0)) e)
judged-wanted types s _ v e w = ap (judged s) w

-- what one poll more leaves
pub record IsPolledOn (s t : StartState) : Type 0 where
  pub plan : t.plan ≡ s.plan
  pub feeds : t.feeds ≡ s.feeds
  pub place : t.place ≡ s.place
  pub seen : t.seen ≡ s.seen
  pub numbers : t.next ≡ s.next
  pub fed : t.fed ≡ 0
  pub polls : t.polls ≡ s.polls + 1
  pub phase : t.phase ≡ Idle

judged-on : (s : StartState) (v : Verdict) → s.polls + 1 ≢ max_polls → (v ≡ Again) ⊎ ((heard : Heard) × (v ≡ Aside heard)) → IsPolledOn s (judged s v)
judged-on s v few (inl e) =
    subst (λ (x : Verdict). IsPolledOn s (judged s x)) (sym e) (subst (IsPolledOn s) (sym (if_false _ _ _ (ne_eqb (s.polls + 1) max_polls few)))
    (record { plan = refl; feeds = refl; place = refl; seen = refl; numbers = refl; fed = refl; polls = refl; phase = refl }))
judged-on s v few (inr (heard, e)) =
    subst (λ (x : Verdict). IsPolledOn s (judged s x)) (sym e) (subst (IsPolledOn s) (sym (if_false _ _ _ (ne_eqb (s.polls + 1) max_polls few)))
    (record { plan = refl; feeds = refl; place = refl; seen = refl; numbers = refl; fed = refl; polls = refl; phase = refl }))

-- and it is tried again
repeats-by : (n step : ℕ) (seen : Device) (ps : List SlavePlan) (a : Action) (d : Datagram) → (verdict n step seen (type_of ps) a d ≡ Again) ⊎ ((heard : Heard) × (verdict n step seen (type_of ps) a d ≡ Aside heard)) → MayRepeat a d
repeats-by n step seen ps a d (inl e) = (take-law n step seen ps a d).2 e
repeats-by n step seen ps a d (inr (heard, e)) = (take-law n step seen ps a d).3 heard e

-- a verdict that is wanted ends the action
ends-by : (n step : ℕ) (seen : Device) (ps : List SlavePlan) (a : Action) (d : Datagram) → IsWanted (type_of ps) a (verdict n step seen (type_of ps) a d) → MayEnd a d
ends-by n step seen ps a d e = by a e
  where
    by : (x : Action) → IsWanted (type_of ps) x (verdict n step seen (type_of ps) a d) → MayEnd a d
    by (AwaitWord t which) q = (take-law n step seen ps a d).1 q.0 q.2
    by _ q = (take-law n step seen ps a d).0 q

-- ---- places in the script

abbrev get_action : List Action → ℕ → Action
get_action xs k = get_or xs k CountSlaves

pub record SplitAt (xs : List Action) (k : ℕ) (a : Action) (rest : List Action) : Type 0 where
  pub here : get_action xs k ≡ a
  pub on : drop (k + 1) xs ≡ rest
  pub size : k + 1 + length rest ≡ length xs

pub split-at : (xs : List Action) (k : ℕ) (a : Action) (rest : List Action) → drop k xs ≡ a ∷ rest → SplitAt xs k a rest
split-at [] zero a rest e = absurd (cc e)
split-at [] (suc k) a rest e = absurd (cc e)
split-at (x ∷ xs) zero a rest e = record {
  here = ap (λ (l : List Action). get_action l 0) e;
  on = ap (drop 1) e;
  size = let q : suc (length xs) ≡ suc (length rest) = ap length e in omega (arith, q);
}
split-at (x ∷ xs) (suc k) a rest e =
    let r = split-at xs k a rest e in
    let z : suc k + 1 ≡ suc (k + 1) = omega arith in
    let size = r.size in
    record { here = r.here; on = ap (λ (n : ℕ). drop n (x ∷ xs)) z ∙ r.on; size = omega (arith, size) }

-- ---- slaves by their places

each-served : (P Q : ℕ → SlaveState → Type 0) (j n : ℕ) (ss : List SlaveState) → j + length ss ≤ n → ((i : ℕ) (s : SlaveState) → i < n → P i s → Q i (served s)) → Each P j ss → Each Q j (map served ss)
each-served P Q j n [] l f h = tt
each-served P Q j n (s ∷ ss) l f h = (f j s (omega (arith, l)) h.0, each-served P Q (j + 1) n ss (omega (arith, l)) f h.1)

pub each-bound : (P Q : ℕ → SlaveState → Type 0) (j n : ℕ) (ss : List SlaveState) → j + length ss ≤ n → ((i : ℕ) (s : SlaveState) → i < n → P i s → Q i s) → Each P j ss → Each Q j ss
each-bound P Q j n [] l f h = tt
each-bound P Q j n (s ∷ ss) l f h = (f j s (omega (arith, l)) h.0, each-bound P Q (j + 1) n ss (omega (arith, l)) f h.1)

all-met-length : (ss : List SlaveState) (d : Datagram) → length (all_met ss d) ≡ length ss
all-met-length [] d = refl
all-met-length (s ∷ ss) d = ap (λ (k : ℕ). suc k) (all-met-length ss (datagram_met s d))

-- ---- one frame

-- the plan, as far as it matters to the walk
pub record IsPath (ps : List SlavePlan) (fs : List Feed) (ends : ℕ → Config) : Type 0 where
  pub some : 0 < length ps
  pub few : length ps ≤ 64
  pub types : (t : ℕ) → t < length ps → type_of ps t ≡ wanted_of (plan_at ps t).kind
  pub big : (t which : ℕ) → t < length ps → word_of (type_of ps t).device which < 2 ^ 32
  -- no device lets a request wait for more than 100 steps
  pub slow : (i : ℕ) → steps_slow (plan_at ps i).kind.hardware ≤ 100
  pub alike : (i : ℕ) → i < length ps → is_some (plan_at ps i).kind.hardware ≡ is_hardware ps
  pub feeds : AreFeedsOf ps fs
  pub predicted : ArePredicted ps fs
  -- what the script leaves in each slave
  pub sets : (i : ℕ) → i < length ps → ((ends i).managers ≡ (planned ps i).managers) × ((ends i).fmmus ≡ (planned ps i).fmmus) × ((ends i).rise ≡ Stays Op)
  pub silent : (i : ℕ) → i < length ps → (ends i).talk ≡ None
  -- a slave whose plan has no output bits has no outputs
  pub no_outputs : (i : ℕ) → i < length ps → (s : SlaveState) → IsOfKind (plan_at ps i).kind s → IsAssigned (ends i) s → (plan_at ps i).share.outs ≡ 0 → has_outputs s ≡ false

-- frames of this step so far
abbrev pub here_at : List Feed → Action → Rising → ℕ
here_at fs a r = r.start.polls * frames_each fs a + r.start.fed

-- behind the `n` frames that were sent before it
abbrev pub sent_at : List Feed → ℕ → Action → Rising → ℕ
sent_at fs n a r = n + r.start.polls * frames_each fs a + r.start.fed

-- at the step `a`, behind the step `p`
pub record IsNow (ps : List SlavePlan) (fs : List Feed) (ss : List SlaveState) (kinds : ℕ → SlaveKind) (ends : ℕ → Config) (stages : ℕ → Stage) (n : ℕ) (p a : Action) (rest : List Action) (r : Rising) : Type 0 where
  pub plan_is : r.start.plan ≡ ps
  pub feeds_are : r.start.feeds ≡ fs
  pub fed_few : r.start.fed ≤ length fs
  pub fed_none : is_fed a ≡ false → r.start.fed ≡ 0
  pub polls_few : r.start.polls ≤ polls_more ps fs ss n p a
  pub counted : IsCounted a n
  pub idle : r.start.phase ≡ Idle
  pub ahead : drop r.start.place (script ps) ≡ a ∷ rest
  pub count : length r.slaves ≡ length ps
  pub told : Told (type_of ps) r.start.seen a
  pub inside : IsInside (is_hardware ps) (length ps) a
  pub sendable : IsSendable a
  pub chained : Chained (is_hardware ps) (length ps) a rest
  pub walks : (i : ℕ) → i < length ps → Walks (Bears (kinds i)) i (stages i) (a ∷ rest) (Up (ends i))
  pub named : (i : ℕ) → i < length ps → AreNamed (kinds i) i (a ∷ rest)
  pub each : Each (λ i s. Stood (kinds i) i (stages i) (al_asked ss i) (sent_at fs n a r) (polls_more ps fs ss n p a) (here_at fs a r) a s) 0 r.slaves
  pub fed : Each (λ i s. IsFedBy ps fs r.start.fed i s) 0 r.slaves

-- what the last frame of a step leads to
pub record HasTurned (ps : List SlavePlan) (ss : List SlaveState) (kinds : ℕ → SlaveKind) (stages : ℕ → Stage) (sent next : ℕ) (a : Action) (rest : List Action) (r : Rising) : Type 0 where
  pub said : Verdict
  pub wanted : IsWanted (type_of ps) a said
  pub start : (turned r).start ≡ advanced (sending r.start) (seen_by r.start.seen a said)
  pub each : Each (λ i s. Stood (kinds i) i (after i (stages i) a) (al_asked ss i) (sent + 1) next 0 (first_of rest) s) 0 (turned r).slaves
  pub count : length (turned r).slaves ≡ length ps

-- a frame before it
pub record HasWaited (ps : List SlavePlan) (ss : List SlaveState) (kinds : ℕ → SlaveKind) (stages : ℕ → Stage) (sent more here : ℕ) (a : Action) (r : Rising) : Type 0 where
  pub start : IsPolledOn (sending r.start) (turned r).start
  pub each : Each (λ i s. Stood (kinds i) i (stages i) (al_asked ss i) (sent + 1) more (here + 1) a s) 0 (turned r).slaves
  pub count : length (turned r).slaves ≡ length ps

-- and one that feeds a part
pub record HasFed (ps : List SlavePlan) (fs : List Feed) (ss : List SlaveState) (kinds : ℕ → SlaveKind) (stages : ℕ → Stage) (sent more here : ℕ) (a : Action) (r : Rising) : Type 0 where
  pub start : (turned r).start ≡ record (sending r.start) { fed = r.start.fed + 1; phase = Idle }
  pub each : Each (λ i s. Stood (kinds i) i (stages i) (al_asked ss i) (sent + 1) more (here + 1) a s) 0 (turned r).slaves
  pub fed : Each (λ i s. IsFedBy ps fs (r.start.fed + 1) i s) 0 (turned r).slaves
  pub count : length (turned r).slaves ≡ length ps

chained-first : (hw : Bool) (n : ℕ) (a : Action) (rest : List Action) → Chained hw n a rest → Prompted a (first_of rest)
chained-first hw n a [] h = tt
chained-first hw n a (b ∷ rest) h = h.0

chained-inside : (hw : Bool) (n : ℕ) (a : Action) (rest : List Action) → Chained hw n a rest → IsInside hw n (first_of rest)
chained-inside hw n a [] h = tt
chained-inside hw n a (b ∷ rest) h = h.1

-- only a table without `hardware` awaits INIT without an error, all at once, and replies that nothing comes before
suits-by : (kind : SlaveKind) (hw : Bool) (n : ℕ) (b : Action) → (hw ≡ false → kind.hardware ≡ None) → IsInside hw n b → Suits kind b
suits-by kind hw n AwaitInit plain i = plain i
suits-by kind hw n (AwaitReply t b r) plain i = plain i.1
suits-by kind hw n _ plain i = tt

-- no action of a script but the first counts the slaves
not-first : (a b : Action) → Prompted a b → b ≡ CountSlaves → ⊥
not-first a b p e = subst (λ (x : Action). Prompted a x) e p

fed-not-first : (a : Action) → is_fed a ≡ true → a ≡ CountSlaves → ⊥
fed-not-first a f e = both_ways (is_fed a) (ap is_fed e) f

polled-not-first : (a : Action) (more here : ℕ) → IsPolled a more here → a ≡ CountSlaves → ⊥
polled-not-first a more here p e = subst (λ (x : Action). IsPolled x more here) e p

pub record HasRisen (n : ℕ) (kinds : ℕ → SlaveKind) (ends : ℕ → Config) (number : ℕ) (r : Rising) : Type 0 where
  pub count : length r.slaves ≡ n
  pub ready : r.start.phase ≡ Ready
  pub numbers : r.start.next ≡ number
  pub each : Each (λ i s. Stands (kinds i) i (Up (ends i)) false s) 0 r.slaves

-- no turn is left
no-more : (j : ℕ) (a e : Rising) → j ≡ 0 → TurnsTo j a e → e ≡ a
no-more zero a e z (Stays_on _) = refl
no-more (suc j) a e z t = absurd (omega (arith, z))

-- ---- the parts that are left

got-within : {X : Type 0} (xs : List X) (k : ℕ) (x : X) → slice_get xs k ≡ Some x → k < length xs
got-within [] zero x e = absurd (cc e)
got-within [] (suc k) x e = absurd (cc e)
got-within (y ∷ xs) zero x e = omega arith
got-within (y ∷ xs) (suc k) x e = let h = got-within xs k x e in omega (arith, h)

none-behind : {X : Type 0} (xs : List X) (k : ℕ) → slice_get xs k ≡ None → length xs ≤ k
none-behind [] k e = omega arith
none-behind (y ∷ xs) zero e = absurd (cc e)
none-behind (y ∷ xs) (suc k) e = let h = none-behind xs k e in omega (arith, h)

-- ---- outputs that are awaited

unawaited-by : (o : Option Hardware) (s : SlaveState) → s.kind.hardware ≡ o → Dry s → (is_some o ≡ true → (has_outputs s ≡ false) ⊎ ((manager_at s.managers 2).awaited ≡ false)) → Unawaited o s
unawaited-by None s e d h = tt
unawaited-by (Some w) s e d h = λ safe. elim (h refl) [
  | inl none ↦ d.off w e safe none
  | inr off ↦ off
]

-- two facts of each slave
each-both : (P Q R : ℕ → SlaveState → Type 0) (j n : ℕ) (ss : List SlaveState) → j + length ss ≤ n → ((i : ℕ) (s : SlaveState) → i < n → P i s → Q i s → R i s) → Each P j ss → Each Q j ss → Each R j ss
each-both P Q R j n [] l f h k = tt
each-both P Q R j n (s ∷ ss) l f h k = (f j s (omega (arith, l)) h.0 k.0, each-both P Q R (j + 1) n ss (omega (arith, l)) f h.1 k.1)

-- with nothing fed
pub each-none : (ps : List SlavePlan) (fs : List Feed) (j : ℕ) (ss : List SlaveState) → Each (λ i s. IsFedBy ps fs 0 i s) j ss
each-none ps fs j [] = tt
each-none ps fs j (s ∷ ss) = (fed-none ps fs j s, each-none ps fs (j + 1) ss)

-- a type that says nothing of real devices
bare-of : (o : Option Hardware) → is_some o ≡ false → o ≡ None
bare-of None e = refl
bare-of (Some h) e = absurd (both_ways true e refl)

-- what each slave shows, by equal counts
counts-on : (ps : List SlavePlan) (ss : List SlaveState) (kinds : ℕ → SlaveKind) (stages : ℕ → Stage) (sent now more here on : ℕ) (a : Action) (xs : List SlaveState) → sent ≡ now → here ≡ on
    → Each (λ i s. Stood (kinds i) i (stages i) (al_asked ss i) sent more here a s) 0 xs → Each (λ i s. Stood (kinds i) i (stages i) (al_asked ss i) now more on a s) 0 xs
counts-on ps ss kinds stages sent now more here on a xs e f h =
    subst (λ (m : ℕ). Each (λ i s. Stood (kinds i) i (stages i) (al_asked ss i) m more on a s) 0 xs) e
    (subst (λ (m : ℕ). Each (λ i s. Stood (kinds i) i (stages i) (al_asked ss i) sent more m a s) 0 xs) f h)

-- `ss` are the slaves as the start-up found them
module _ (ps : List SlavePlan) (fs : List Feed) (ss : List SlaveState) (ends : ℕ → Config) (path : IsPath ps fs ends) (as_many : length ss ≡ length ps) where
  abbrev kinds : ℕ → SlaveKind
  kinds i = (plan_at ps i).kind

  abbrev Now : (ℕ → Stage) → ℕ → Action → Action → List Action → Rising → Type 0
  Now stages n p a rest r = IsNow ps fs ss kinds ends stages n p a rest r

  abbrev more_of : ℕ → Action → Action → ℕ
  more_of n p a = polls_more ps fs ss n p a

  -- the frames before the next step
  abbrev next_of : ℕ → Action → Action → ℕ
  next_of n p a = n + (polls_more ps fs ss n p a + 1) * frames_each fs a

  step-is : (stages : ℕ → Stage) (n : ℕ) (p a : Action) (rest : List Action) (r : Rising) → Now stages n p a rest r → step_of r.start ≡ a
  step-is stages n p a rest r h = ap (λ (q : List SlavePlan). get_action (script q) r.start.place) h.plan_is ∙ (split-at (script ps) r.start.place a rest h.ahead).here

  bare-at : (i : ℕ) → i < length ps → is_hardware ps ≡ false → (kinds i).hardware ≡ None
  bare-at i l q = bare-of (plan_at ps i).kind.hardware (path.alike i l ∙ q)

  back-some : (stages : ℕ → Stage) (sent more here : ℕ) (a : Action) (step number : ℕ) (seen : Device) (xs : List SlaveState) → length xs ≡ length ps → IsInside (is_hardware ps) (length ps) a → Told (type_of ps) seen a
      → IsDue kinds (al_asked ss) (length ps) sent more here a → Ahead kinds stages (al_asked ss) sent more here number a 0 xs (datagram_of a number)
      → IsWanted (type_of ps) a (verdict (length ps) step seen (type_of ps) a (all_passed xs (datagram_of a number)))
  back-some stages sent more here a step number seen [] e inside told due h = absurd (omega (arith, path.some, e))
  back-some stages sent more here a step number seen (s ∷ xs) e inside told due h =
      subst (λ (n : ℕ). IsWanted (type_of ps) a (verdict n step seen (type_of ps) a (all_passed (s ∷ xs) (datagram_of a number)))) e
      (comes-back kinds stages (al_asked ss) sent more here number step seen (type_of ps) (is_hardware ps) s xs a (λ t l. path.types t (omega (arith, l, e))) (λ t which l. path.big t which (omega (arith, l, e)))
      (λ q i l. bare-at i (omega (arith, l, e)) q) (subst (λ (n : ℕ). IsInside (is_hardware ps) n a) (sym e) inside) told
      (subst (λ (n : ℕ). IsDue kinds (al_asked ss) n sent more here a) (sym e) due) h)

  wait-some : (stages : ℕ → Stage) (sent more here : ℕ) (a : Action) (step number : ℕ) (seen : Device) (xs : List SlaveState) → length xs ≡ length ps → IsInside (is_hardware ps) (length ps) a
      → GoesOn kinds (al_asked ss) (length ps) sent more here a → Ahead kinds stages (al_asked ss) sent more here number a 0 xs (datagram_of a number)
      → (verdict (length ps) step seen (type_of ps) a (all_passed xs (datagram_of a number)) ≡ Again) ⊎ ((heard : Heard) × (verdict (length ps) step seen (type_of ps) a (all_passed xs (datagram_of a number)) ≡ Aside heard))
  wait-some stages sent more here a step number seen [] e inside on h = absurd (omega (arith, path.some, e))
  wait-some stages sent more here a step number seen (s ∷ xs) e inside on h =
      subst (λ (n : ℕ). (verdict n step seen (type_of ps) a (all_passed (s ∷ xs) (datagram_of a number)) ≡ Again) ⊎ ((heard : Heard) × (verdict n step seen (type_of ps) a (all_passed (s ∷ xs) (datagram_of a number)) ≡ Aside heard))) e
      (goes-on kinds stages (al_asked ss) sent more here number step seen (type_of ps) (is_hardware ps) s xs a (subst (λ (n : ℕ). IsInside (is_hardware ps) n a) (sym e) inside)
      (subst (λ (n : ℕ). GoesOn kinds (al_asked ss) n sent more here a) (sym e) on) h)

  -- ---- what a slave has while steps go on that are fed

  place-in : (stages : ℕ → Stage) (n : ℕ) (p a : Action) (rest : List Action) (r : Rising) → Now stages n p a rest r → r.start.place < length (script ps)
  place-in stages n p a rest r h = let size = (split-at (script ps) r.start.place a rest h.ahead).size in omega (arith, size)

  all-of : (stages : ℕ → Stage) (n : ℕ) (p a : Action) (rest : List Action) (r : Rising) → Now stages n p a rest r → is_fed a ≡ true → (i : ℕ) → i < length ps → HasAllSet (stages i) (ends i)
  all-of stages n p a rest r h t i l =
      let sp = split-at (script ps) r.start.place a rest h.ahead in
      let fed = fed-ahead ps r.start.place (place-in stages n p a rest r h) (ap is_fed sp.here ∙ t) in
      all-set i (stages i) (a ∷ rest) (ends i) (subst (λ (xs : List Action). AreFed xs) h.ahead fed) (walks-lead (Bears (kinds i)) i (stages i) (Up (ends i)) (a ∷ rest) (h.walks i l))

  -- before the frame of a step, all parts were fed: no slave that has outputs waits for them
  ready-of : (stages : ℕ → Stage) (n : ℕ) (p a : Action) (rest : List Action) (r : Rising) → Now stages n p a rest r → (is_fed a ≡ true → r.start.fed ≡ length fs)
      → (i : ℕ) (s : SlaveState) → i < length ps → Stands (kinds i) i (stages i) false s → DryAt (stages i) s → IsFedBy ps fs r.start.fed i s → IsReadyFor (kinds i) i a s
  ready-of stages n p (AskState t to) rest r h all i s l stands dry fed = λ mine op.
      let f : is_fed (AskState t to) ≡ true = subst (λ (x : State). is_fed (AskState t x) ≡ true) (sym op) refl in
      let set : HasAllSet (stages i) (ends i) = all-of stages n p (AskState t to) rest r h f i l in
      let stood : Stands (kinds i) i (Up set.config) false s = subst (λ (x : Stage). Stands (kinds i) i x false s) set.at stands in
      let up = reached-of (kinds i) i (Up set.config) s stood in
      let none : set.config.talk ≡ None = set.set.talk ∙ path.silent i l in
      let silent : IsSilent set.config s = subst (λ (o : Option Talk). Talks i set.config o s) none up.talks in
      let assigned : IsAssigned (ends i) s = record {
        outs = subst (λ (c : Claim). Claims c s.outs) set.set.outs silent.assigned.outs;
        ins = subst (λ (c : Claim). Claims c s.ins) set.set.ins silent.assigned.ins;
        came = subst (λ (rs : List SdoRequest). Came s.kind rs (dictionary_of s)) set.set.done silent.assigned.came;
      } in
      unawaited-by (kinds i).hardware s (ap (λ (x : SlaveKind). x.hardware) stands.slave.kind_is) (subst (λ (x : Stage). DryAt x s) set.at dry) (λ hw. elim (cases_eq (plan_at ps i).share.outs 0) [
        | inl z ↦ inl (path.no_outputs i l s stands.slave assigned z)
        | inr ne ↦
            let part = path.predicted.all i l (sym (path.alike i l) ∙ hw) (omega (arith, ne)) in
            inr (fed.each part.0 part.1 (let b = got-within fs part.0 part.1 part.2 in let e = all f in omega (arith, b, e)) part.2 part.3 (omega (arith, ne)))
      ])
  ready-of stages n p _ rest r h all i s l stands dry fed = tt

  -- ---- the step's own frame

  -- as it is sent
  here-of : (stages : ℕ → Stage) (n : ℕ) (p a : Action) (rest : List Action) (r : Rising) → Now stages n p a rest r → (is_fed a ≡ true → r.start.fed ≡ length fs)
      → Ahead kinds stages (al_asked ss) (sent_at fs n a r) (more_of n p a) (here_at fs a r) r.start.next a 0 r.slaves (datagram_of a r.start.next)
  here-of stages n p a rest r h all-fed = record {
    few = omega (arith, h.count, path.few);
    good = datagram-good a r.start.next h.sendable;
    arrives = sets-out a r.start.next;
    priors = each-both (λ i s. Stood (kinds i) i (stages i) (al_asked ss i) (sent_at fs n a r) (more_of n p a) (here_at fs a r) a s) (λ i s. IsFedBy ps fs r.start.fed i s)
        (λ i s. Prior (kinds i) i (stages i) (al_asked ss i) (sent_at fs n a r) (more_of n p a) (here_at fs a r) a s) 0 (length ps) r.slaves (omega (arith, h.count))
        (λ i s l k f. record {
          stands = k.stands;
          spelled = k.spelled;
          fits = (h.walks i l).0;
          bless = (h.walks i l).1;
          sure = k.sure;
          late = k.late;
          ready = ready-of stages n p a rest r h all-fed i s l k.stands k.dry f;
          named = (h.named i l).0;
          dry = k.dry;
        }) h.each h.fed;
  }

  -- the verdict on it
  verdict-is : (stages : ℕ → Stage) (n : ℕ) (p a : Action) (rest : List Action) (r : Rising) → Now stages n p a rest r → action_of r.start ≡ a
      → verdict (length r.start.plan) r.start.place r.start.seen (type_of r.start.plan) (action_of r.start) (all_passed r.slaves (datagram_of (action_of r.start) r.start.next))
      ≡ verdict (length ps) r.start.place r.start.seen (type_of ps) a (all_passed r.slaves (datagram_of a r.start.next))
  verdict-is stages n p a rest r h act =
      ap (λ (q : List SlavePlan). verdict (length q) r.start.place r.start.seen (type_of q) (action_of r.start) (all_passed r.slaves (datagram_of (action_of r.start) r.start.next))) h.plan_is
      ∙ ap (λ (x : Action). verdict (length ps) r.start.place r.start.seen (type_of ps) x (all_passed r.slaves (datagram_of x r.start.next))) act

  as-before : (stages : ℕ → Stage) (n : ℕ) (p a : Action) (rest : List Action) (r : Rising) → Now stages n p a rest r → length (turned r).slaves ≡ length ps
  as-before stages n p a rest r h = length-map (all_met r.slaves (datagram_of (action_of r.start) r.start.next)) served ∙ (all-met-length r.slaves (datagram_of (action_of r.start) r.start.next) ∙ h.count)

  -- the last one
  has-turned : (stages : ℕ → Stage) (n : ℕ) (p a : Action) (rest : List Action) (r : Rising) → Now stages n p a rest r → action_of r.start ≡ a → (is_fed a ≡ true → r.start.fed ≡ length fs)
      → r.start.polls ≡ more_of n p a → HasTurned ps ss kinds stages (sent_at fs n a r) (more_of (next_of n p a) a (first_of rest)) a rest r
  has-turned stages n p a rest r h act all-fed last =
      let number : ℕ = r.start.next in
      let d : Datagram = datagram_of a number in
      let next : ℕ = more_of (next_of n p a) a (first_of rest) in
      let here = here-of stages n p a rest r h all-fed in
      let due = due-of ps fs ss n p a r.start.polls r.start.fed as_many last (own-each fs a r.start.fed h.fed_none all-fed) h.counted in
      let v : Verdict = verdict (length ps) r.start.place r.start.seen (type_of ps) a (all_passed r.slaves d) in
      let back = back-some stages (sent_at fs n a r) (more_of n p a) (here_at fs a r) a r.start.place number r.start.seen r.slaves h.count h.inside h.told due here in
      let done : MayEnd a (all_passed r.slaves d) = ends-by (length ps) r.start.place r.start.seen ps a (all_passed r.slaves d) back in
      let suits : (i : ℕ) → i < 0 + length r.slaves → Suits (kinds i) (first_of rest) × IsPaced (kinds i) i a (first_of rest) next
      = λ i l. let b : i < length ps = omega (arith, l, h.count) in
      (suits-by (kinds i) (is_hardware ps) (length ps) (first_of rest) (bare-at i b) (chained-inside (is_hardware ps) (length ps) a rest h.chained), paced-of ps fs ss (next_of n p a) a (first_of rest) i) in
      let all = pass-all kinds stages (al_asked ss) (sent_at fs n a r) (more_of n p a) (here_at fs a r) number a (first_of rest) next 0 r.slaves d suits (chained-first (is_hardware ps) (length ps) a rest h.chained)
      (λ e. one-frame stages n p a rest r h last e) here in
      let size : length (all_met r.slaves d) ≡ length ps = all-met-length r.slaves d ∙ h.count in
      record {
        said = v;
        wanted = back;
        start = ap (judged (sending r.start)) (verdict-is stages n p a rest r h act) ∙ judged-wanted (type_of ps) (sending r.start) a v act back;
        each = subst (λ (x : Action). Each (λ i s. Stood (kinds i) i (after i (stages i) a) (al_asked ss i) (sent_at fs n a r + 1) next 0 (first_of rest) s) 0 (map served (all_met r.slaves (datagram_of x number)))) (sym act)
            (each-served (λ i t. After (kinds i) i (stages i) (al_asked ss i) (sent_at fs n a r) next a (first_of rest) (all_passed r.slaves d) t)
            (λ i s. Stood (kinds i) i (after i (stages i) a) (al_asked ss i) (sent_at fs n a r + 1) next 0 (first_of rest) s) 0 (length ps)
            (all_met r.slaves d) (omega (arith, size))
            (λ i t l k. record {
              stands = stands-served (kinds i) i (after i (stages i) a) false t (k.met.ended done);
              spelled = spelled-on (kinds i) t (served t) (settles t).image k.spelled;
              sure = k.sure (k.met.ended done);
              late = k.late (k.met.ended done);
              dry = k.dry (k.met.ended done);
            }) all);
        count = as-before stages n p a rest r h;
      }
    where
      -- the request for INIT is the second frame
      one-frame : (stages : ℕ → Stage) (n : ℕ) (p a : Action) (rest : List Action) (r : Rising) → Now stages n p a rest r → r.start.polls ≡ more_of n p a → a ≡ AskInit → sent_at fs n a r ≡ 1
      one-frame stages n p a rest r h last e =
          let c : n ≡ 1 = counted-one a n h.counted e in
          let z : r.start.polls ≡ 0 = last ∙ ap (λ (x : Action). polls_more ps fs ss n p x) e in
          let f : r.start.fed ≡ 0 = h.fed_none (ap is_fed e) in
          let w : r.start.polls * frames_each fs a ≡ 0 * frames_each fs a = ap (λ (x : ℕ). x * frames_each fs a) z in
          omega (arith, c, w, f)

  -- and one before it
  has-waited : (stages : ℕ → Stage) (n : ℕ) (p a : Action) (rest : List Action) (r : Rising) → Now stages n p a rest r → action_of r.start ≡ a → (is_fed a ≡ true → r.start.fed ≡ length fs)
      → r.start.polls < more_of n p a → HasWaited ps ss kinds stages (sent_at fs n a r) (more_of n p a) (here_at fs a r) a r
  has-waited stages n p a rest r h act all-fed left =
      let number : ℕ = r.start.next in
      let d : Datagram = datagram_of a number in
      let here = here-of stages n p a rest r h all-fed in
      let on = on-of ps fs ss n p a r.start.polls r.start.fed left (own-each fs a r.start.fed h.fed_none all-fed) in
      let back = wait-some stages (sent_at fs n a r) (more_of n p a) (here_at fs a r) a r.start.place number r.start.seen r.slaves h.count h.inside on.0 here in
      let again : MayRepeat a (all_passed r.slaves d) = repeats-by (length ps) r.start.place r.start.seen ps a (all_passed r.slaves d) back in
      let few : r.start.polls + 1 ≢ max_polls = λ e. let c = more-few ps fs ss n p a path.slow in let m : max_polls ≡ 1000 = refl in omega (arith, e, c, left, m) in
      let all = wait-all kinds stages (al_asked ss) (sent_at fs n a r) (more_of n p a) (here_at fs a r) number a 0 r.slaves d on.1 here in
      let size : length (all_met r.slaves d) ≡ length ps = all-met-length r.slaves d ∙ h.count in
      record {
        start = subst (λ (v : Verdict). IsPolledOn (sending r.start) (judged (sending r.start) v)) (sym (verdict-is stages n p a rest r h act)) (judged-on (sending r.start) _ few back);
        each = subst (λ (x : Action). Each (λ i s. Stood (kinds i) i (stages i) (al_asked ss i) (sent_at fs n a r + 1) (more_of n p a) (here_at fs a r + 1) a s) 0 (map served (all_met r.slaves (datagram_of x number)))) (sym act)
            (each-served (λ i t. Still (kinds i) i (stages i) (al_asked ss i) (sent_at fs n a r) (more_of n p a) (here_at fs a r) a (all_passed r.slaves d) t)
            (λ i s. Stood (kinds i) i (stages i) (al_asked ss i) (sent_at fs n a r + 1) (more_of n p a) (here_at fs a r + 1) a s) 0 (length ps)
            (all_met r.slaves d) (omega (arith, size))
            (λ i t l k. record {
              stands = stands-served (kinds i) i (stages i) false t (k.met.repeated again);
              spelled = spelled-on (kinds i) t (served t) (settles t).image k.spelled;
              sure = k.sure (k.met.repeated again);
              late = k.late (k.met.repeated again);
              dry = k.dry (k.met.repeated again);
            }) all);
        count = as-before stages n p a rest r h;
      }

  -- ---- a frame that feeds a part

  part-sendable : (f : Feed) → IsFeedOf ps f → IsSendable (FeedPart f)
  part-sendable f h = (h.few, let a = h.addresses in omega (arith, a))

  has-fed : (stages : ℕ → Stage) (n : ℕ) (p a : Action) (rest : List Action) (r : Rising) (f : Feed) → Now stages n p a rest r → is_fed a ≡ true → action_of r.start ≡ FeedPart f
      → slice_get fs r.start.fed ≡ Some f → HasFed ps fs ss kinds stages (sent_at fs n a r) (more_of n p a) (here_at fs a r) a r
  has-fed stages n p a rest r f h t act at =
      let number : ℕ = r.start.next in
      let sent : ℕ = sent_at fs n a r in
      let more : ℕ = more_of n p a in
      let here : ℕ = here_at fs a r in
      let d : Datagram = datagram_of (FeedPart f) number in
      let feed : IsFeedOf ps f = path.feeds.each r.start.fed f at in
      let sets = all-of stages n p a rest r h t in
      let asks : (i : ℕ) → i < length ps → Fits i (stages i) a × Bless (planned ps i).kind i (stages i) a = λ i l. ((h.walks i l).0, (h.walks i l).1) in
      let waits = each-both (λ i s. Stood (kinds i) i (stages i) (al_asked ss i) sent more here a s) (λ i s. IsFedBy ps fs r.start.fed i s)
      (λ i s. Waits ps fs ends stages (al_asked ss) sent more here f r.start.fed number a feed at path.few t path.sets sets asks i s) 0 (length ps) r.slaves (omega (arith, h.count))
      (λ i s l k g. record { stood = k; fed_by = g }) h.each h.fed in
      let back = fed-back ps fs ends stages (al_asked ss) sent more here f r.start.fed number a feed at path.few t path.sets sets asks r.slaves r.start.place r.start.seen (type_of ps) h.count (path.predicted.each r.start.fed f at)
      (datagram-good (FeedPart f) number (part-sendable f feed)) (feed-sets-out ps f number) waits in
      let v : verdict (length r.start.plan) r.start.place r.start.seen (type_of r.start.plan) (action_of r.start) (all_passed r.slaves (datagram_of (action_of r.start) number)) ≡ Fed
      = ap (λ (q : List SlavePlan). verdict (length q) r.start.place r.start.seen (type_of q) (action_of r.start) (all_passed r.slaves (datagram_of (action_of r.start) number))) h.plan_is
      ∙ (ap (λ (x : Action). verdict (length ps) r.start.place r.start.seen (type_of ps) x (all_passed r.slaves (datagram_of x number))) act ∙ back.0) in
      let size : length (map served (all_met r.slaves d)) ≤ length ps = let e = length-map (all_met r.slaves d) served ∙ (all-met-length r.slaves d ∙ h.count) in omega (arith, e) in
      record {
        start = ap (judged (sending r.start)) v;
        each = subst (λ (x : Action). Each (λ i s. Stood (kinds i) i (stages i) (al_asked ss i) (sent + 1) more (here + 1) a s) 0 (map served (all_met r.slaves (datagram_of x number)))) (sym act)
            (each-bound (λ i s. Goes ps fs ends stages (al_asked ss) sent more here f r.start.fed number a feed at path.few t path.sets sets asks i s) (λ i s. Stood (kinds i) i (stages i) (al_asked ss i) (sent + 1) more (here + 1) a s) 0 (length ps)
            (map served (all_met r.slaves d)) (omega (arith, size)) (λ i s l g. g.stood) back.1);
        fed = subst (λ (x : Action). Each (λ i s. IsFedBy ps fs (r.start.fed + 1) i s) 0 (map served (all_met r.slaves (datagram_of x number)))) (sym act)
            (each-bound (λ i s. Goes ps fs ends stages (al_asked ss) sent more here f r.start.fed number a feed at path.few t path.sets sets asks i s) (λ i s. IsFedBy ps fs (r.start.fed + 1) i s) 0 (length ps)
            (map served (all_met r.slaves d)) (omega (arith, size)) (λ i s l g. g.fed_by) back.1);
        count = as-before stages n p a rest r h;
      }

  -- ---- all frames: before the end no frame is outstanding, and the next number counts the frames

  -- what is shown of k turns more, where `sent` frames were sent of `total`
  abbrev Rises : (total sent : ℕ) → Rising → ℕ → Rising → Type 0
  Rises total sent r k e = (k + sent < total → IsOnItsWay (r.start.next + k) e) × (k + sent ≡ total → HasRisen (length ps) kinds ends (r.start.next + k) e)

  -- one frame later
  rises-on : (total sent now : ℕ) (r u : Rising) (k : ℕ) (e : Rising) → now ≡ sent + 1 → u.start.next ≡ r.start.next + 1 → Rises total now u k e → Rises total sent r (suc k) e
  rises-on total sent now r u k e z n both =
      let m : u.start.next + k ≡ r.start.next + suc k = omega (arith, n) in (
        λ l. subst (λ (x : ℕ). IsOnItsWay x e) m (both.0 (omega (arith, l, z))),
        λ q. subst (λ (x : ℕ). HasRisen (length ps) kinds ends x e) m (both.1 (omega (arith, q, z))),
      )

  -- its next frame is one
  good-next : (stages : ℕ → Stage) (n : ℕ) (p a : Action) (rest : List Action) (r : Rising) → Now stages n p a rest r → IsDatagram (datagram_of (action_of r.start) r.start.next)
  good-next stages n p a rest r h = by (acts r.start)
    where
      by : Acts r.start → IsDatagram (datagram_of (action_of r.start) r.start.next)
      by (Own q none) = subst (λ (x : Action). IsDatagram (datagram_of x r.start.next)) (sym (q ∙ step-is stages n p a rest r h)) (datagram-good a r.start.next h.sendable)
      by (Part f q t at) = subst (λ (x : Action). IsDatagram (datagram_of x r.start.next)) (sym q)
          (datagram-good (FeedPart f) r.start.next (part-sendable f (path.feeds.each r.start.fed f (ap (λ (xs : List Feed). slice_get xs r.start.fed) (sym h.feeds_are) ∙ at))))

  -- all parts were fed where the step's own frame comes
  fed-all : (stages : ℕ → Stage) (n : ℕ) (p a : Action) (rest : List Action) (r : Rising) → Now stages n p a rest r → (is_fed (step_of r.start) ≡ true → slice_get r.start.feeds r.start.fed ≡ None)
      → is_fed a ≡ true → r.start.fed ≡ length fs
  fed-all stages n p a rest r h none t =
      let at : slice_get fs r.start.fed ≡ None = ap (λ (xs : List Feed). slice_get xs r.start.fed) (sym h.feeds_are) ∙ none (ap is_fed (step-is stages n p a rest r h) ∙ t) in
      let few = none-behind fs r.start.fed at in
      let most = h.fed_few in
      omega (arith, few, most)

  -- with the step's last frame all of its frames were sent
  all-sent : (stages : ℕ → Stage) (n : ℕ) (p a : Action) (rest : List Action) (r : Rising) → Now stages n p a rest r → (is_fed a ≡ true → r.start.fed ≡ length fs) → r.start.polls ≡ more_of n p a → next_of n p a ≡ sent_at fs n a r + 1
  all-sent stages n p a rest r h all-fed last =
      let e = own-each fs a r.start.fed h.fed_none all-fed in
      let w : r.start.polls * frames_each fs a ≡ polls_more ps fs ss n p a * frames_each fs a = ap (λ (x : ℕ). x * frames_each fs a) last in
      omega (arith, e, w)

  -- behind the last step
  last-turn : (stages : ℕ → Stage) (n next : ℕ) (p a : Action) (r : Rising) → Now stages n p a [] r → HasTurned ps ss kinds stages (sent_at fs n a r) next a [] r → (k : ℕ) (xs : List SlaveState) (e : Rising) → AreApplied (turned r).slaves xs
      → k ≡ 0 → TurnsTo k (rising (turned r).start xs) e → HasRisen (length ps) kinds ends (r.start.next + suc k) e
  last-turn stages n next p a r h t k xs e app z more =
      let size = (split-at (script ps) r.start.place a [] h.ahead).size in
      let over : nat_lt (r.start.place + 1) (length (script r.start.plan)) ≡ false
      = ap (λ (x : List SlavePlan). nat_lt (r.start.place + 1) (length (script x))) h.plan_is ∙ le-ltb _ _ (omega (arith, size)) in
      let count : length xs ≡ length ps = applied-length (turned r).slaves xs app ∙ t.count in
      let m : (turned r).start.next ≡ r.start.next + 1 = ap (λ (s : StartState). s.next) t.start in
      subst (λ (x : Rising). HasRisen (length ps) kinds ends (r.start.next + suc k) x) (sym (no-more k (rising (turned r).start xs) e z more)) (record {
        count = count;
        ready = ap (λ (s : StartState). s.phase) t.start ∙ if_false _ _ _ over;
        numbers = omega (arith, m, z);
        each = each-bound (λ i s. Stood (kinds i) i (after i (stages i) a) (al_asked ss i) (sent_at fs n a r + 1) next 0 ClearStations s) (λ i s. Stands (kinds i) i (Up (ends i)) false s) 0 (length ps) xs (omega (arith, count))
            (λ i s l k. subst (λ (x : Stage). Stands (kinds i) i x false s) (h.walks i l).2 k.stands)
            (each-applied (λ i s. Stood (kinds i) i (after i (stages i) a) (al_asked ss i) (sent_at fs n a r + 1) next 0 ClearStations s) 0 (turned r).slaves xs
            (λ i s t g q. stood-applied (kinds i) i (after i (stages i) a) (al_asked ss i) (sent_at fs n a r + 1) next 0 ClearStations s t (λ c. cc c) g q) app t.each);
      })

  -- at the next step
  next-now : (stages : ℕ → Stage) (n : ℕ) (p a b : Action) (rest : List Action) (r : Rising) → Now stages n p a (b ∷ rest) r → next_of n p a ≡ sent_at fs n a r + 1
      → HasTurned ps ss kinds stages (sent_at fs n a r) (more_of (next_of n p a) a b) a (b ∷ rest) r → (xs : List SlaveState) → AreApplied (turned r).slaves xs
      → Now (λ i. after i (stages i) a) (next_of n p a) a b rest (rising (turned r).start xs)
  next-now stages n p a b rest r h all t xs app =
      let sp = split-at (script ps) r.start.place a (b ∷ rest) h.ahead in
      let on : nat_lt (r.start.place + 1) (length (script r.start.plan)) ≡ true
      = ap (λ (q : List SlavePlan). nat_lt (r.start.place + 1) (length (script q))) h.plan_is ∙ lt-ltb _ _ (omega (arith, sp.size)) in
      let zero_fed : (turned r).start.fed ≡ 0 = ap (λ (s : StartState). s.fed) t.start in
      let zero_polls : (turned r).start.polls ≡ 0 = ap (λ (s : StartState). s.polls) t.start in
      let none : (turned r).start.polls * frames_each fs b ≡ 0 * frames_each fs b = ap (λ (x : ℕ). x * frames_each fs b) zero_polls in
      record {
        plan_is = ap (λ (s : StartState). s.plan) t.start ∙ h.plan_is;
        feeds_are = ap (λ (s : StartState). s.feeds) t.start ∙ h.feeds_are;
        fed_few = omega (arith, zero_fed);
        fed_none = λ e. zero_fed;
        polls_few = omega (arith, zero_polls);
        counted = counted-next ps fs ss n p a b h.chained.0 h.counted;
        idle = ap (λ (s : StartState). s.phase) t.start ∙ if_true _ _ _ on;
        ahead = ap (λ (s : StartState). drop s.place (script ps)) t.start ∙ sp.on;
        count = applied-length (turned r).slaves xs app ∙ t.count;
        told = subst (λ (s : StartState). Told (type_of ps) s.seen b) (sym t.start) (told-next (type_of ps) r.start.seen t.said (is_hardware ps) (length ps) a b h.chained.1 h.chained.0 t.wanted h.told);
        inside = h.chained.1;
        sendable = h.chained.2;
        chained = h.chained.3;
        walks = λ i l. (h.walks i l).2;
        named = λ i l. (h.named i l).1;
        each = counts-on ps ss kinds (λ i. after i (stages i) a) (sent_at fs n a r + 1) (sent_at fs (next_of n p a) b (rising (turned r).start xs)) (more_of (next_of n p a) a b) 0 (here_at fs b (rising (turned r).start xs)) b xs
            (omega (arith, all, none, zero_fed)) (omega (arith, none, zero_fed))
            (each-applied (λ i s. Stood (kinds i) i (after i (stages i) a) (al_asked ss i) (sent_at fs n a r + 1) (more_of (next_of n p a) a b) 0 b s) 0 (turned r).slaves xs
            (λ i s t g q. stood-applied (kinds i) i (after i (stages i) a) (al_asked ss i) (sent_at fs n a r + 1) (more_of (next_of n p a) a b) 0 b s t (not-first a b h.chained.0) g q) app t.each);
        fed = subst (λ (m : ℕ). Each (λ i s. IsFedBy ps fs m i s) 0 xs) (sym zero_fed) (each-none ps fs 0 xs);
      }

  -- at the same step, with one poll more
  wait-now : (stages : ℕ → Stage) (n : ℕ) (p a : Action) (rest : List Action) (r : Rising) → Now stages n p a rest r → (is_fed a ≡ true → r.start.fed ≡ length fs) → r.start.polls < more_of n p a
      → HasWaited ps ss kinds stages (sent_at fs n a r) (more_of n p a) (here_at fs a r) a r → (xs : List SlaveState) → AreApplied (turned r).slaves xs → Now stages n p a rest (rising (turned r).start xs)
  wait-now stages n p a rest r h all-fed left g xs app =
      let e = own-each fs a r.start.fed h.fed_none all-fed in
      let on = on-of ps fs ss n p a r.start.polls r.start.fed left e in
      let one_more : (turned r).start.polls ≡ r.start.polls + 1 = g.start.polls in
      let zero_fed : (turned r).start.fed ≡ 0 = g.start.fed in
      let w : (turned r).start.polls * frames_each fs a ≡ (r.start.polls + 1) * frames_each fs a = ap (λ (x : ℕ). x * frames_each fs a) one_more in
      record {
        plan_is = g.start.plan ∙ h.plan_is;
        feeds_are = g.start.feeds ∙ h.feeds_are;
        fed_few = omega (arith, zero_fed);
        fed_none = λ q. zero_fed;
        polls_few = omega (arith, one_more, left);
        counted = h.counted;
        idle = g.start.phase;
        ahead = ap (λ (k : ℕ). drop k (script ps)) g.start.place ∙ h.ahead;
        count = applied-length (turned r).slaves xs app ∙ g.count;
        told = subst (λ (x : Device). Told (type_of ps) x a) (sym g.start.seen) h.told;
        inside = h.inside;
        sendable = h.sendable;
        chained = h.chained;
        walks = h.walks;
        named = h.named;
        each = counts-on ps ss kinds stages (sent_at fs n a r + 1) (sent_at fs n a (rising (turned r).start xs)) (more_of n p a) (here_at fs a r + 1) (here_at fs a (rising (turned r).start xs)) a xs
            (omega (arith, w, zero_fed, e)) (omega (arith, w, zero_fed, e))
            (each-applied (λ i s. Stood (kinds i) i (stages i) (al_asked ss i) (sent_at fs n a r + 1) (more_of n p a) (here_at fs a r + 1) a s) 0 (turned r).slaves xs
            (λ i s t x q. stood-applied (kinds i) i (stages i) (al_asked ss i) (sent_at fs n a r + 1) (more_of n p a) (here_at fs a r + 1) a s t (polled-not-first a (more_of n p a) (here_at fs a r) on.1) x q) app g.each);
        fed = subst (λ (m : ℕ). Each (λ i s. IsFedBy ps fs m i s) 0 xs) (sym zero_fed) (each-none ps fs 0 xs);
      }

  -- at the same step, with one part more
  same-now : (stages : ℕ → Stage) (n : ℕ) (p a : Action) (rest : List Action) (r : Rising) (f : Feed) → Now stages n p a rest r → is_fed a ≡ true → slice_get fs r.start.fed ≡ Some f
      → HasFed ps fs ss kinds stages (sent_at fs n a r) (more_of n p a) (here_at fs a r) a r → (xs : List SlaveState) → AreApplied (turned r).slaves xs → Now stages n p a rest (rising (turned r).start xs)
  same-now stages n p a rest r f h t at g xs app =
      let one_more : (turned r).start.fed ≡ r.start.fed + 1 = ap (λ (s : StartState). s.fed) g.start in
      let same_polls : (turned r).start.polls ≡ r.start.polls = ap (λ (s : StartState). s.polls) g.start in
      let w : (turned r).start.polls * frames_each fs a ≡ r.start.polls * frames_each fs a = ap (λ (x : ℕ). x * frames_each fs a) same_polls in
      let within = got-within fs r.start.fed f at in
      let few = h.polls_few in
      record {
        plan_is = ap (λ (s : StartState). s.plan) g.start ∙ h.plan_is;
        feeds_are = ap (λ (s : StartState). s.feeds) g.start ∙ h.feeds_are;
        fed_few = omega (arith, one_more, within);
        fed_none = λ e. absurd (both_ways (is_fed a) e t);
        polls_few = omega (arith, same_polls, few);
        counted = h.counted;
        idle = ap (λ (s : StartState). s.phase) g.start;
        ahead = ap (λ (s : StartState). drop s.place (script ps)) g.start ∙ h.ahead;
        count = applied-length (turned r).slaves xs app ∙ g.count;
        told = subst (λ (s : StartState). Told (type_of ps) s.seen a) (sym g.start) h.told;
        inside = h.inside;
        sendable = h.sendable;
        chained = h.chained;
        walks = h.walks;
        named = h.named;
        each = counts-on ps ss kinds stages (sent_at fs n a r + 1) (sent_at fs n a (rising (turned r).start xs)) (more_of n p a) (here_at fs a r + 1) (here_at fs a (rising (turned r).start xs)) a xs
            (omega (arith, w, one_more)) (omega (arith, w, one_more))
            (each-applied (λ i s. Stood (kinds i) i (stages i) (al_asked ss i) (sent_at fs n a r + 1) (more_of n p a) (here_at fs a r + 1) a s) 0 (turned r).slaves xs
            (λ i s u x q. stood-applied (kinds i) i (stages i) (al_asked ss i) (sent_at fs n a r + 1) (more_of n p a) (here_at fs a r + 1) a s u (fed-not-first a t) x q) app g.each);
        fed = subst (λ (m : ℕ). Each (λ i s. IsFedBy ps fs m i s) 0 xs) (sym one_more)
            (each-applied (λ i s. IsFedBy ps fs (r.start.fed + 1) i s) 0 (turned r).slaves xs (λ i s t x q. fed-applied ps fs (r.start.fed + 1) i s t x q) app g.fed);
      }

  -- one turn more: from wherever it leads
  onward : (stages : ℕ → Stage) (n : ℕ) (p a : Action) (rest : List Action) (r : Rising) → Now stages n p a rest r → (k : ℕ) (e : Rising) (xs : List SlaveState) → AreApplied (turned r).slaves xs
      → ((later : ℕ → Stage) (m : ℕ) (q b : Action) (bs : List Action) → Now later m q b bs (rising (turned r).start xs)
      → Rises (frames_behind ps fs ss m q (b ∷ bs)) (sent_at fs m b (rising (turned r).start xs)) (rising (turned r).start xs) k e)
      → TurnsTo k (rising (turned r).start xs) e → Rises (frames_behind ps fs ss n p (a ∷ rest)) (sent_at fs n a r) r (suc k) e
  onward stages n p a rest r h k e xs app on more = by (acts r.start)
    where
      -- the step ends
      ends-now : (bs : List Action) → Now stages n p a bs r → action_of r.start ≡ a → (is_fed a ≡ true → r.start.fed ≡ length fs) → r.start.polls ≡ more_of n p a
          → Rises (frames_behind ps fs ss n p (a ∷ bs)) (sent_at fs n a r) r (suc k) e
      ends-now [] now act all last =
          let t = has-turned stages n p a [] r now act all last in
          let total = all-sent stages n p a [] r now all last in (
            λ l. absurd (omega (arith, l, total)),
            λ q. last-turn stages n _ p a r now t k xs e app (omega (arith, q, total)) more,
          )
      ends-now (b ∷ bs) now act all last =
          let t = has-turned stages n p a (b ∷ bs) r now act all last in
          let total = all-sent stages n p a (b ∷ bs) r now all last in
          let both = on (λ i. after i (stages i) a) (next_of n p a) a b bs (next-now stages n p a b bs r now total t xs app) in
          let m : (turned r).start.next ≡ r.start.next + 1 = ap (λ (s : StartState). s.next) t.start in
          let o : (turned r).start.fed ≡ 0 = ap (λ (s : StartState). s.fed) t.start in
          let z : (turned r).start.polls ≡ 0 = ap (λ (s : StartState). s.polls) t.start in
          let w : (turned r).start.polls * frames_each fs b ≡ 0 * frames_each fs b = ap (λ (x : ℕ). x * frames_each fs b) z in
          rises-on (frames_behind ps fs ss n p (a ∷ b ∷ bs)) (sent_at fs n a r) (sent_at fs (next_of n p a) b (rising (turned r).start xs)) r (rising (turned r).start xs) k e (omega (arith, total, o, w)) m both

      -- or goes on
      goes-now : action_of r.start ≡ a → (is_fed a ≡ true → r.start.fed ≡ length fs) → r.start.polls < more_of n p a → Rises (frames_behind ps fs ss n p (a ∷ rest)) (sent_at fs n a r) r (suc k) e
      goes-now act all left =
          let g = has-waited stages n p a rest r h act all left in
          let both = on stages n p a rest (wait-now stages n p a rest r h all left g xs app) in
          let one = own-each fs a r.start.fed h.fed_none all in
          let c = g.start.polls in
          let o = g.start.fed in
          let w : (turned r).start.polls * frames_each fs a ≡ (r.start.polls + 1) * frames_each fs a = ap (λ (x : ℕ). x * frames_each fs a) c in
          rises-on (frames_behind ps fs ss n p (a ∷ rest)) (sent_at fs n a r) (sent_at fs n a (rising (turned r).start xs)) r (rising (turned r).start xs) k e (omega (arith, w, o, one)) g.start.numbers both

      by : Acts r.start → Rises (frames_behind ps fs ss n p (a ∷ rest)) (sent_at fs n a r) r (suc k) e
      by (Own q none) =
          let act : action_of r.start ≡ a = q ∙ step-is stages n p a rest r h in
          let all = fed-all stages n p a rest r h none in
          elim (cases_lt r.start.polls (more_of n p a)) [
            | inl left ↦ goes-now act all left
            | inr l ↦ ends-now rest h act all (let few = h.polls_few in omega (arith, l, few))
          ]
      by (Part f q t at) =
          let fed : is_fed a ≡ true = sym (ap is_fed (step-is stages n p a rest r h)) ∙ t in
          let found : slice_get fs r.start.fed ≡ Some f = ap (λ (xs : List Feed). slice_get xs r.start.fed) (sym h.feeds_are) ∙ at in
          let g = has-fed stages n p a rest r f h fed q found in
          let both = on stages n p a rest (same-now stages n p a rest r f h fed found g xs app) in
          let m : (turned r).start.next ≡ r.start.next + 1 = ap (λ (s : StartState). s.next) g.start in
          let o : (turned r).start.fed ≡ r.start.fed + 1 = ap (λ (s : StartState). s.fed) g.start in
          let c : (turned r).start.polls ≡ r.start.polls = ap (λ (s : StartState). s.polls) g.start in
          let w : (turned r).start.polls * frames_each fs a ≡ r.start.polls * frames_each fs a = ap (λ (x : ℕ). x * frames_each fs a) c in
          rises-on (frames_behind ps fs ss n p (a ∷ rest)) (sent_at fs n a r) (sent_at fs n a (rising (turned r).start xs)) r (rising (turned r).start xs) k e (omega (arith, w, o)) m both

  pub rises : (stages : ℕ → Stage) (n : ℕ) (p a : Action) (rest : List Action) (r : Rising) → Now stages n p a rest r → (k : ℕ) (e : Rising) → TurnsTo k r e → Rises (frames_behind ps fs ss n p (a ∷ rest)) (sent_at fs n a r) r k e
  rises stages n p a rest r h zero e (Stays_on _) =
      let z : r.start.next ≡ r.start.next + 0 = omega arith in
      let more = behind-more ps fs ss (next_of n p a) a rest in
      let polls = h.polls_few in
      let w = mul-le-mul_right (frames_each fs a) polls in
      let fed = fed-within fs a r.start.fed h.fed_few h.fed_none in
      (λ l. record { idle = h.idle; good = good-next stages n p a rest r h; next_number = z }, λ q. absurd (omega (arith, q, more, w, fed)))
  rises stages n p a rest r h (suc k) e (Turns _ _ _ xs app more) =
      onward stages n p a rest r h k e xs app (λ later m q b bs now. rises later m q b bs (rising (turned r).start xs) now k e more) more
