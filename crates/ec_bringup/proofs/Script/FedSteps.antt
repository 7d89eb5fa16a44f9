-- The steps before whose frames parts are fed are the last of a script. While they go on, each slave has all that its plan sets.
use Rattle.ec_bringup.proofs.Words.{ℕ, zero, suc, ◌+◌, ◌<◌, ◌≡◌, ◌==◌, Bool, true, false, Option, Some, None, is_some, refl, sym, ◌∙◌, ap, subst, arith, if◌then◌else◌, List, [], ◌∷◌, ◌++◌, length, get_or, drop, slice_get, both_ways, Hardware, SlavePlan, Mailbox, State, Init, PreOp, SafeOp, Op, Action, CountSlaves, AskState, AwaitState, AwaitCleanInit, FeedPart, Feed, SdoRequest, StartState, step_of, action_of, is_fed, feed_or, script, phases, each_slave, named, settled, settled_by, identified, mailbox_set, raised, exchanged, talked, manager_set, fmmu_set, mapped, set_manager, opened, closed, is_hardware, requests, settings_at, fmmu_at, Config, Rise, Falls, Stays, Climbs, CanClimb, IsClimbing, eqb-true, is_op, Stage, Up, after, config_after, if_mine, Leads, Fits}

-- ---- lists of actions

abbrev pub AreFed : List Action → Type 0
AreFed [] = Unit {0}
AreFed (a ∷ rest) = (is_fed a ≡ true) × AreFed rest

abbrev AreUnfed : List Action → Type 0
AreUnfed [] = Unit {0}
AreUnfed (a ∷ rest) = (is_fed a ≡ false) × AreUnfed rest

-- behind one that is fed all are
abbrev Late : List Action → Type 0
Late [] = Unit {0}
Late (a ∷ rest) = (is_fed a ≡ true → AreFed rest) × Late rest

fed-late : (xs : List Action) → AreFed xs → Late xs
fed-late [] h = tt
fed-late (a ∷ xs) h = (λ e. h.1, fed-late xs h.1)

unfed-late : (xs ys : List Action) → AreUnfed xs → Late ys → Late (xs ++ ys)
unfed-late [] ys h k = k
unfed-late (a ∷ xs) ys h k = (λ e. absurd (both_ways (is_fed a) h.0 e), unfed-late xs ys h.1 k)

late-drop : (xs : List Action) (k : ℕ) → k < length xs → Late xs → is_fed (get_or xs k CountSlaves) ≡ true → AreFed (drop k xs)
late-drop [] k l h e = absurd (omega (arith, l))
late-drop (a ∷ xs) zero l h e = (e, h.0 e)
late-drop (a ∷ xs) (suc k) l h e = late-drop xs k (omega (arith, l)) h.1 e

unfed-append : (xs ys : List Action) → AreUnfed xs → AreUnfed ys → AreUnfed (xs ++ ys)
unfed-append [] ys h k = k
unfed-append (a ∷ xs) ys h k = (h.0, unfed-append xs ys h.1 k)

fed-append : (xs ys : List Action) → AreFed xs → AreFed ys → AreFed (xs ++ ys)
fed-append [] ys h k = k
fed-append (a ∷ xs) ys h k = (h.0, fed-append xs ys h.1 k)

each-unfed : (f : ℕ → SlavePlan → List Action) (k : ℕ) (ps : List SlavePlan) → ((i : ℕ) (p : SlavePlan) → AreUnfed (f i p)) → AreUnfed (each_slave f k ps)
each-unfed f k [] h = tt
each-unfed f k (p ∷ ps) h = unfed-append (f k p) (each_slave f (k + 1) ps) (h k p) (each-unfed f (k + 1) ps h)

each-fed : (f : ℕ → SlavePlan → List Action) (k : ℕ) (ps : List SlavePlan) → ((i : ℕ) (p : SlavePlan) → AreFed (f i p)) → AreFed (each_slave f k ps)
each-fed f k [] h = tt
each-fed f k (p ∷ ps) h = fed-append (f k p) (each_slave f (k + 1) ps) (h k p) (each-fed f (k + 1) ps h)

-- ---- phase by phase

settled-unfed : (i : ℕ) (o : Option Hardware) → AreUnfed (settled_by i o)
settled-unfed i None = tt
settled-unfed i (Some h) = elim h.has_firmware as (λ b. AreUnfed (if b then AwaitCleanInit i ∷ [] else [])) [ true ↦ (refl, tt) | false ↦ tt ]

mailbox-unfed : (i : ℕ) (p : SlavePlan) (o : Option Mailbox) → AreUnfed (mailbox_set i p o)
mailbox-unfed i p None = tt
mailbox-unfed i p (Some b) = (refl, (refl, tt))

exchanged-unfed : (hardware : Bool) (i before : ℕ) (b : Mailbox) (rs : List SdoRequest) → AreUnfed (exchanged hardware i b before rs)
exchanged-unfed hardware i before b [] = tt
exchanged-unfed true i before b (r ∷ rs) = (refl, (refl, exchanged-unfed true i (before + 1) b rs))
exchanged-unfed false i before b (r ∷ rs) = (refl, (refl, exchanged-unfed false i (before + 1) b rs))

talked-unfed : (i : ℕ) (p : SlavePlan) (o : Option Mailbox) → AreUnfed (talked i p o)
talked-unfed i p None = tt
talked-unfed i p (Some b) = exchanged-unfed (is_some p.kind.hardware) i 0 b (requests p)

mapped-unfed : (i : ℕ) (p : SlavePlan) → AreUnfed (mapped i p)
mapped-unfed i p =
    unfed-append (manager_set i p 2) _ (one-manager 2 ((settings_at p.managers 2).activate == 0))
    (unfed-append (manager_set i p 3) _ (one-manager 3 ((settings_at p.managers 3).activate == 0))
    (unfed-append (fmmu_set i p 0 (fmmu_at p.fmmus 0).active) _ (one-fmmu 0 (fmmu_at p.fmmus 0).active) (one-fmmu 1 (fmmu_at p.fmmus 1).active)))
  where
    one-manager : (n : ℕ) (b : Bool) → AreUnfed (if b then [] else set_manager i p n ∷ [])
    one-manager n true = tt
    one-manager n false = (refl, tt)

    one-fmmu : (n : ℕ) (b : Bool) → AreUnfed (fmmu_set i p n b)
    one-fmmu n true = (refl, tt)
    one-fmmu n false = tt

opened-unfed : (hardware : Bool) → AreUnfed (opened hardware)
opened-unfed true = (refl, (refl, (refl, (refl, (refl, (refl, (refl, (refl, tt))))))))
opened-unfed false = (refl, (refl, (refl, (refl, (refl, tt)))))

closed-unfed : (hardware : Bool) → AreUnfed (closed hardware)
closed-unfed true = (refl, tt)
closed-unfed false = tt

phases-late : (ps : List SlavePlan) → Late (phases ps)
phases-late ps =
    unfed-late (opened (is_hardware ps)) _ (opened-unfed (is_hardware ps))
    (unfed-late (each_slave named 0 ps) _ (each-unfed named 0 ps (λ i p. (refl, tt)))
    (unfed-late (each_slave settled 0 ps) _ (each-unfed settled 0 ps (λ i p. settled-unfed i p.kind.hardware))
    (unfed-late (each_slave identified 0 ps) _ (each-unfed identified 0 ps (λ i p. (refl, (refl, (refl, (refl, (refl, (refl, tt))))))))
    (unfed-late (closed (is_hardware ps)) _ (closed-unfed (is_hardware ps))
    (unfed-late (each_slave (λ i p. mailbox_set i p p.kind.mailbox) 0 ps) _ (each-unfed (λ i p. mailbox_set i p p.kind.mailbox) 0 ps (λ i p. mailbox-unfed i p p.kind.mailbox))
    (unfed-late (each_slave (raised PreOp) 0 ps) _ (each-unfed (raised PreOp) 0 ps (λ i p. (refl, (refl, tt))))
    (unfed-late (each_slave (λ i p. talked i p p.kind.mailbox) 0 ps) _ (each-unfed (λ i p. talked i p p.kind.mailbox) 0 ps (λ i p. talked-unfed i p p.kind.mailbox))
    (unfed-late (each_slave mapped 0 ps) _ (each-unfed mapped 0 ps mapped-unfed)
    (unfed-late (each_slave (raised SafeOp) 0 ps) _ (each-unfed (raised SafeOp) 0 ps (λ i p. (refl, (refl, tt))))
    (fed-late (each_slave (raised Op) 0 ps) (each-fed (raised Op) 0 ps (λ i p. (refl, (refl, tt))))))))))))))

script-late : (ps : List SlavePlan) → Late (script ps)
script-late [] = (λ e. absurd (both_ways false refl e), tt)
script-late (p ∷ ps) = (λ e. absurd (both_ways false refl e), phases-late (p ∷ ps))

pub fed-ahead : (ps : List SlavePlan) (k : ℕ) → k < length (script ps) → is_fed (get_or (script ps) k CountSlaves) ≡ true → AreFed (drop k (script ps))
fed-ahead ps k l e = late-drop (script ps) k l (script-late ps) e

-- ---- what a slave has while they go on

pub record SameSet (c e : Config) : Type 0 where
  pub managers : c.managers ≡ e.managers
  pub fmmus : c.fmmus ≡ e.fmmus
  pub outs : c.outs ≡ e.outs
  pub ins : c.ins ≡ e.ins
  pub talk : c.talk ≡ e.talk
  pub done : c.done ≡ e.done

-- in SAFEOP, on the way to OP, or in OP
abbrev pub IsRunning : Rise → Type 0
IsRunning (Stays SafeOp) = Unit {0}
IsRunning (Stays Op) = Unit {0}
IsRunning (Climbs SafeOp Op) = Unit {0}
IsRunning _ = ⊥

pub record HasAllSet (st : Stage) (e : Config) : Type 0 where
  pub config : Config
  pub at : st ≡ Up config
  pub set : SameSet config e
  pub rise : e.rise ≡ Stays Op → IsRunning config.rise

set-trans : (c d e : Config) → SameSet c d → SameSet d e → SameSet c e
set-trans c d e h k = record { managers = h.managers ∙ k.managers; fmmus = h.fmmus ∙ k.fmmus; outs = h.outs ∙ k.outs; ins = h.ins ∙ k.ins; talk = h.talk ∙ k.talk; done = h.done ∙ k.done }

set-same : (c d : Config) → c ≡ d → SameSet c d
set-same c d e = record { managers = ap (λ (x : Config). x.managers) e; fmmus = ap (λ (x : Config). x.fmmus) e; outs = ap (λ (x : Config). x.outs) e; ins = ap (λ (x : Config). x.ins) e; talk = ap (λ (x : Config). x.talk) e; done = ap (λ (x : Config). x.done) e }

-- none of them sets a manager or an FMMU, and none talks
fed-keeps : (c : Config) (a : Action) → is_fed a ≡ true → SameSet c (config_after c a)
fed-keeps c (AskState t to) e = record { managers = refl; fmmus = refl; outs = refl; ins = refl; talk = refl; done = refl }
fed-keeps c (AwaitState t to) e = record { managers = refl; fmmus = refl; outs = refl; ins = refl; talk = refl; done = refl }
fed-keeps c _ e = absurd (both_ways false refl e)

-- the slave that it is for
abbrev fed_for : Action → ℕ
fed_for (AskState t to) = t
fed_for (AwaitState t to) = t
fed_for _ = 0

op-only : (to : State) → is_op to ≡ true → to ≡ Op
op-only Op e = refl
op-only Init e = absurd (both_ways false refl e)
op-only PreOp e = absurd (both_ways false refl e)
op-only SafeOp e = absurd (both_ways false refl e)

can-run : (r : Rise) → CanClimb r Op → IsRunning r
can-run (Stays SafeOp) h = tt
can-run (Stays Init) h = absurd h
can-run (Stays PreOp) h = absurd h
can-run (Stays Op) h = absurd h
can-run Falls h = absurd h
can-run (Climbs from to) h = absurd h

pub climbing-runs : (r : Rise) → IsClimbing r Op → IsRunning r
climbing-runs (Climbs SafeOp Op) h = tt
climbing-runs (Climbs SafeOp Init) h = absurd (cc h.1)
climbing-runs (Climbs SafeOp PreOp) h = absurd (cc h.1)
climbing-runs (Climbs SafeOp SafeOp) h = absurd (cc h.1)
climbing-runs (Climbs Init to) h = absurd h.0
climbing-runs (Climbs PreOp to) h = absurd h.0
climbing-runs (Climbs Op to) h = absurd h.0
climbing-runs Falls h = absurd h
climbing-runs (Stays state) h = absurd h

-- a slave that it is for stands in SAFEOP, or on the way
own-running : (i : ℕ) (c : Config) (a : Action) → is_fed a ≡ true → fed_for a ≡ i → Fits i (Up c) a → IsRunning c.rise
own-running i c (AskState t to) e m f = can-run c.rise (subst (λ (x : State). CanClimb c.rise x) (op-only to e) (f.2 m).1)
own-running i c (AwaitState t to) e m f = climbing-runs c.rise (subst (λ (x : State). IsClimbing c.rise x) (op-only to e) (f.2 m).1)
own-running i c _ e m f = absurd (both_ways false refl e)

-- such an action is for one slave
fed-one : (i : ℕ) (st : Stage) (a : Action) → is_fed a ≡ true → Fits i st a → (c : Config) × (st ≡ Up c) × (after i (Up c) a ≡ if_mine (fed_for a) i (Up (config_after c a)) (Up c))
fed-one i (Up c) (AskState t to) e f = (c, refl, refl)
fed-one i (Up c) (AwaitState t to) e f = (c, refl, refl)
fed-one i _ (AskState t to) e f = absurd f.1
fed-one i _ (AwaitState t to) e f = absurd f.1
fed-one i st _ e f = absurd (both_ways false refl e)

up-is : (c d : Config) → Up c ≡ Up d → c ≡ d
up-is c d q = cc q

pub all-set : (i : ℕ) (st : Stage) (rest : List Action) (e : Config) → AreFed rest → Leads i st rest (Up e) → HasAllSet st e
all-set i st [] e h l = record { config = e; at = l; set = set-same e e refl; rise = λ r. subst IsRunning (sym r) tt }
all-set i st (a ∷ rest) e h l =
    let one = fed-one i st a h.0 l.0 in
    let n : HasAllSet (after i (Up one.0) a) e = all-set i (after i (Up one.0) a) rest e h.1 (subst (λ (x : Stage). Leads i (after i x a) rest (Up e)) one.1 l.1) in
    by (fed_for a == i) refl one.0 one.1 n (sym one.2 ∙ n.at)
  where
    by : (b : Bool) → (fed_for a == i) ≡ b → (c : Config) → st ≡ Up c → (n : HasAllSet (after i (Up c) a) e) → (if b then Up (config_after c a) else Up c) ≡ Up n.config → HasAllSet st e
    by true m c at n q = let d = up-is (config_after c a) n.config q in
        record { config = c; at = at; rise = λ r. own-running i c a h.0 (eqb-true (fed_for a) i m) (subst (λ (x : Stage). Fits i x a) at l.0); set = set-trans c (config_after c a) e (fed-keeps c a h.0) (set-trans (config_after c a) n.config e (set-same (config_after c a) n.config d) n.set) }
    by false m c at n q = let d = up-is c n.config q in record { config = c; at = at; rise = λ r. subst IsRunning (sym (ap (λ (x : Config). x.rise) d)) (n.rise r); set = set-trans c n.config e (set-same c n.config d) n.set }

-- ---- no step of a script feeds a part

abbrev AreOwn : List Action → Type 0
AreOwn [] = Unit {0}
AreOwn (a ∷ rest) = ((f : Feed) → a ≡ FeedPart f → ⊥) × AreOwn rest

own-at : (xs : List Action) (k : ℕ) (f : Feed) → AreOwn xs → get_or xs k CountSlaves ≡ FeedPart f → ⊥
own-at [] k f h e = cc e
own-at (a ∷ xs) zero f h e = h.0 f e
own-at (a ∷ xs) (suc k) f h e = own-at xs k f h.1 e

own-append : (xs ys : List Action) → AreOwn xs → AreOwn ys → AreOwn (xs ++ ys)
own-append [] ys h k = k
own-append (a ∷ xs) ys h k = (h.0, own-append xs ys h.1 k)

each-own : (g : ℕ → SlavePlan → List Action) (k : ℕ) (ps : List SlavePlan) → ((i : ℕ) (p : SlavePlan) → AreOwn (g i p)) → AreOwn (each_slave g k ps)
each-own g k [] h = tt
each-own g k (p ∷ ps) h = own-append (g k p) (each_slave g (k + 1) ps) (h k p) (each-own g (k + 1) ps h)

settled-own : (i : ℕ) (o : Option Hardware) → AreOwn (settled_by i o)
settled-own i None = tt
settled-own i (Some h) = elim h.has_firmware as (λ b. AreOwn (if b then AwaitCleanInit i ∷ [] else [])) [ true ↦ (λ f e. cc e, tt) | false ↦ tt ]

mailbox-own : (i : ℕ) (p : SlavePlan) (o : Option Mailbox) → AreOwn (mailbox_set i p o)
mailbox-own i p None = tt
mailbox-own i p (Some b) = (λ f e. cc e, (λ f e. cc e, tt))

exchanged-own : (hardware : Bool) (i before : ℕ) (b : Mailbox) (rs : List SdoRequest) → AreOwn (exchanged hardware i b before rs)
exchanged-own hardware i before b [] = tt
exchanged-own true i before b (r ∷ rs) = (λ f e. cc e, (λ f e. cc e, exchanged-own true i (before + 1) b rs))
exchanged-own false i before b (r ∷ rs) = (λ f e. cc e, (λ f e. cc e, exchanged-own false i (before + 1) b rs))

talked-own : (i : ℕ) (p : SlavePlan) (o : Option Mailbox) → AreOwn (talked i p o)
talked-own i p None = tt
talked-own i p (Some b) = exchanged-own (is_some p.kind.hardware) i 0 b (requests p)

mapped-own : (i : ℕ) (p : SlavePlan) → AreOwn (mapped i p)
mapped-own i p =
    own-append (manager_set i p 2) _ (one-manager 2 ((settings_at p.managers 2).activate == 0))
    (own-append (manager_set i p 3) _ (one-manager 3 ((settings_at p.managers 3).activate == 0))
    (own-append (fmmu_set i p 0 (fmmu_at p.fmmus 0).active) _ (one-fmmu 0 (fmmu_at p.fmmus 0).active) (one-fmmu 1 (fmmu_at p.fmmus 1).active)))
  where
    one-manager : (n : ℕ) (b : Bool) → AreOwn (if b then [] else set_manager i p n ∷ [])
    one-manager n true = tt
    one-manager n false = (λ f e. cc e, tt)

    one-fmmu : (n : ℕ) (b : Bool) → AreOwn (fmmu_set i p n b)
    one-fmmu n true = (λ f e. cc e, tt)
    one-fmmu n false = tt

raised-own : (to : State) (i : ℕ) (p : SlavePlan) → AreOwn (raised to i p)
raised-own to i p = (λ f e. cc e, (λ f e. cc e, tt))

opened-own : (hardware : Bool) → AreOwn (opened hardware)
opened-own true = (λ f e. cc e, (λ f e. cc e, (λ f e. cc e, (λ f e. cc e, (λ f e. cc e, (λ f e. cc e, (λ f e. cc e, (λ f e. cc e, tt))))))))
opened-own false = (λ f e. cc e, (λ f e. cc e, (λ f e. cc e, (λ f e. cc e, (λ f e. cc e, tt)))))

closed-own : (hardware : Bool) → AreOwn (closed hardware)
closed-own true = (λ f e. cc e, tt)
closed-own false = tt

phases-own : (ps : List SlavePlan) → AreOwn (phases ps)
phases-own ps =
    own-append (opened (is_hardware ps)) _ (opened-own (is_hardware ps))
    (own-append (each_slave named 0 ps) _ (each-own named 0 ps (λ i p. (λ f e. cc e, tt)))
    (own-append (each_slave settled 0 ps) _ (each-own settled 0 ps (λ i p. settled-own i p.kind.hardware))
    (own-append (each_slave identified 0 ps) _ (each-own identified 0 ps (λ i p. (λ f e. cc e, (λ f e. cc e, (λ f e. cc e, (λ f e. cc e, (λ f e. cc e, (λ f e. cc e, tt))))))))
    (own-append (closed (is_hardware ps)) _ (closed-own (is_hardware ps))
    (own-append (each_slave (λ i p. mailbox_set i p p.kind.mailbox) 0 ps) _ (each-own (λ i p. mailbox_set i p p.kind.mailbox) 0 ps (λ i p. mailbox-own i p p.kind.mailbox))
    (own-append (each_slave (raised PreOp) 0 ps) _ (each-own (raised PreOp) 0 ps (raised-own PreOp))
    (own-append (each_slave (λ i p. talked i p p.kind.mailbox) 0 ps) _ (each-own (λ i p. talked i p p.kind.mailbox) 0 ps (λ i p. talked-own i p p.kind.mailbox))
    (own-append (each_slave mapped 0 ps) _ (each-own mapped 0 ps mapped-own)
    (own-append (each_slave (raised SafeOp) 0 ps) _ (each-own (raised SafeOp) 0 ps (raised-own SafeOp))
    (each-own (raised Op) 0 ps (raised-own Op)))))))))))

script-own : (ps : List SlavePlan) → AreOwn (script ps)
script-own [] = (λ f e. cc e, tt)
script-own (p ∷ ps) = (λ f e. cc e, phases-own (p ∷ ps))

pub own-step : (ps : List SlavePlan) (place : ℕ) (f : Feed) → get_or (script ps) place CountSlaves ≡ FeedPart f → ⊥
own-step ps place f e = own-at (script ps) place f (script-own ps) e

-- ---- which part is fed

-- a frame is that of its step
pub data Acts (s : StartState) : Type 0 where
  Own : action_of s ≡ step_of s → (is_fed (step_of s) ≡ true → slice_get s.feeds s.fed ≡ None) → Acts s
  -- or it feeds the next part of the list
  Part : (f : Feed) → action_of s ≡ FeedPart f → is_fed (step_of s) ≡ true → slice_get s.feeds s.fed ≡ Some f → Acts s

pub acts : (s : StartState) → Acts s
acts s = by (is_fed (step_of s)) refl (slice_get s.feeds s.fed) refl
  where
    by : (b : Bool) → is_fed (step_of s) ≡ b → (o : Option Feed) → slice_get s.feeds s.fed ≡ o → Acts s
    by false b o w = Own (ap (λ (x : Bool). if x then feed_or (slice_get s.feeds s.fed) (step_of s) else step_of s) b) (λ t. absurd (both_ways (is_fed (step_of s)) b t))
    by true b None w = Own (ap (λ (x : Bool). if x then feed_or (slice_get s.feeds s.fed) (step_of s) else step_of s) b ∙ ap (λ (o : Option Feed). feed_or o (step_of s)) w) (λ t. w)
    by true b (Some f) w = Part f (ap (λ (x : Bool). if x then feed_or (slice_get s.feeds s.fed) (step_of s) else step_of s) b ∙ ap (λ (o : Option Feed). feed_or o (step_of s)) w) b w
