-- The script brings every slave to the top: the actions fit one after another.
use Rattle.ec_bringup.proofs.Words.{has_firmware, ℕ, suc, ◌+◌, ◌-◌, ◌<◌, ◌≤◌, ◌≡◌, ◌≢◌, refl, sym, ◌∙◌, ap, subst, inl, inr, arith, List, [], ◌∷◌, ◌++◌, length, get_or, ◌==◌, Bool, true, false, Option, Some, None, if◌then◌else◌, set, cases_eq, eq-eqb, if_true, SlavePlan, Action, AskWord, AwaitWord, SetManager, AskState, AwaitState, SendRequest, AwaitReply, AwaitFreeReply, reply_awaited, is_some, SdoValue, each_slave, named, identified, mailbox_set, raised, exchanged, talked, manager_set, fmmu_set, mapped, phases, script, requests, Config, Stage, Up, config_after, after, Fits, CanAct, talked_over, asked_all, prepared, end_of, Rise, Stays, Before, Down, fresh, answered, answered_by, claimed, CanClimb, IsClimbing, climbing, IsLow, IsStepUp, Leads, SyncManagerSettings, FmmuSettings, Mailbox, no_settings, no_fmmu, State, Init, PreOp, SafeOp, Op, output_assignment, input_assignment, settings_at, fmmu_at, SdoRequest, Transfer, Download, Upload, AreRequests, IsStartable, AreMailboxes, Falls, Climbs, Lowered, named_of, IsClear, IsAtInit, IsNamed, AreNamed, AreNumbered, Hardware, fmmu_count, other_name, register_of, set_manager, set_fmmu, settled, settled_by, opened, closed, is_hardware, AwaitCleanInit, SlaveKind, ManagerRegister}
use Rattle.ec_bringup.proofs.OneFrame.OtherSlaves.{others-stay, ForAwaitCleanInit, ForAskState, ForAskWord, ForAwaitReply, ForAwaitFreeReply, ForAwaitState, ForAwaitWord, ForSend, ForSetFmmu, ForSetManager, IsFor, as_one, mine-told}

-- ---- runs of actions

abbrev pub AreFor : ℕ → List Action → Type 0
AreFor t [] = Unit {0}
AreFor t (a ∷ xs) = IsFor t a × AreFor t xs

pub for-append : (t : ℕ) (xs bs : List Action) → AreFor t xs → AreFor t bs → AreFor t (xs ++ bs)
for-append t [] bs h k = k
for-append t (a ∷ xs) bs h k = (h.0, for-append t xs bs h.1 k)

-- what an action asks, at a slave with its station address
abbrev pub BearsAt : (Config → Action → Type 0) → Stage → Action → Type 0
BearsAt B (Up c) a = B c a
BearsAt B _ a = Unit {0}

-- the actions fit one after another, and each that is for slave i finds what it asks; they bring the slave to a stage
abbrev pub Walks : (Config → Action → Type 0) → ℕ → Stage → List Action → Stage → Type 0
Walks B i st [] end = st ≡ end
Walks B i st (a ∷ xs) end = Fits i st a × (IsFor i a → BearsAt B st a) × Walks B i (after i st a) xs end

-- at the slave itself, they may be
abbrev pub Tells : (Config → Action → Type 0) → Config → List Action → Config → Type 0
Tells B c [] end = c ≡ end
Tells B c (a ∷ xs) end = CanAct c a × B c a × Tells B (config_after c a) xs end

pub walks-lead : (B : Config → Action → Type 0) (i : ℕ) (st end : Stage) (xs : List Action) → Walks B i st xs end → Leads i st xs end
walks-lead B i st end [] h = h
walks-lead B i st end (a ∷ xs) h = (h.0, walks-lead B i (after i st a) end xs h.2)

tells-append : (B : Config → Action → Type 0) (c mid end : Config) (xs bs : List Action) → Tells B c xs mid → Tells B mid bs end → Tells B c (xs ++ bs) end
tells-append B c mid end [] bs h k = subst (λ (x : Config). Tells B x bs end) (sym h) k
tells-append B c mid end (a ∷ xs) bs h k = (h.0, h.1, tells-append B (config_after c a) mid end xs bs h.2 k)

module _ (B : Config → Action → Type 0) (i : ℕ) where
  walks-append : (xs bs : List Action) (st mid end : Stage) → Walks B i st xs mid → Walks B i mid bs end → Walks B i st (xs ++ bs) end
  walks-append [] bs st mid end h k = subst (λ (x : Stage). Walks B i x bs end) (sym h) k
  walks-append (a ∷ xs) bs st mid end h k = (h.0, h.1, walks-append xs bs (after i st a) mid end h.2 k)

  -- those of another slave
  others-walk : (t : ℕ) (c : Config) (xs : List Action) → t ≢ i → t < 64 → AreFor t xs → Walks B i (Up c) xs (Up c)
  others-walk t c [] ne l h = refl
  others-walk t c (a ∷ xs) ne l h =
      let o = as_one 0 h.0 in
      let stays : after i (Up c) a ≡ Up c = o.leads i (Up c) ∙ others-stay t i _ _ ne in (
        o.fit i (Up c) (l, tt, λ e. absurd (ne e)),
        λ is. absurd ((as_one 0 is).other i (o.is_other i ne) refl),
        subst (λ (x : Stage). Walks B i x xs (Up c)) (sym stays) (others-walk t c xs ne l h.1),
      )

  -- its own
  own-walk : (c end : Config) (xs : List Action) → i < 64 → AreFor i xs → Tells B c xs end → Walks B i (Up c) xs (Up end)
  own-walk c end [] l h k = ap (λ (x : Config). Up x) k
  own-walk c end (a ∷ xs) l h k =
      let o = as_one 0 h.0 in (
        o.fit i (Up c) (l, tt, λ e. k.0),
        λ is. k.1,
        subst (λ (x : Stage). Walks B i x xs (Up end)) (sym (mine-told o c)) (own-walk (config_after c a) end xs l h.1 k.2),
      )

  -- ---- a phase over all slaves

  each-others : (f : ℕ → SlavePlan → List Action) (k : ℕ) (ps : List SlavePlan) (st : Stage) → i < k → k + length ps ≤ 64
      → ((t : ℕ) (p : SlavePlan) → t ≢ i → t < 64 → Walks B i st (f t p) st) → Walks B i st (each_slave f k ps) st
  each-others f k [] st l b h = refl
  each-others f k (p ∷ ps) st l b h =
      walks-append (f k p) (each_slave f (k + 1) ps) st st st (h k p (λ e. omega (arith, e, l)) (omega arith)) (each-others f (k + 1) ps st (omega arith) (omega arith) h)

  -- from one stage to another at its own turn
  each-walks : (f : ℕ → SlavePlan → List Action) (d : SlavePlan) (k : ℕ) (ps : List SlavePlan) (st end : Stage) → k ≤ i → i < k + length ps → k + length ps ≤ 64
      → ((t : ℕ) (p : SlavePlan) → t ≢ i → t < 64 → Walks B i st (f t p) st) → ((t : ℕ) (p : SlavePlan) → t ≢ i → t < 64 → Walks B i end (f t p) end)
      → Walks B i st (f i (get_or ps (i - k) d)) end → Walks B i st (each_slave f k ps) end
  each-walks f d k [] st end a l b h g mine = absurd (omega arith)
  each-walks f d k (p ∷ ps) st end a l b h g mine = elim (cases_eq k i) [
    | inl e ↦
        let z : i - k ≡ 0 = omega (arith, e) in
        walks-append (f k p) (each_slave f (k + 1) ps) st end end
        (subst (λ (x : ℕ). Walks B i st (f x p) end) (sym e) (subst (λ (x : ℕ). Walks B i st (f i (get_or (p ∷ ps) x d)) end) z mine))
        (each-others f (k + 1) ps end (omega (arith, e)) (omega arith) g)
    | inr ne ↦
        let below : k < i = omega (arith, ne, a) in
        let z : i - k ≡ suc (i - (k + 1)) = omega (arith, below) in
        walks-append (f k p) (each_slave f (k + 1) ps) st st end (h k p ne (omega arith))
        (each-walks f d (k + 1) ps st end (omega (arith, below)) (omega arith) (omega arith) h g (subst (λ (x : ℕ). Walks B i st (f i (get_or (p ∷ ps) x d)) end) z mine))
  ]

-- ---- the requests

pub record SameFrame (c d : Config) : Type 0 where
  pub managers : d.managers ≡ c.managers
  pub fmmus : d.fmmus ≡ c.fmmus
  pub idle : d.idle ≡ c.idle
  pub talk : d.talk ≡ None
  pub rise : d.rise ≡ c.rise

pub answered-frame : (c : Config) (r : SdoRequest) (x : Transfer) → SameFrame c (answered_by c r x)
answered-frame c r (Upload v) = record { managers = refl; fmmus = refl; idle = refl; talk = refl; rise = refl }
answered-frame c r (Download v) = by (r.index == output_assignment) (r.index == input_assignment)
  where
    by : (a b : Bool) → SameFrame c (if a then record c { talk = None; outs = claimed c.outs r.subindex v.number }
        else (if b then record c { talk = None; ins = claimed c.ins r.subindex v.number } else record c { talk = None }))
    by true b = record { managers = refl; fmmus = refl; idle = refl; talk = refl; rise = refl }
    by false true = record { managers = refl; fmmus = refl; idle = refl; talk = refl; rise = refl }
    by false false = record { managers = refl; fmmus = refl; idle = refl; talk = refl; rise = refl }

-- and it was done
pub answered-done : (c : Config) (r : SdoRequest) → (answered c r).done ≡ c.done ++ r ∷ []
answered-done c r = by-done (record c { done = c.done ++ r ∷ [] }) r.transfer
  where
    by : (d : Config) (v : SdoValue) (a b : Bool) → (if a then record d { talk = None; outs = claimed d.outs r.subindex v.number }
        else (if b then record d { talk = None; ins = claimed d.ins r.subindex v.number } else record d { talk = None })).done ≡ d.done
    by d v true b = refl
    by d v false true = refl
    by d v false false = refl

    by-done : (d : Config) (x : Transfer) → (answered_by d r x).done ≡ d.done
    by-done d (Upload v) = refl
    by-done d (Download v) = by d v (r.index == output_assignment) (r.index == input_assignment)

pub talked-frame : (c : Config) (rs : List SdoRequest) → c.talk ≡ None → SameFrame c (talked_over c rs)
talked-frame c [] e = record { managers = refl; fmmus = refl; idle = refl; talk = e; rise = refl }
talked-frame c (r ∷ rs) e =
    let a = answered-frame (record c { done = c.done ++ r ∷ [] }) r r.transfer in
    let b = talked-frame (answered c r) rs a.talk in
    record { managers = b.managers ∙ a.managers; fmmus = b.fmmus ∙ a.fmmus; idle = b.idle ∙ a.idle; talk = b.talk; rise = b.rise ∙ a.rise }

pub exchanged-for : (hardware : Bool) (i counter : ℕ) (b : Mailbox) (rs : List SdoRequest) → AreFor i (exchanged hardware i b counter rs)
exchanged-for hardware i counter b [] = tt
exchanged-for true i counter b (r ∷ rs) = (ForSend i counter b r, (ForAwaitFreeReply i b r, exchanged-for true i (counter + 1) b rs))
exchanged-for false i counter b (r ∷ rs) = (ForSend i counter b r, (ForAwaitReply i b r, exchanged-for false i (counter + 1) b rs))

-- ---- the opening, with `hardware` and without

-- where it leads
abbrev pub opened_to : Bool → Stage
opened_to true = Lowered true true
opened_to false = Down true true

opened-clear : (hardware : Bool) → IsClear (opened_to hardware)
opened-clear true = tt
opened-clear false = tt

-- and what is known of the AL state of a slave that is named there, and of one that has settled
abbrev pub named_rise : Bool → Rise
named_rise true = Falls
named_rise false = Stays Init

named-is : (hardware : Bool) → named_of (opened_to hardware) ≡ record fresh { rise = named_rise hardware }
named-is true = refl
named-is false = refl

named-low : (hardware : Bool) → IsAtInit (named_rise hardware)
named-low true = tt
named-low false = tt

abbrev pub settled_rise : Option Hardware → Rise → Rise
settled_rise None r = r
settled_rise (Some h) r = if h.has_firmware then Stays Init else r

pub settled-low : (o : Option Hardware) (r : Rise) → IsAtInit r → IsAtInit (settled_rise o r)
settled-low None r at = at
settled-low (Some h) r at = elim h.has_firmware as (λ b. IsAtInit (if b then Stays Init else r)) [ true ↦ tt | false ↦ at ]

-- a slave that has firmware has settled
settled-bare : (o : Option Hardware) (r : Rise) → settled_rise o r ≡ Falls → (o ≡ None → r ≡ Stays Init) → has_firmware o ≡ false
settled-bare None r e plain = absurd (let f : Stays Init ≡ Falls = sym (plain refl) ∙ e in cc)
settled-bare (Some h) r e plain = by h.has_firmware e
  where
    by : (b : Bool) → (if b then Stays Init else r) ≡ Falls → b ≡ false
    by true q = absurd (cc q)
    by false q = refl

low-at-init : (r : Rise) → IsAtInit r → IsLow r
low-at-init Falls at = tt
low-at-init (Stays Init) at = tt
low-at-init _ at = absurd at

climbs-at-init : (r : Rise) → IsAtInit r → climbing r PreOp ≡ Climbs Init PreOp
climbs-at-init Falls at = refl
climbs-at-init (Stays Init) at = refl
climbs-at-init _ at = absurd at

can-at-init : (r : Rise) → IsAtInit r → CanClimb r PreOp
can-at-init Falls at = tt
can-at-init (Stays Init) at = tt
can-at-init _ at = absurd at

-- ---- the actions of a slave itself, phase by phase

abbrev pub identity_known : Config
identity_known = record fresh { idle = true }

abbrev pub boxed : SyncManagerSettings → SyncManagerSettings → Config
boxed m0 m1 = record identity_known { managers = m0 ∷ m1 ∷ no_settings ∷ no_settings ∷ [] }

settled-for : (i : ℕ) (o : Option Hardware) → AreFor i (settled_by i o)
settled-for i None = tt
settled-for i (Some h) = elim h.has_firmware as (λ b. AreFor i (if b then AwaitCleanInit i ∷ [] else [])) [ true ↦ (ForAwaitCleanInit i, tt) | false ↦ tt ]

identified-for : (i : ℕ) (p : SlavePlan) → AreFor i (identified i p)
identified-for i p = (ForAskWord i 0, (ForAwaitWord i 0, (ForAskWord i 1, (ForAwaitWord i 1, (ForAskWord i 2, (ForAwaitWord i 2, tt))))))

mailbox-for : (i : ℕ) (p : SlavePlan) (o : Option Mailbox) → AreFor i (mailbox_set i p o)
mailbox-for i p None = tt
mailbox-for i p (Some b) = (ForSetManager i 0 _ _, (ForSetManager i 1 _ _, tt))

raised-for : (state : State) (i : ℕ) (p : SlavePlan) → AreFor i (raised state i p)
raised-for state i p = (ForAskState i state, (ForAwaitState i state, tt))

manager-for : (i n : ℕ) (p : SlavePlan) (b : Bool) → AreFor i (if b then [] else set_manager i p n ∷ [])
manager-for i n p true = tt
manager-for i n p false = (ForSetManager i n _ _, tt)

fmmu-for : (i n : ℕ) (p : SlavePlan) (b : Bool) → AreFor i (fmmu_set i p n b)
fmmu-for i n p true = (ForSetFmmu i n _ _, tt)
fmmu-for i n p false = tt

mapped-for : (i : ℕ) (p : SlavePlan) → AreFor i (mapped i p)
mapped-for i p =
    for-append i _ _ (manager-for i 2 p ((settings_at p.managers 2).activate == 0))
    (for-append i _ _ (manager-for i 3 p ((settings_at p.managers 3).activate == 0))
    (for-append i _ _ (fmmu-for i 0 p (fmmu_at p.fmmus 0).active) (fmmu-for i 1 p (fmmu_at p.fmmus 1).active)))

talked-for : (i : ℕ) (p : SlavePlan) (o : Option Mailbox) → AreFor i (talked i p o)
talked-for i p None = tt
talked-for i p (Some b) = exchanged-for (is_some p.kind.hardware) i 0 b (requests p)

abbrev pub mapped_to : Config → SlavePlan → Config
mapped_to c p = record c { managers = p.managers; fmmus = p.fmmus }

-- ---- what they ask, and what they set

-- the actions that ask no more than a word of the identity to be one of three
abbrev pub IsEasy : Action → Type 0
IsEasy (AskWord t which) = which < 3
IsEasy (AwaitWord t which) = which < 3
IsEasy (AwaitCleanInit t) = ⊥
IsEasy (AskState t to) = ⊥
IsEasy (AwaitState t to) = ⊥
IsEasy (SendRequest t counter b r) = ⊥
IsEasy (AwaitReply t b r) = ⊥
IsEasy (AwaitFreeReply t b r) = ⊥
IsEasy _ = Unit {0}

-- a request that was sent
abbrev pub talking : Config → ℕ → Mailbox → SdoRequest → Config
talking c counter b r = record c { talk = Some (record { mailbox = b; counter = counter; request = r }) }

-- each request that is sent, at what is known by the ones before it, and the wait for its reply
abbrev pub AllSent : (Config → Action → Type 0) → (hardware : Bool) → ℕ → ℕ → Mailbox → Config → List SdoRequest → Type 0
AllSent B hardware i counter b c [] = Unit {0}
AllSent B hardware i counter b c (r ∷ rs) =
    B c (SendRequest i counter b r) × B (talking c counter b r) (reply_awaited hardware i b r) × AllSent B hardware i (counter + 1) b (answered c r) rs

-- a state that is asked for, and the wait for it
abbrev pub BearsUp : (Config → Action → Type 0) → ℕ → Config → State → Type 0
BearsUp B i c to = B c (AskState i to) × B (record c { rise = climbing c.rise to }) (AwaitState i to)

-- what the plan of slave i has to give
pub record Bearing (B : Config → Action → Type 0) (i : ℕ) (p : SlavePlan) : Type 0 where
  pub easy : (c : Config) (a : Action) → IsEasy a → B c a
  -- of a type of real devices that has firmware
  pub clean : (c : Config) → has_firmware p.kind.hardware ≡ true → B c (AwaitCleanInit i)
  pub to_preop : (r : Rise) → (r ≡ Falls → has_firmware p.kind.hardware ≡ false) → BearsUp B i (record (boxed (settings_at p.managers 0) (settings_at p.managers 1)) { rise = r }) PreOp
  pub sends : (b : Mailbox) → p.kind.mailbox ≡ Some b → AllSent B (is_some p.kind.hardware) i 0 b (prepared p) (requests p)
  pub to_safeop : BearsUp B i (mapped_to (asked_all (prepared p) p p.kind.mailbox) p) SafeOp
  pub to_op : BearsUp B i (record (mapped_to (asked_all (prepared p) p p.kind.mailbox) p) { rise = Stays SafeOp }) Op

pub asked-frame : (p : SlavePlan) (o : Option Mailbox) → SameFrame (prepared p) (asked_all (prepared p) p o)
asked-frame p None = record { managers = refl; fmmus = refl; idle = refl; talk = refl; rise = refl }
asked-frame p (Some b) = talked-frame (prepared p) (requests p) refl

-- a plan, and a configuration, of these managers and FMMUs
abbrev Maps : (Config → Action → Type 0) → ℕ → SlavePlan → Config → (ms ns : List SyncManagerSettings) (fs gs : List FmmuSettings) → Type 0
Maps B i p c ms ns fs gs = Tells B (record c { managers = ns; fmmus = gs }) (mapped i (record p { managers = ms; fmmus = fs })) (record c { managers = ms; fmmus = fs })

module _ (B : Config → Action → Type 0) (i : ℕ) (easy : (c : Config) (a : Action) → IsEasy a → B c a) where
  -- a word of the identity
  word-tells : (n : ℕ) (c end : Config) (xs : List Action) → n < 3 → IsLow c.rise → c.talk ≡ None → Tells B (record c { idle = true }) xs end → Tells B c (AskWord i n ∷ AwaitWord i n ∷ xs) end
  word-tells n c end xs l low none k = ((low, none), easy _ (AskWord i n) l, ((low, none), easy _ (AwaitWord i n) l, k))

  settled-tells : (o : Option Hardware) (r : Rise) → IsAtInit r → ((c : Config) → has_firmware o ≡ true → B c (AwaitCleanInit i))
      → Tells B (record fresh { rise = r }) (settled_by i o) (record fresh { rise = settled_rise o r })
  settled-tells None r at clean = refl
  settled-tells (Some h) r at clean = by h.has_firmware (clean (record fresh { rise = r }))
    where
      by : (b : Bool) → (b ≡ true → B (record fresh { rise = r }) (AwaitCleanInit i)) → Tells B (record fresh { rise = r }) (if b then AwaitCleanInit i ∷ [] else []) (record fresh { rise = if b then Stays Init else r })
      by true c = ((at, refl), c refl, refl)
      by false c = refl

  identified-tells : (p : SlavePlan) (r : Rise) → IsLow r → Tells B (record fresh { rise = r }) (identified i p) (record identity_known { rise = r })
  identified-tells p r low =
      word-tells 0 (record fresh { rise = r }) (record identity_known { rise = r }) (AskWord i 1 ∷ AwaitWord i 1 ∷ AskWord i 2 ∷ AwaitWord i 2 ∷ []) (omega arith) low refl
      (word-tells 1 (record identity_known { rise = r }) (record identity_known { rise = r }) (AskWord i 2 ∷ AwaitWord i 2 ∷ []) (omega arith) low refl
      (word-tells 2 (record identity_known { rise = r }) (record identity_known { rise = r }) [] (omega arith) low refl refl))

  mailbox-tells : (p : SlavePlan) (o : Option Mailbox) (r : Rise) → IsAtInit r → (o ≡ None → identity_known ≡ boxed (settings_at p.managers 0) (settings_at p.managers 1))
      → Tells B (record identity_known { rise = r }) (mailbox_set i p o) (record (boxed (settings_at p.managers 0) (settings_at p.managers 1)) { rise = r })
  mailbox-tells p None r low h = ap (λ (c : Config). record c { rise = r }) (h refl)
  mailbox-tells p (Some b) r low h = ((low-at-init r low, omega arith, refl, refl, λ l. low), easy _ (set_manager i p 0) tt, ((low-at-init r low, omega arith, refl, refl, λ l. low), easy _ (set_manager i p 1) tt, refl))

  -- a step up, from a state that allows it
  steps-tells : (to : State) (p : SlavePlan) (c : Config) → c.talk ≡ None → CanClimb c.rise to → IsClimbing (climbing c.rise to) to → BearsUp B i c to → Tells B c (raised to i p) (record c { rise = Stays to })
  steps-tells to p c none can climbs asks = ((none, can), asks.0, ((none, climbs), asks.1, refl))

  raised-tells : (from to : State) (p : SlavePlan) (c : Config) → c.rise ≡ Stays from → c.talk ≡ None → IsStepUp from to → BearsUp B i c to → Tells B c (raised to i p) (record c { rise = Stays to })
  raised-tells from to p c e none up asks =
      steps-tells to p c none (subst (λ (r : Rise). CanClimb r to) (sym e) up) (subst (λ (r : Rise). IsClimbing (climbing r to) to) (sym e) (up, refl)) asks

  exchanged-tells : (hardware : Bool) (counter : ℕ) (b : Mailbox) (c : Config) (rs : List SdoRequest) → c.rise ≡ Stays PreOp → c.talk ≡ None → AreMailboxes b c.managers → AreRequests rs → AllSent B hardware i counter b c rs
      → Tells B c (exchanged hardware i b counter rs) (talked_over c rs)
  exchanged-tells hardware counter b c [] low none boxes qs h = refl
  exchanged-tells true counter b c (r ∷ rs) low none boxes qs h =
      let a = answered-frame (record c { done = c.done ++ r ∷ [] }) r r.transfer in (
        (low, none, boxes, qs.0),
        h.0,
        (
          (low, (counter, refl), boxes),
          h.1,
          exchanged-tells true (counter + 1) b (answered c r) rs (a.rise ∙ low) a.talk (subst (λ (x : List SyncManagerSettings). AreMailboxes b x) (sym a.managers) boxes) qs.1 h.2,
        ),
      )
  exchanged-tells false counter b c (r ∷ rs) low none boxes qs h =
      let a = answered-frame (record c { done = c.done ++ r ∷ [] }) r r.transfer in (
        (low, none, boxes, qs.0),
        h.0,
        (
          (low, (counter, refl), boxes),
          h.1,
          exchanged-tells false (counter + 1) b (answered c r) rs (a.rise ∙ low) a.talk (subst (λ (x : List SyncManagerSettings). AreMailboxes b x) (sym a.managers) boxes) qs.1 h.2,
        ),
      )

  talked-tells : (p : SlavePlan) (o : Option Mailbox) → AreRequests (requests p) → ((b : Mailbox) → o ≡ Some b → AreMailboxes b (prepared p).managers × AllSent B (is_some p.kind.hardware) i 0 b (prepared p) (requests p))
      → Tells B (prepared p) (talked i p o) (asked_all (prepared p) p o)
  talked-tells p None q h = refl
  talked-tells p (Some b) q h = exchanged-tells (is_some p.kind.hardware) 0 b (prepared p) (requests p) refl refl (h b refl).0 q (h b refl).1

  -- a manager, or an FMMU, that is set in its place, or is nothing there and in the plan
  manager-tells : (n : ℕ) (c : Config) (m : SyncManagerSettings) (b : Bool) → 2 ≤ n → n < 4 → length c.managers ≡ 4 → IsLow c.rise → c.talk ≡ None → set c.managers n no_settings ≡ c.managers
      → (b ≡ true → m ≡ no_settings) → (q : ManagerRegister) → Tells B c (if b then [] else SetManager i n m q ∷ []) (record c { managers = set c.managers n m })
  manager-tells n c m true high l four low none same unset q = ap (λ (ms : List SyncManagerSettings). record c { managers = ms }) (sym (ap (set c.managers n) (unset refl) ∙ same))
  manager-tells n c m false high l four low none same unset q = ((low, omega arith, four, none, λ z. absurd (omega (arith, z, high))), easy _ (SetManager i n m q) tt, refl)

  fmmu-tells : (n : ℕ) (p : SlavePlan) (c : Config) (b : Bool) → n < 4 → length c.fmmus ≡ 4 → IsLow c.rise → c.talk ≡ None → set c.fmmus n no_fmmu ≡ c.fmmus
      → (b ≡ false → fmmu_at p.fmmus n ≡ no_fmmu) → Tells B c (fmmu_set i p n b) (record c { fmmus = set c.fmmus n (fmmu_at p.fmmus n) })
  fmmu-tells n p c true l four low none same unset = ((low, omega arith, four, none), easy _ (set_fmmu i p n) tt, refl)
  fmmu-tells n p c false l four low none same unset = ap (λ (fs : List FmmuSettings). record c { fmmus = fs }) (sym (ap (set c.fmmus n) (unset refl) ∙ same))

  mapped-tells : (p : SlavePlan) (c : Config) (h : IsStartable p) → c.managers ≡ h.m0 ∷ h.m1 ∷ no_settings ∷ no_settings ∷ [] → c.fmmus ≡ fresh.fmmus → IsLow c.rise → c.talk ≡ None
      → Tells B c (mapped i p) (mapped_to c p)
  mapped-tells p c h em ef low none =
      let ms : List SyncManagerSettings = h.m0 ∷ h.m1 ∷ h.m2 ∷ h.m3 ∷ [] in
      let fs : List FmmuSettings = h.f0 ∷ h.f1 ∷ no_fmmu ∷ no_fmmu ∷ [] in
      let q : SlavePlan = record p { managers = ms; fmmus = fs } in
      let c1 : Config = record c { managers = h.m0 ∷ h.m1 ∷ no_settings ∷ no_settings ∷ []; fmmus = fresh.fmmus } in
      let c2 : Config = record c1 { managers = h.m0 ∷ h.m1 ∷ h.m2 ∷ no_settings ∷ [] } in
      let c3 : Config = record c1 { managers = ms } in
      let c4 : Config = record c3 { fmmus = h.f0 ∷ no_fmmu ∷ no_fmmu ∷ no_fmmu ∷ [] } in
      let c5 : Config = record c { managers = ms; fmmus = fs } in
      subst (λ x. Maps B i p c x c.managers p.fmmus c.fmmus) (sym h.managers) (subst (λ x. Maps B i p c ms c.managers x c.fmmus) (sym h.fmmus)
      (subst (λ x. Maps B i p c ms x fs c.fmmus) (sym em) (subst (λ x. Maps B i p c ms c1.managers fs x) (sym ef)
      (tells-append B c1 c2 c5 (manager_set i q 2) _ (manager-tells 2 c1 h.m2 (h.m2.activate == 0) (omega arith) (omega arith) refl low none refl h.no_outputs _)
      (tells-append B c2 c3 c5 (manager_set i q 3) _ (manager-tells 3 c2 h.m3 (h.m3.activate == 0) (omega arith) (omega arith) refl low none refl h.no_inputs _)
      (tells-append B c3 c4 c5 (fmmu_set i q 0 h.f0.active) _ (fmmu-tells 0 q c3 h.f0.active (omega arith) refl low none refl h.no_out_fmmu)
      (fmmu-tells 1 q c4 h.f1.active (omega arith) refl low none refl h.no_in_fmmu)))))))

-- ---- the whole script

module _ (B : Config → Action → Type 0) (i : ℕ) (d : SlavePlan) where
  -- one phase that sets each slave by itself
  phase-walks : (f : ℕ → SlavePlan → List Action) → ((t : ℕ) (p : SlavePlan) → AreFor t (f t p)) → (ps : List SlavePlan) (c end : Config) → i < length ps → length ps ≤ 64
      → Tells B c (f i (get_or ps i d)) end → Walks B i (Up c) (each_slave f 0 ps) (Up end)
  phase-walks f h ps c end l b k =
      each-walks B i f d 0 ps (Up c) (Up end) (omega arith) (omega arith) (omega arith)
      (λ t p ne lt. others-walk B i t c (f t p) ne lt (h t p)) (λ t p ne lt. others-walk B i t end (f t p) ne lt (h t p))
      (let z : i - 0 ≡ i = omega arith in subst (λ (x : ℕ). Walks B i (Up c) (f i (get_or ps x d)) (Up end)) (sym z) (own-walk B i c end (f i (get_or ps i d)) (omega arith) (h i (get_or ps i d)) k))

  named-walks : (ps : List SlavePlan) (st : Stage) → IsClear st → i < length ps → length ps ≤ 64 → Walks B i st (each_slave named 0 ps) (Up (named_of st))
  named-walks ps st clear l b =
      each-walks B i named d 0 ps st (Up (named_of st)) (omega arith) (omega arith) (omega arith)
      (λ t p ne lt. ((lt, λ e. absurd (ne e)), λ is. elim is [ ], others-stay t i (Up (named_of st)) st ne))
      (λ t p ne lt. ((lt, λ e. absurd (ne e)), λ is. elim is [ ], others-stay t i (Up (named_of (Up (named_of st)))) (Up (named_of st)) ne))
      ((omega arith, λ e. clear), λ is. elim is [ ], if_true _ _ _ (eq-eqb i i refl))

  opened-walks : (hardware : Bool) → Walks B i Before (opened hardware) (opened_to hardware)
  opened-walks true = (tt, λ is. tt, (tt, λ is. tt, (tt, λ is. tt, (tt, λ is. tt, (tt, λ is. tt, (tt, λ is. tt, (tt, λ is. tt, (tt, λ is. tt, refl))))))))
  opened-walks false = (tt, λ is. tt, (tt, λ is. tt, (tt, λ is. tt, (tt, λ is. tt, (tt, λ is. tt, refl)))))

  -- a stretch for all slaves that changes nothing of what is known
  given-back : (hardware : Bool) (c : Config) → Walks B i (Up c) (closed hardware) (Up c)
  given-back true c = (tt, λ is. elim is [ ], refl)
  given-back false c = refl

  phases-walk : (ps : List SlavePlan) → i < length ps → length ps ≤ 64 → IsStartable (get_or ps i d) → is_some (get_or ps i d).kind.hardware ≡ is_hardware ps → Bearing B i (get_or ps i d) → Walks B i Before (phases ps) (Up (end_of (get_or ps i d)))
  phases-walk ps l b h alike v =
      let p : SlavePlan = get_or ps i d in
      let o : Option Mailbox = p.kind.mailbox in
      let e : (prepared p).managers ≡ h.m0 ∷ h.m1 ∷ no_settings ∷ no_settings ∷ []
      = ap (λ (ms : List SyncManagerSettings). settings_at ms 0 ∷ settings_at ms 1 ∷ no_settings ∷ no_settings ∷ []) h.managers in
      let none : o ≡ None → h.m0 ∷ h.m1 ∷ no_settings ∷ no_settings ∷ [] ≡ no_settings ∷ no_settings ∷ no_settings ∷ no_settings ∷ []
      = λ q. let n = h.no_mailbox q in cc (n.0, n.1) in
      let hw : Bool = is_hardware ps in
      let plain : p.kind.hardware ≡ None → named_rise hw ≡ Stays Init = λ z. ap named_rise (sym alike ∙ ap is_some z) in
      let r0 : Rise = named_rise hw in
      let r1 : Rise = settled_rise p.kind.hardware r0 in
      let at : IsAtInit r1 = settled-low p.kind.hardware r0 (named-low hw) in
      let n0 : Config = record fresh { rise = r0 } in
      let n1 : Config = record fresh { rise = r1 } in
      let k1 : Config = record identity_known { rise = r1 } in
      let c2 : Config = record (boxed (settings_at p.managers 0) (settings_at p.managers 1)) { rise = r1 } in
      let c4 : Config = asked_all (prepared p) p o in
      let fr : SameFrame (prepared p) c4 = asked-frame p o in
      let c5 : Config = mapped_to c4 p in
      let c6 : Config = record c5 { rise = Stays SafeOp } in
      walks-append B i (opened hw) _ Before (opened_to hw) (Up (end_of p)) (opened-walks hw)
      (walks-append B i (each_slave named 0 ps) _ (opened_to hw) (Up n0) (Up (end_of p))
      (subst (λ (c : Config). Walks B i (opened_to hw) (each_slave named 0 ps) (Up c)) (named-is hw) (named-walks ps (opened_to hw) (opened-clear hw) l b))
      (walks-append B i (each_slave settled 0 ps) _ (Up n0) (Up n1) (Up (end_of p))
      (phase-walks settled (λ t q. settled-for t q.kind.hardware) ps n0 n1 l b (settled-tells B i v.easy p.kind.hardware r0 (named-low hw) v.clean))
      (walks-append B i (each_slave identified 0 ps) _ (Up n1) (Up k1) (Up (end_of p))
      (phase-walks identified identified-for ps n1 k1 l b (identified-tells B i v.easy p r1 (low-at-init r1 at)))
      (walks-append B i (closed hw) _ (Up k1) (Up k1) (Up (end_of p)) (given-back hw k1)
      (walks-append B i (each_slave (λ j q. mailbox_set j q q.kind.mailbox) 0 ps) _ (Up k1) (Up c2) (Up (end_of p))
      (phase-walks (λ j q. mailbox_set j q q.kind.mailbox) (λ t q. mailbox-for t q q.kind.mailbox) ps k1 c2 l b
      (mailbox-tells B i v.easy p o r1 at (λ q. ap (λ (ms : List SyncManagerSettings). record identity_known { managers = ms }) (sym (e ∙ none q)))))
      (walks-append B i (each_slave (raised PreOp) 0 ps) _ (Up c2) (Up (prepared p)) (Up (end_of p))
      (phase-walks (raised PreOp) (raised-for PreOp) ps c2 (prepared p) l b
      (steps-tells B i v.easy PreOp p c2 refl (can-at-init r1 at) (subst (λ (r : Rise). IsClimbing r PreOp) (sym (climbs-at-init r1 at)) (tt, refl)) (v.to_preop r1 (λ q. settled-bare p.kind.hardware r0 q plain))))
      (walks-append B i (each_slave (λ j q. talked j q q.kind.mailbox) 0 ps) _ (Up (prepared p)) (Up c4) (Up (end_of p))
      (phase-walks (λ j q. talked j q q.kind.mailbox) (λ t q. talked-for t q q.kind.mailbox) ps (prepared p) c4 l b
      (talked-tells B i v.easy p o h.requests (λ x q. (subst (λ (ms : List SyncManagerSettings). AreMailboxes x ms) (sym e) (h.mailbox x q), v.sends x q))))
      (walks-append B i (each_slave mapped 0 ps) _ (Up c4) (Up c5) (Up (end_of p))
      (phase-walks mapped mapped-for ps c4 c5 l b (mapped-tells B i v.easy p c4 h (fr.managers ∙ e) fr.fmmus (subst (λ (r : Rise). IsLow r) (sym fr.rise) tt) fr.talk))
      (walks-append B i (each_slave (raised SafeOp) 0 ps) _ (Up c5) (Up c6) (Up (end_of p))
      (phase-walks (raised SafeOp) (raised-for SafeOp) ps c5 c6 l b (raised-tells B i v.easy PreOp SafeOp p c5 fr.rise fr.talk tt v.to_safeop))
      (phase-walks (raised Op) (raised-for Op) ps c6 (end_of p) l b (raised-tells B i v.easy SafeOp Op p c6 refl fr.talk tt v.to_op)))))))))))

-- of a plan with slaves
pub script-walks : (B : Config → Action → Type 0) (d p : SlavePlan) (ps : List SlavePlan) (i : ℕ) → i < length (p ∷ ps) → length (p ∷ ps) ≤ 64 → IsStartable (get_or (p ∷ ps) i d)
    → is_some (get_or (p ∷ ps) i d).kind.hardware ≡ is_hardware (p ∷ ps) → Bearing B i (get_or (p ∷ ps) i d) → Walks B i Before (script (p ∷ ps)) (Up (end_of (get_or (p ∷ ps) i d)))
script-walks B d p ps i l b h alike v = (tt, λ is. tt, phases-walk B i d (p ∷ ps) l b h alike v)

-- where nothing more is asked
pub script-leads : (d p : SlavePlan) (ps : List SlavePlan) (i : ℕ) → i < length (p ∷ ps) → length (p ∷ ps) ≤ 64 → IsStartable (get_or (p ∷ ps) i d) → is_some (get_or (p ∷ ps) i d).kind.hardware ≡ is_hardware (p ∷ ps)
    → Leads i Before (script (p ∷ ps)) (Up (end_of (get_or (p ∷ ps) i d)))
script-leads d p ps i l b h alike =
    walks-lead (λ c a. Unit {0}) i Before (Up (end_of (get_or (p ∷ ps) i d))) (script (p ∷ ps))
    (script-walks (λ c a. Unit {0}) d p ps i l b h alike
    (record { easy = λ c a e. tt; clean = λ c e. tt; to_preop = λ r q. (tt, tt); sends = λ x e. any-sent (is_some (get_or (p ∷ ps) i d).kind.hardware) 0 x _ _; to_safeop = (tt, tt); to_op = (tt, tt) }))
  where
    any-sent : (hardware : Bool) (counter : ℕ) (x : Mailbox) (c : Config) (rs : List SdoRequest) → AllSent (λ c a. Unit {0}) hardware i counter x c rs
    any-sent hardware counter x c [] = tt
    any-sent hardware counter x c (r ∷ rs) = (tt, tt, any-sent hardware (counter + 1) x (answered c r) rs)

-- ---- every action goes by the names of its slave's registers

module _ (kind : SlaveKind) (i : ℕ) where
  named-append : (xs bs : List Action) → AreNamed kind i xs → AreNamed kind i bs → AreNamed kind i (xs ++ bs)
  named-append [] bs h k = k
  named-append (a ∷ xs) bs h k = (h.0, named-append xs bs h.1 k)

  -- a phase over all slaves
  each-named : (f : ℕ → SlavePlan → List Action) (d : SlavePlan) (k : ℕ) (ps : List SlavePlan) → ((j : ℕ) → j < length ps → AreNamed kind i (f (k + j) (get_or ps j d))) → AreNamed kind i (each_slave f k ps)
  each-named f d k [] h = tt
  each-named f d k (p ∷ ps) h =
      let z : k + 0 ≡ k = omega arith in
      named-append (f k p) (each_slave f (k + 1) ps) (subst (λ (n : ℕ). AreNamed kind i (f n p)) z (h 0 (omega arith)))
      (each-named f d (k + 1) ps (λ j l. let q : k + suc j ≡ k + 1 + j = omega arith in subst (λ (n : ℕ). AreNamed kind i (f n (get_or ps j d))) q (h (suc j) (omega (arith, l)))))

-- what the plan of slave i has to have: its registers have names, and it has an FMMU for each direction
module _ (i : ℕ) (d : SlavePlan) (ps : List SlavePlan) (numbered : AreNumbered (get_or ps i d).kind.hardware) (enough : 2 ≤ fmmu_count (get_or ps i d).kind.hardware)
    (faceless : is_hardware ps ≡ true → (get_or ps i d).kind.face ≡ None) where
  abbrev own : SlaveKind
  own = (get_or ps i d).kind

  -- a manager, and an FMMU, as the plan of the slave has it
  manager-named : (t n : ℕ) → IsNamed own i (set_manager t (get_or ps t d) n)
  manager-named t n e = (ap (λ (k : ℕ). register_of (get_or ps k d).kind n (settings_at (get_or ps t d).managers n)) e, numbered)

  fmmu-named : (t n : ℕ) → n < 2 → IsNamed own i (set_fmmu t (get_or ps t d) n)
  fmmu-named t n l e = (ap (λ (k : ℕ). other_name (get_or ps k d).kind.hardware (fmmu_at (get_or ps t d).fmmus n).physical_start) e, omega (arith, l, enough))

  named-named : (t : ℕ) (p : SlavePlan) → AreNamed own i (named t p)
  named-named t p = (tt, tt)

  settled-named : (t : ℕ) (o : Option Hardware) → AreNamed own i (settled_by t o)
  settled-named t None = tt
  settled-named t (Some h) = elim h.has_firmware as (λ b. AreNamed own i (if b then AwaitCleanInit t ∷ [] else [])) [ true ↦ (tt, tt) | false ↦ tt ]

  identified-named : (t : ℕ) (p : SlavePlan) → AreNamed own i (identified t p)
  identified-named t p = (tt, (tt, (tt, (tt, (tt, (tt, tt))))))

  mailbox-named : (t : ℕ) (o : Option Mailbox) → AreNamed own i (mailbox_set t (get_or ps t d) o)
  mailbox-named t None = tt
  mailbox-named t (Some b) = (manager-named t 0, (manager-named t 1, tt))

  raised-named : (state : State) (t : ℕ) (p : SlavePlan) → AreNamed own i (raised state t p)
  raised-named state t p = (tt, (tt, tt))

  exchanged-named : (hardware : Bool) (t before : ℕ) (b : Mailbox) (rs : List SdoRequest) → AreNamed own i (exchanged hardware t b before rs)
  exchanged-named hardware t before b [] = tt
  exchanged-named true t before b (r ∷ rs) = (tt, (tt, exchanged-named true t (before + 1) b rs))
  exchanged-named false t before b (r ∷ rs) = (tt, (tt, exchanged-named false t (before + 1) b rs))

  talked-named : (t : ℕ) (p : SlavePlan) (o : Option Mailbox) → AreNamed own i (talked t p o)
  talked-named t p None = tt
  talked-named t p (Some b) = exchanged-named (is_some p.kind.hardware) t 0 b (requests p)

  mapped-named : (t : ℕ) → AreNamed own i (mapped t (get_or ps t d))
  mapped-named t =
      named-append own i _ _ (one-manager 2 ((settings_at (get_or ps t d).managers 2).activate == 0))
      (named-append own i _ _ (one-manager 3 ((settings_at (get_or ps t d).managers 3).activate == 0))
      (named-append own i _ _ (one-fmmu 0 (omega arith) (fmmu_at (get_or ps t d).fmmus 0).active) (one-fmmu 1 (omega arith) (fmmu_at (get_or ps t d).fmmus 1).active)))
    where
      one-manager : (n : ℕ) (b : Bool) → AreNamed own i (if b then [] else set_manager t (get_or ps t d) n ∷ [])
      one-manager n true = tt
      one-manager n false = (manager-named t n, tt)

      one-fmmu : (n : ℕ) → n < 2 → (b : Bool) → AreNamed own i (fmmu_set t (get_or ps t d) n b)
      one-fmmu n l true = (fmmu-named t n l, tt)
      one-fmmu n l false = tt

  opened-named : (hardware : Bool) → (hardware ≡ true → own.face ≡ None) → AreNamed own i (opened hardware)
  opened-named true f = (tt, (tt, (tt, (numbered, (tt, (f refl, (f refl, (tt, tt))))))))
  opened-named false f = (tt, (tt, (tt, (numbered, (tt, tt)))))

  closed-named : (hardware : Bool) → (hardware ≡ true → own.face ≡ None) → AreNamed own i (closed hardware)
  closed-named true f = (f refl, tt)
  closed-named false f = tt

  phases-named : AreNamed own i (phases ps)
  phases-named =
      named-append own i (opened (is_hardware ps)) _ (opened-named (is_hardware ps) faceless)
      (named-append own i _ _ (each-named own i named d 0 ps (λ j l. named-named (0 + j) (get_or ps j d)))
      (named-append own i _ _ (each-named own i settled d 0 ps (λ j l. settled-named (0 + j) (get_or ps j d).kind.hardware))
      (named-append own i _ _ (each-named own i identified d 0 ps (λ j l. identified-named (0 + j) (get_or ps j d)))
      (named-append own i (closed (is_hardware ps)) _ (closed-named (is_hardware ps) faceless)
      (named-append own i _ _ (each-named own i (λ t p. mailbox_set t p p.kind.mailbox) d 0 ps (λ j l. at j (λ t. AreNamed own i (mailbox_set t (get_or ps j d) (get_or ps j d).kind.mailbox)) (mailbox-named j (get_or ps j d).kind.mailbox)))
      (named-append own i _ _ (each-named own i (raised PreOp) d 0 ps (λ j l. raised-named PreOp (0 + j) (get_or ps j d)))
      (named-append own i _ _ (each-named own i (λ t p. talked t p p.kind.mailbox) d 0 ps (λ j l. talked-named (0 + j) (get_or ps j d) (get_or ps j d).kind.mailbox))
      (named-append own i _ _ (each-named own i mapped d 0 ps (λ j l. at j (λ t. AreNamed own i (mapped t (get_or ps j d))) (mapped-named j)))
      (named-append own i _ _ (each-named own i (raised SafeOp) d 0 ps (λ j l. raised-named SafeOp (0 + j) (get_or ps j d)))
      (each-named own i (raised Op) d 0 ps (λ j l. raised-named Op (0 + j) (get_or ps j d))))))))))))
    where
      at : (j : ℕ) (P : ℕ → Type 0) → P j → P (0 + j)
      at j P h = let z : 0 + j ≡ j = omega arith in subst P (sym z) h

pub script-named : (d p : SlavePlan) (ps : List SlavePlan) (i : ℕ) → AreNumbered (get_or (p ∷ ps) i d).kind.hardware → 2 ≤ fmmu_count (get_or (p ∷ ps) i d).kind.hardware
    → (is_hardware (p ∷ ps) ≡ true → (get_or (p ∷ ps) i d).kind.face ≡ None) → AreNamed (get_or (p ∷ ps) i d).kind i (script (p ∷ ps))
script-named d p ps i numbered enough faceless = (tt, phases-named i d (p ∷ ps) numbered enough faceless)
