-- A frame of a start-up past all slaves: where each stands, and what comes back.
use Rattle.ec_bringup.proofs.Words.{ℕ, suc, ◌+◌, ◌-◌, ◌*◌, ◌/◌, ◌%◌, ◌<◌, ◌≤◌, ◌≡◌, ◌≢◌, Bool, true, false, refl, ◌∙◌, ap, subst, inl, inr, arith, List, [], ◌∷◌, length, slice_index, ◌^◌, ◌==◌, Option, sym, if◌then◌else◌, bit_or, from_bool, cases_eq, or_left, eq-eqb, zeros, Device, SlaveKind, ram_start, is_stored, Apwr, Bwr, Datagram, IsDatagram, adp_of, State, Init, state_number, SiiImage, SlaveState, Meeting, Window, byte_at, window_of, meets, slave_met, datagram_met, meets-keeps, other_position_passes, Action, CountSlaves, AskInit, AwaitInit, ClearFmmus, ClearManagers, ClearStations, NameSlave, AskWord, AwaitWord, SetManager, SetFmmu, AskState, AwaitState, SendRequest, AwaitReply, station, datagram_of, Stage, after, Up, Config, Talk, Stands, IsUpAt, Talks, Arrives, Met, IsBroadcast, IsWriting, IsOfType, all_passed, all_met, served, inside_kept, shows_itself, if_true, Verdict, Next, verdict, CanAct, sent, word_at, WantedDevice, AwaitInitState, ClearAllFmmus, ClearAllManagers, AssignSii, ClearSiiError, AwaitCleanInit, FeedPart, PreOp, SafeOp, Op, Rise, Falls, Stays, Climbs, Rises, has_firmware, or_mod, Hardware, None, is_missing, fmmu_count, ◌⊎◌, Al, both_ways, cases_lt, ne_eqb, if_false, is_init, IsStepUp, IsClimbing, HasFallen, Reached, ShowsLow, AwaitFreeReply, Again, Aside, Heard, steps_slow, Called, wanted_of}
use Rattle.ec_bringup.specs.Stages.{IsAtInit, IsCalled}
use Rattle.ec_bringup.proofs.OneSlave.Lacking.{has-above, has-below}
use Rattle.ec_bringup.proofs.OneFrame.OtherSlaves.{IsOne, one-passes, ForAskState, ForAskWord, ForAwaitReply, ForAwaitFreeReply, ForAwaitState, ForAwaitCleanInit, ForAwaitWord, ForSend, ForSetFmmu, ForSetManager, IsFor, as_one}
use Rattle.ec_bringup.proofs.OneFrame.FrameLaw.{pass-law, later-law, look, look-byte, shows-lower, bits-state}
use Rattle.ec_bringup.proofs.OneFrame.RegisterPolls.{write-counts, register-writes}
use Rattle.ec_bringup.proofs.OneFrame.BroadcastWrites.{window-is, broadcast-writes}
use Rattle.ec_bringup.proofs.OneFrame.NameSlave.{naming, position-writes}
use Rattle.ec_bringup.proofs.OneFrame.RegisterWrites.{window-sent}
use Rattle.ec_bringup.proofs.OneFrame.Commands.{IsThere, word_of, HasFound, ask-state-goes, ask-word-goes, set-fmmu-goes, set-manager-goes}
use Rattle.ec_bringup.proofs.OneSlave.Dry.{DryAt, dry-after, dry-at-met, dry-at-served}
use Rattle.ec_bringup.proofs.AllSlaves.Delays.{IsAskedInit, LateAt, IsPolled, reached-of, up-of, slow-firm, late-after, late-again}
use Rattle.ec_bringup.proofs.AllSlaves.NextAction.{Prior, Prompted, Suits, Sure, IsPaced, next-sure, same-sure}
use Rattle.ec_bringup.proofs.Mailbox.AwaitReply.{boxes-of}
use Rattle.ec_bringup.proofs.OneFrame.Awaits.{Tells, IsTold, await-clean-ends, await-clean-goes-on, await-state-ends, await-state-goes-on, await-word-ends, await-reply-ends, await-free-ends, await-free-goes-on}
use Rattle.ec_bringup.proofs.OneSlave.MailboxServed.{request-goes}

-- a property of each slave by its place
abbrev pub Each : (ℕ → SlaveState → Type 0) → ℕ → List SlaveState → Type 0
Each P j [] = Unit {0}
Each P j (s ∷ ss) = P j s × Each P (j + 1) ss

-- ---- the image of the SII stays

pub spelled-on : (kind : SlaveKind) (s r : SlaveState) → r.sii.image ≡ s.sii.image → IsOfType kind s.sii.image.identity → IsOfType kind r.sii.image.identity
spelled-on kind s r e h = subst (λ (i : SiiImage). IsOfType kind i.identity) (sym e) h

-- ---- where each slave stands

-- a slave that the whole frame has passed
pub record After (kind : SlaveKind) (i : ℕ) (st : Stage) (x : Al) (n next : ℕ) (a b : Action) (end : Datagram) (t : SlaveState) : Type 0 where
  pub met : Met kind i st false a end t
  pub spelled : IsOfType kind t.sii.image.identity
  pub sure : Stands kind i (after i st a) false t → Sure kind i x next 0 b (served t)
  pub late : Stands kind i (after i st a) false t → LateAt kind x (n + 1) (after i st a) (served t)
  pub dry : Stands kind i (after i st a) false t → DryAt (after i st a) (served t)

-- and where the wait goes on
pub record Still (kind : SlaveKind) (i : ℕ) (st : Stage) (x : Al) (n more here : ℕ) (a : Action) (end : Datagram) (t : SlaveState) : Type 0 where
  pub met : Met kind i st false a end t
  pub spelled : IsOfType kind t.sii.image.identity
  pub sure : Stands kind i st false t → Sure kind i x more (here + 1) a (served t)
  pub late : Stands kind i st false t → LateAt kind x (n + 1) st (served t)
  pub dry : Stands kind i st false t → DryAt st (served t)

-- a datagram of an action as it comes to slave j, and the slaves from there on
pub record Ahead (kinds : ℕ → SlaveKind) (stages : ℕ → Stage) (xs : ℕ → Al) (n more here number : ℕ) (a : Action) (j : ℕ) (ss : List SlaveState) (d : Datagram) : Type 0 where
  pub few : j + length ss ≤ 64
  pub good : IsDatagram d
  pub arrives : Arrives a number j d
  pub priors : Each (λ i s. Prior (kinds i) i (stages i) (xs i) n more here a s) j ss

look-step : (s : SlaveState) (d : Datagram) (number : ℕ) → IsBroadcast (datagram_of AwaitInit number) d → (datagram_met s d).counter ≡ (d.counter + 1) % 65536
look-step s d number h = ap (λ (m : Meeting). m.datagram.counter) (look s d number h)

status-init : (s : SlaveState) → IsThere Init s → byte_at s 0x0130 ≡ 1
status-init s h = (shows_itself s).status ∙ (ap (λ (x : State). state_number x + 16 * from_bool s.al.error) h.state_is ∙ ap (λ (x : Bool). 1 + 16 * from_bool x) h.no_error)

or-one : (x : ℕ) → x ≤ 1 → bit_or x 1 ≡ 1
or-one (suc (suc x)) l = absurd (omega (arith, l))
or-one _ l = refl

-- the data after a slave in INIT
init-data : (s : SlaveState) (d : Datagram) (number : ℕ) → IsBroadcast (datagram_of AwaitInit number) d → IsThere Init s → slice_index d.data_bytes 0 ≤ 1 → slice_index d.data_bytes 1 ≡ 0
    → (slice_index (datagram_met s d).data_bytes 0 ≡ 1) × (slice_index (datagram_met s d).data_bytes 1 ≡ 0)
init-data s d number h there low high = (
  look-byte s d number 0 h (omega arith) ∙ (ap (bit_or (slice_index d.data_bytes 0)) (status-init s there) ∙ or-one (slice_index d.data_bytes 0) low),
  look-byte s d number 1 h (omega arith) ∙ (ap (λ (x : ℕ). bit_or x (byte_at s 0x0131)) high ∙ ap (bit_or 0) (shows_itself s).status_high),
)

-- and after one whose state is INIT, with an error or without
status-low : (s : SlaveState) → s.al.state ≡ Init → byte_at s 0x0130 % 16 ≡ 1
status-low s e = ap (λ (x : ℕ). x % 16) ((shows_itself s).status ∙ ap (λ (x : State). state_number x + 16 * from_bool s.al.error) e) ∙ by s.al.error
  where
    by : (b : Bool) → (1 + 16 * from_bool b) % 16 ≡ 1
    by true = refl
    by false = refl

or-low-one : (x y : ℕ) → x % 16 ≤ 1 → y % 16 ≡ 1 → bit_or x y % 16 ≡ 1
or-low-one x y l e = or_mod x y 4 ∙ (ap (bit_or (x % 16)) e ∙ or-one (x % 16) l)

low-data : (s : SlaveState) (d : Datagram) (number : ℕ) → IsBroadcast (datagram_of AwaitInit number) d → s.al.state ≡ Init → slice_index d.data_bytes 0 % 16 ≤ 1
    → slice_index (datagram_met s d).data_bytes 0 % 16 ≡ 1
low-data s d number h there low =
    ap (λ (x : ℕ). x % 16) (look-byte s d number 0 h (omega arith)) ∙ or-low-one (slice_index d.data_bytes 0) (byte_at s 0x0130) low (status-low s there)

-- the slave that an action is for has its station address, and can be set
own-prior : (kind : SlaveKind) (t : ℕ) (x : Al) (n more here number : ℕ) (a : Action) (st : Stage) (s : SlaveState) (P : Type 0) → IsOne a t number
    → ((c : Config) → t < 64 → Prior kind t (Up c) x n more here a s → IsUpAt t c s → CanAct c a → P) → Prior kind t st x n more here a s → P
own-prior kind t x n more here number a (Up c) s P one own h = let f = one.fits t (Up c) h.fits in own c f.0 h (up-of kind t c s h.stands) (f.2 refl)
own-prior kind t x n more here number a st s P one own h = absurd (one.fits t st h.fits).1

-- ---- the waits for INIT, by what has waited

-- it was in INIT as it was asked for it, or the request was decided
abbrev pub HasCome : SlaveKind → Al → ℕ → Type 0
HasCome kind x n = (x.state ≡ Init) ⊎ (steps_slow kind.hardware + 2 ≤ n)

-- it wasn't, and the request waits
abbrev pub IsOut : SlaveKind → Al → ℕ → Type 0
IsOut kind x n = (is_init x.state ≡ false) × (n < steps_slow kind.hardware + 2)

-- it was asked for INIT, and that request is known
called-is : (kind : SlaveKind) (i : ℕ) (st : Stage) (s : SlaveState) → IsCalled st → Stands kind i st false s → Reached i Called s
called-is kind i Called s c h = reached-of kind i Called s h
called-is kind i _ s c h = absurd c

called-asked : (st : Stage) → IsCalled st → IsAskedInit st
called-asked Called c = tt
called-asked _ c = absurd c

decided-fallen : (i : ℕ) (s : SlaveState) → s.al.requested ≡ false → Reached i Called s → HasFallen s
decided-fallen i s e (inl r) = absurd (both_ways s.al.requested e r.0)
decided-fallen i s e (inr r) = r

called-there : (kind : SlaveKind) (i : ℕ) (st : Stage) (x : Al) (n more here : ℕ) (s : SlaveState) → kind.hardware ≡ None → 2 ≤ n → Prior kind i st x n more here AwaitInit s → IsThere Init s
called-there kind i st x n more here s bare two h =
    let none : steps_slow kind.hardware ≡ 0 = ap steps_slow bare in
    let e : s.al.requested ≡ false = (h.late (called-asked st h.fits)).1 (omega (arith, none, two)) in
    let r : HasFallen s = decided-fallen i s e (called-is kind i st s h.fits h.stands) in
    record { state_is = r.state; no_error = r.no_error (ap (λ (y : SlaveKind). has_firmware y.hardware) h.stands.slave.kind_is ∙ ap has_firmware bare) e; no_request = e }

called-low : (kind : SlaveKind) (i : ℕ) (st : Stage) (x : Al) (n more here : ℕ) (s : SlaveState) → HasCome kind x n → Prior kind i st x n more here AwaitInitState s → s.al.state ≡ Init
called-low kind i st x n more here s come h = elim (cases_lt n (steps_slow kind.hardware + 2)) [
  | inl m ↦ ((h.late (called-asked st h.fits)).0 m).state ∙ (elim come [
    | inl e ↦ e
    | inr l ↦ absurd (omega (arith, l, m))
  ])
  | inr m ↦ (decided-fallen i s ((h.late (called-asked st h.fits)).1 m) (called-is kind i st s h.fits h.stands)).state
]

called-out : (kind : SlaveKind) (i : ℕ) (st : Stage) (x : Al) (n more here : ℕ) (s : SlaveState) → IsOut kind x n → Prior kind i st x n more here AwaitInitState s → byte_at s 0x0130 % 16 ≤ 1 → ⊥
called-out kind i st x n more here s out h low =
    let late = (h.late (called-asked st h.fits)).0 out.1 in
    let init : s.al.state ≡ Init = bits-state s.al.state s.al.error (subst (λ (y : ℕ). y % 16 ≤ 1) (shows_itself s).status low) in
    both_ways (is_init x.state) out.0 (ap is_init (sym late.state ∙ init))

module _ (kinds : ℕ → SlaveKind) (stages : ℕ → Stage) (xs : ℕ → Al) (n more here number : ℕ) where
  onward : (a : Action) (j : ℕ) (s : SlaveState) (ss : List SlaveState) (d : Datagram) → Ahead kinds stages xs n more here number a j (s ∷ ss) d
      → Met (kinds j) j (stages j) false a (datagram_met s d) (slave_met s d) × Ahead kinds stages xs n more here number a (j + 1) ss (datagram_met s d)
  onward a j s ss d h =
      let p = h.priors.0 in
      let m = pass-law (kinds j) j (stages j) false a number d s (omega (arith, h.few)) h.good p.fits p.named h.arrives p.stands in
      (m.0, record { few = omega (arith, h.few); good = (meets-keeps s d h.good).0; arrives = m.1; priors = h.priors.1 })

  later-all : (a : Action) (i k : ℕ) (ss : List SlaveState) (d : Datagram) (t : SlaveState) → i < k → Ahead kinds stages xs n more here number a k ss d
      → Met (kinds i) i (stages i) false a d t → Met (kinds i) i (stages i) false a (all_passed ss d) t
  later-all a i k [] d t l h m = m
  later-all a i k (s ∷ ss) d t l h m =
      later-all a i (k + 1) ss (datagram_met s d) t (omega (arith, l)) (onward a k s ss d h).1
      (later-law (kinds i) i (stages i) false (kinds k) k (stages k) false a number d t s l (omega (arith, h.few)) h.priors.0.fits h.good h.arrives h.priors.0.stands m)

  pub pass-all : (a b : Action) (next j : ℕ) (ss : List SlaveState) (d : Datagram) → ((i : ℕ) → i < j + length ss → Suits (kinds i) b × IsPaced (kinds i) i a b next) → Prompted a b → (a ≡ AskInit → n ≡ 1)
      → Ahead kinds stages xs n more here number a j ss d → Each (λ i t. After (kinds i) i (stages i) (xs i) n next a b (all_passed ss d) t) j (all_met ss d)
  pass-all a b next j [] d suits p one h = tt
  pass-all a b next j (s ∷ ss) d suits p one h =
      let here0 = onward a j s ss d h in
      let prior = h.priors.0 in
      let l : j < 64 = omega (arith, h.few) in
      let suit = suits j (omega arith) in (
        record {
          met = later-all a j (j + 1) ss (datagram_met s d) (slave_met s d) (omega arith) here0.1 here0.0;
          spelled = spelled-on (kinds j) s (slave_met s d) (inside_kept s d).image prior.spelled;
          sure = next-sure (kinds j) j (stages j) (xs j) n more here next number d s (slave_met s d) l refl a b suit.0 p suit.1 prior h.arrives;
          late = λ k. late-after (kinds j) j number d s l h.good (stages j) (xs j) n a prior.fits h.arrives prior.stands k
              (λ e. (one e, subst (λ (y : Action). Sure (kinds j) j (xs j) more here y s) e prior.sure)) prior.late;
          dry = λ k. dry-after (kinds j) j (stages j) a (slave_met s d) prior.fits (dry-at-met (stages j) s d prior.dry) k;
        },
        pass-all a b next (j + 1) ss (datagram_met s d) (λ i m. suits i (omega (arith, m))) p one here0.1,
      )

  -- one poll more
  pub wait-all : (a : Action) (j : ℕ) (ss : List SlaveState) (d : Datagram) → IsPolled a more here → Ahead kinds stages xs n more here number a j ss d
      → Each (λ i t. Still (kinds i) i (stages i) (xs i) n more here a (all_passed ss d) t) j (all_met ss d)
  wait-all a j [] d p h = tt
  wait-all a j (s ∷ ss) d p h =
      let here0 = onward a j s ss d h in
      let prior = h.priors.0 in
      let l : j < 64 = omega (arith, h.few) in (
        record {
          met = later-all a j (j + 1) ss (datagram_met s d) (slave_met s d) (omega arith) here0.1 here0.0;
          spelled = spelled-on (kinds j) s (slave_met s d) (inside_kept s d).image prior.spelled;
          sure = λ k. same-sure (kinds j) j (stages j) (xs j) n more here number d s l h.good a p h.arrives prior k;
          late = λ k. late-again (kinds j) j number d s l h.good (stages j) (xs j) n more here a p prior.fits h.arrives prior.stands k prior.late;
          dry = λ k. dry-at-served (stages j) (slave_met s d) k.slave.four (dry-at-met (stages j) s d prior.dry);
        },
        wait-all a (j + 1) ss (datagram_met s d) p here0.1,
      )

  -- ---- a broadcast counts each slave

  counter-all : (a : Action) (j all : ℕ) (ss : List SlaveState) (d : Datagram) → j + length ss ≤ all
      → ((i : ℕ) (s : SlaveState) (x : Datagram) → i < all → Prior (kinds i) i (stages i) (xs i) n more here a s → Arrives a number i x → (datagram_met s x).counter ≡ (x.counter + 1) % 65536)
      → d.counter + length ss < 65536 → Ahead kinds stages xs n more here number a j ss d → (all_passed ss d).counter ≡ d.counter + length ss
  counter-all a j all [] d in_all each few h = let e : d.counter ≡ d.counter + 0 = omega arith in e
  counter-all a j all (s ∷ ss) d in_all each few h =
      let c : (datagram_met s d).counter ≡ d.counter + 1 = let x = each j s d (omega (arith, in_all)) h.priors.0 h.arrives in omega (arith, x, few) in
      let k = counter-all a (j + 1) all ss (datagram_met s d) (omega (arith, in_all)) each (omega (arith, c, few)) (onward a j s ss d h).1 in
      omega (arith, c, k)

  all-count : (a : Action) (ss : List SlaveState) → (datagram_of a number).counter ≡ 0
      → ((i : ℕ) (s : SlaveState) (x : Datagram) → i < length ss → Prior (kinds i) i (stages i) (xs i) n more here a s → Arrives a number i x → (datagram_met s x).counter ≡ (x.counter + 1) % 65536)
      → Ahead kinds stages xs n more here number a 0 ss (datagram_of a number) → (all_passed ss (datagram_of a number)).counter ≡ length ss
  all-count a ss z each h = let k = counter-all a 0 (length ss) ss (datagram_of a number) (omega arith) each (omega (arith, h.few, z)) h in omega (arith, k, z)

  -- a write of registers that are stored
  write-count : (a : Action) (ado : ℕ) (bytes : List ℕ) (ss : List SlaveState) → datagram_of a number ≡ sent Bwr 0 ado bytes number → ((i : ℕ) (x : Datagram) → Arrives a number i x → IsWriting (datagram_of a number) x (i % 65536))
      → 0 < length bytes → ado + 0 < ram_start → is_stored (ado + 0) ≡ true
      → ((i : ℕ) (s : SlaveState) → i < length ss → Prior (kinds i) i (stages i) (xs i) n more here a s → is_missing s.kind.hardware (ado + 0) ≡ false) → Ahead kinds stages xs n more here number a 0 ss (datagram_of a number) → (all_passed ss (datagram_of a number)).counter ≡ length ss
  write-count a ado bytes ss e is some low stored there h =
      let w : Window = record { from = ado; bytes = bytes } in
      all-count a ss (ap (λ (x : Datagram). x.counter) e)
      (λ i s x b p q. write-counts s x w 0 (broadcast-writes s x ((is i x q).command ∙ ap (λ (y : Datagram). y.command) e))
      (window-is (datagram_of a number) x (i % 65536) w (is i x q) (ap window_of e ∙ window-sent Bwr 0 ado bytes number)) some (there i s b p) (register-writes s w 0 low (or_left _ _ stored))) h

  -- all show INIT, where one slave at least does
  init-all : (j : ℕ) (s : SlaveState) (ss : List SlaveState) (d : Datagram) → slice_index d.data_bytes 0 ≤ 1 → slice_index d.data_bytes 1 ≡ 0 → 2 ≤ n → ((i : ℕ) → i < j + length (s ∷ ss) → (kinds i).hardware ≡ None)
      → Ahead kinds stages xs n more here number AwaitInit j (s ∷ ss) d
      → (slice_index (all_passed (s ∷ ss) d).data_bytes 0 ≡ 1) × (slice_index (all_passed (s ∷ ss) d).data_bytes 1 ≡ 0)
  init-all j s [] d low high two bare h = init-data s d number h.arrives (called-there (kinds j) j (stages j) (xs j) n more here s (bare j (omega arith)) two h.priors.0) low high
  init-all j s (t ∷ ss) d low high two bare h =
      let x = init-data s d number h.arrives (called-there (kinds j) j (stages j) (xs j) n more here s (bare j (omega arith)) two h.priors.0) low high in
      init-all (j + 1) t ss (datagram_met s d) (omega (arith, x.0)) x.1 two (λ i l. bare i (omega (arith, l))) (onward AwaitInit j s (t ∷ ss) d h).1

  -- all show INIT, with an error or without
  low-all : (j : ℕ) (s : SlaveState) (ss : List SlaveState) (d : Datagram) → slice_index d.data_bytes 0 % 16 ≤ 1 → ((i : ℕ) → i < j + length (s ∷ ss) → HasCome (kinds i) (xs i) n)
      → Ahead kinds stages xs n more here number AwaitInitState j (s ∷ ss) d → slice_index (all_passed (s ∷ ss) d).data_bytes 0 % 16 ≡ 1
  low-all j s [] d low come h = low-data s d number h.arrives (called-low (kinds j) j (stages j) (xs j) n more here s (come j (omega arith)) h.priors.0) low
  low-all j s (t ∷ ss) d low come h =
      let x = low-data s d number h.arrives (called-low (kinds j) j (stages j) (xs j) n more here s (come j (omega arith)) h.priors.0) low in
      low-all (j + 1) t ss (datagram_met s d) (omega (arith, x)) (λ i l. come i (omega (arith, l))) (onward AwaitInitState j s (t ∷ ss) d h).1

  -- a slave later on makes no state lower
  low-before : (j : ℕ) (ss : List SlaveState) (d : Datagram) → Ahead kinds stages xs n more here number AwaitInitState j ss d → ShowsLow (all_passed ss d) → ShowsLow d
  low-before j [] d h low = low
  low-before j (s ∷ ss) d h low = (shows-lower s d number h.arrives (low-before (j + 1) ss (datagram_met s d) (onward AwaitInitState j s ss d h).1 low)).0

  -- so one that isn't in INIT is seen
  high-shown : (t j : ℕ) (ss : List SlaveState) (d : Datagram) → j ≤ t → t < j + length ss → IsOut (kinds t) (xs t) n → Ahead kinds stages xs n more here number AwaitInitState j ss d → ShowsLow (all_passed ss d) → ⊥
  high-shown t j [] d l m out h low = omega (arith, l, m)
  high-shown t j (s ∷ ss) d l m out h low = elim (cases_eq j t) [
    | inl e ↦
        let one = shows-lower s d number h.arrives (low-before (j + 1) ss (datagram_met s d) (onward AwaitInitState j s ss d h).1 low) in
        called-out (kinds t) t (stages t) (xs t) n more here s out (subst (λ (y : ℕ). Prior (kinds y) y (stages y) (xs y) n more here AwaitInitState s) e h.priors.0) one.1
    | inr ne ↦ high-shown t (j + 1) ss (datagram_met s d) (omega (arith, l, ne)) (omega (arith, m)) out (onward AwaitInitState j s ss d h).1 low
  ]

  -- ---- an action for one slave: what that one makes of the datagram

  one-beyond : (a : Action) (t j : ℕ) (ss : List SlaveState) (d : Datagram) → IsOne a t number → t < j → Ahead kinds stages xs n more here number a j ss d → all_passed ss d ≡ d
  one-beyond a t j [] d one l h = refl
  one-beyond a t j (s ∷ ss) d one l h =
      let f = one.fits j (stages j) h.priors.0.fits in
      let m : meets s d ≡ record { slave = s; datagram = d }
      = one-passes (kinds j) j t (stages j) false s one.e d one.ado (omega (arith, h.few)) f.0 (λ q. omega (arith, q, l)) f.1 h.priors.0.stands h.good one.command one.address (one.arrives j d h.arrives).gone_by in
      let q : datagram_met s d ≡ d = ap (λ (x : Meeting). x.datagram) m in
      ap (all_passed ss) q ∙ one-beyond a t (j + 1) ss d one (omega (arith, l)) (subst (λ (x : Datagram). Ahead kinds stages xs n more here number a (j + 1) ss x) q (onward a j s ss d h).1)

  one-reach : (a : Action) (t j : ℕ) (ss : List SlaveState) (d : Datagram) (P : Datagram → Type 0) (one : IsOne a t number) → ((s : SlaveState) → Prior (kinds t) t (stages t) (xs t) n more here a s → P (datagram_met s one.e))
      → j ≤ t → t < j + length ss → Ahead kinds stages xs n more here number a j ss d → P (all_passed ss d)
  one-reach a t j [] d P one own l m h = absurd (omega (arith, l, m))
  one-reach a t j (s ∷ ss) d P one own l m h = elim (cases_eq j t) [
    | inl e ↦
        subst P (sym (one-beyond a t (j + 1) ss (datagram_met s d) one (omega (arith, e)) (onward a j s ss d h).1 ∙ ap (datagram_met s) ((one.arrives j d h.arrives).to_come l)))
        (own s (subst (λ (x : ℕ). Prior (kinds x) x (stages x) (xs x) n more here a s) e h.priors.0))
    | inr ne ↦ one-reach a t (j + 1) ss (datagram_met s d) P one own (omega (arith, l, ne)) (omega (arith, m)) (onward a j s ss d h).1
  ]

  -- ---- a station address

  name-beyond : (t j : ℕ) (ss : List SlaveState) (d : Datagram) → t < 64 → t < j → Ahead kinds stages xs n more here number (NameSlave t) j ss d → (all_passed ss d).counter ≡ d.counter
  name-beyond t j [] d lt l h = refl
  name-beyond t j (s ∷ ss) d lt l h =
      let adp : adp_of d ≢ 0 = λ z. omega (arith, h.arrives.adp_is, l, h.few, lt, z) in
      let m = other_position_passes s d h.good (inr (inl h.arrives.command)) adp in
      name-beyond t (j + 1) ss (datagram_met s d) lt (omega (arith, l)) (onward (NameSlave t) j s ss d h).1 ∙ ap (λ (x : Meeting). x.datagram.counter) m

  name-reach : (t j : ℕ) (ss : List SlaveState) (d : Datagram) → t < 64 → j ≤ t → t < j + length ss → d.counter ≡ 0 → Ahead kinds stages xs n more here number (NameSlave t) j ss d → (all_passed ss d).counter ≡ 1
  name-reach t j [] d lt l m z h = absurd (omega (arith, l, m))
  name-reach t j (s ∷ ss) d lt l m z h = elim (cases_eq t j) [
    | inl e ↦
        let adp : adp_of d ≡ 0 = omega (arith, h.arrives.adp_is, e, h.few) in
        let win = window-is (datagram_of (NameSlave t) number) d _ (naming t) h.arrives (window-sent Apwr (65536 - t) 0x0010 (station t % 256 ∷ station t / 256 ∷ []) number) in
        let c = write-counts s d (naming t) 0 (position-writes s d h.arrives.command adp) win (omega arith) (has-below s.kind.hardware 0x0010 (omega arith)) (register-writes s (naming t) 0 (omega arith) refl) in
        let k = name-beyond t (j + 1) ss (datagram_met s d) lt (omega (arith, e)) (onward (NameSlave t) j s ss d h).1 in
        omega (arith, c, k, z)
    | inr ne ↦
        let p = other_position_passes s d h.good (inr (inl h.arrives.command)) (λ q. omega (arith, h.arrives.adp_is, ne, l, h.few, lt, q)) in
        name-reach t (j + 1) ss (datagram_met s d) lt (omega (arith, l, ne)) (omega (arith, m)) (ap (λ (x : Meeting). x.datagram.counter) p ∙ z) (onward (NameSlave t) j s ss d h).1
  ]

-- ---- the verdict on a frame that passed all slaves undisturbed: the action is done, or the wait goes on

-- what comes back where nothing disturbs
abbrev pub IsWanted : (ℕ → WantedDevice) → Action → Verdict → Type 0
IsWanted types (AwaitWord t which) v = IsTold (types t) which v
IsWanted types _ v = v ≡ Next

-- the slave that it is for is there, and it is of a table with `hardware` or without
abbrev pub IsInside : Bool → ℕ → Action → Type 0
IsInside hw n AwaitInit = hw ≡ false
IsInside hw n ClearFmmus = hw ≡ false
IsInside hw n AwaitInitState = hw ≡ true
IsInside hw n (AwaitCleanInit t) = (t < n) × (hw ≡ true)
IsInside hw n (FeedPart f) = ⊥
IsInside hw n (NameSlave t) = t < n
IsInside hw n (AskWord t which) = (t < n) × (which < 3)
IsInside hw n (AwaitWord t which) = (t < n) × (which < 3)
IsInside hw n (SetManager t k m r) = (t < n) × (r.number < 4)
IsInside hw n (SetFmmu t k f start) = t < n
IsInside hw n (AskState t to) = t < n
IsInside hw n (AwaitState t to) = t < n
IsInside hw n (SendRequest t counter b r) = t < n
IsInside hw n (AwaitReply t b r) = (t < n) × (hw ≡ false)
IsInside hw n (AwaitFreeReply t b r) = (t < n) × (hw ≡ true)
IsInside hw n _ = Unit {0}

-- the words that were shown before are the type's
abbrev pub Told : (ℕ → WantedDevice) → Device → Action → Type 0
Told types seen (AskWord t which) = Tells (types t).device seen which
Told types seen (AwaitWord t which) = Tells (types t).device seen which
Told types seen _ = Unit {0}

-- the frame as it is sent comes to the first slave
pub sets-out : (a : Action) (number : ℕ) → Arrives a number 0 (datagram_of a number)
sets-out CountSlaves number = record { command = refl; ado = refl; data_length = refl }
sets-out AwaitInit number = record { command = refl; ado = refl; data_length = refl }
sets-out AskInit number = record { command = refl; ado = refl; adp_is = refl; bytes = refl }
sets-out ClearFmmus number = record { command = refl; ado = refl; adp_is = refl; bytes = refl }
sets-out ClearManagers number = record { command = refl; ado = refl; adp_is = refl; bytes = refl }
sets-out ClearStations number = record { command = refl; ado = refl; adp_is = refl; bytes = refl }
sets-out AwaitInitState number = record { command = refl; ado = refl; data_length = refl }
sets-out ClearAllFmmus number = record { command = refl; ado = refl; adp_is = refl; bytes = refl }
sets-out ClearAllManagers number = record { command = refl; ado = refl; adp_is = refl; bytes = refl }
sets-out (AssignSii access) number = record { command = refl; ado = refl; adp_is = refl; bytes = refl }
sets-out ClearSiiError number = record { command = refl; ado = refl; adp_is = refl; bytes = refl }
sets-out (FeedPart f) number = tt
sets-out (NameSlave t) number = record {
  command = refl;
  ado = refl;
  bytes = refl;
  adp_is = let e : ((65536 - t) % 65536 + 65536 * 0x0010) % 65536 ≡ (65536 - t + 0) % 65536 = omega arith in e;
}
sets-out a number = record { to_come = λ l. refl; gone_by = record { command = refl; address = refl } }

-- a slave with firmware in INIT, with the error that it had or without
clean-state : (kind : SlaveKind) (t : ℕ) (c : Config) (s : SlaveState) → IsUpAt t c s → CanAct c (AwaitCleanInit t) → s.al.state ≡ Init
clean-state kind t c s u can = by c.rise can.0 u.rises
  where
    by : (r : Rise) → IsAtInit r → Rises r s → s.al.state ≡ Init
    by Falls at h = h.state
    by (Stays Init) at h = h.state
    by (Stays PreOp) at h = absurd at
    by (Stays SafeOp) at h = absurd at
    by (Stays Op) at h = absurd at
    by (Climbs from to) at h = absurd at

-- none is awaited where it had none, or its request was decided
abbrev pub IsCleared : SlaveKind → Al → ℕ → Type 0
IsCleared kind x n = (x.error ≡ false) ⊎ (steps_slow kind.hardware + 2 ≤ n)

clean-error : (kind : SlaveKind) (t : ℕ) (c : Config) (x : Al) (n more here : ℕ) (s : SlaveState) → Prior kind t (Up c) x n more here (AwaitCleanInit t) s → IsUpAt t c s → CanAct c (AwaitCleanInit t) → IsCleared kind x n → s.al.error ≡ false
clean-error kind t c x n more here s k u can clear = elim (cases_lt n (steps_slow kind.hardware + 2)) [
  | inl m ↦ ((k.late can.0).0 m).error ∙ (elim clear [
    | inl e ↦ e
    | inr l ↦ absurd (omega (arith, l, m))
  ])
  | inr m ↦ by c.rise can.0 u.rises ((k.late can.0).1 m)
]
  where
    firm : has_firmware s.kind.hardware ≡ true
    firm = ap (λ (y : SlaveKind). has_firmware y.hardware) k.stands.slave.kind_is ∙ k.bless (ForAwaitCleanInit t)

    by : (r : Rise) → IsAtInit r → Rises r s → s.al.requested ≡ false → s.al.error ≡ false
    by Falls at h q = h.no_error firm q
    by (Stays Init) at h q = h.no_error firm
    by (Stays PreOp) at h q = absurd at
    by (Stays SafeOp) at h q = absurd at
    by (Stays Op) at h q = absurd at
    by (Climbs from to) at h q = absurd at

-- a slave that was asked for a state stands in the one before
near-state : (r : Rise) (to : State) (s : SlaveState) → IsClimbing r to → Rises r s → s.al.requested ≡ true → (from : State) × IsStepUp from to × (s.al.state ≡ from)
near-state Falls to s cl h e = absurd cl
near-state (Stays from) to s cl h e = absurd cl
near-state (Climbs from other) to s cl (up, inl q) e = (from, cl.0, q.state)
near-state (Climbs from other) to s cl (up, inr (inl q)) e = absurd (both_ways s.al.requested q.no_request e)
near-state (Climbs from other) to s cl (up, inr (inr q)) e = absurd (both_ways s.al.requested q.no_request e)

-- of a type that says nothing of real devices a slave lacks no FMMU
none-missing : (o : Option Hardware) (a : ℕ) → o ≡ None → is_missing o a ≡ false
none-missing o a e = ap (λ (x : Option Hardware). is_missing x a) e

-- a counter that is right
right : (seen n : ℕ) (v w : Verdict) → seen ≡ n → (if seen == n then v else w) ≡ v
right seen n v w e = if_true _ _ _ (eq-eqb seen n e)

-- what a wait ends by
abbrev pub IsDue : (ℕ → SlaveKind) → (ℕ → Al) → (all n more here : ℕ) → Action → Type 0
IsDue kinds xs all n more here AwaitInit = 2 ≤ n
IsDue kinds xs all n more here AwaitInitState = (i : ℕ) → i < all → HasCome (kinds i) (xs i) n
IsDue kinds xs all n more here (AwaitCleanInit t) = IsCleared (kinds t) (xs t) n
IsDue kinds xs all n more here (AwaitState t to) = steps_slow (kinds t).hardware ≤ here
IsDue kinds xs all n more here (AwaitFreeReply t b r) = more ≤ here
IsDue kinds xs all n more here _ = Unit {0}

-- and what it goes on by
abbrev pub GoesOn : (ℕ → SlaveKind) → (ℕ → Al) → (all n more here : ℕ) → Action → Type 0
GoesOn kinds xs all n more here AwaitInitState = (t : ℕ) × (t < all) × IsOut (kinds t) (xs t) n
GoesOn kinds xs all n more here (AwaitCleanInit t) = ((xs t).error ≡ true) × (n < steps_slow (kinds t).hardware + 2)
GoesOn kinds xs all n more here (AwaitState t to) = here < steps_slow (kinds t).hardware
GoesOn kinds xs all n more here (AwaitFreeReply t b r) = here < more
GoesOn kinds xs all n more here _ = ⊥

module _ (kinds : ℕ → SlaveKind) (stages : ℕ → Stage) (xs : ℕ → Al) (n more here number step : ℕ) (seen : Device) (types : ℕ → WantedDevice) (hw : Bool) (s : SlaveState) (ss : List SlaveState) where
  -- as the slave that it is for made it
  one-made : (a : Action) (t : ℕ) (is : IsFor t a) (P : Verdict → Type 0) → t < length (s ∷ ss) → Ahead kinds stages xs n more here number a 0 (s ∷ ss) (datagram_of a number)
      → ((c : Config) (x : SlaveState) → t < 64 → Prior (kinds t) t (Up c) (xs t) n more here a x → IsUpAt t c x → CanAct c a → P (verdict (length (s ∷ ss)) step seen types a (datagram_met x (as_one number is).e)))
      → P (verdict (length (s ∷ ss)) step seen types a (all_passed (s ∷ ss) (datagram_of a number)))
  one-made a t is P l h own =
      one-reach kinds stages xs n more here number a t 0 (s ∷ ss) (datagram_of a number) (λ d. P (verdict (length (s ∷ ss)) step seen types a d)) (as_one number is)
      (λ x k. own-prior (kinds t) t (xs t) n more here number a (stages t) x _ (as_one number is) (λ c. own c x) k) (omega arith) (omega (arith, l)) h

  one-ends : (a : Action) (t : ℕ) (is : IsFor t a) → t < length (s ∷ ss) → Ahead kinds stages xs n more here number a 0 (s ∷ ss) (datagram_of a number)
      → ((c : Config) (x : SlaveState) → t < 64 → Prior (kinds t) t (Up c) (xs t) n more here a x → IsUpAt t c x → CanAct c a → IsWanted types a (verdict (length (s ∷ ss)) step seen types a (datagram_met x (as_one number is).e)))
      → IsWanted types a (verdict (length (s ∷ ss)) step seen types a (all_passed (s ∷ ss) (datagram_of a number)))
  one-ends a t is l h own = one-made a t is (λ v. IsWanted types a v) l h own

  pub comes-back : (a : Action) → ((t : ℕ) → t < length (s ∷ ss) → types t ≡ wanted_of (kinds t)) → ((t which : ℕ) → t < length (s ∷ ss) → word_of (types t).device which < 2 ^ 32)
      → (hw ≡ false → (i : ℕ) → i < length (s ∷ ss) → (kinds i).hardware ≡ None) → IsInside hw (length (s ∷ ss)) a → Told types seen a → IsDue kinds xs (length (s ∷ ss)) n more here a → Ahead kinds stages xs n more here number a 0 (s ∷ ss) (datagram_of a number)
      → IsWanted types a (verdict (length (s ∷ ss)) step seen types a (all_passed (s ∷ ss) (datagram_of a number)))
  comes-back CountSlaves same big bare inside told due h = right _ _ _ _ (all-count kinds stages xs n more here number CountSlaves (s ∷ ss) refl (λ i x d b p k. look-step x d number k) h)
  comes-back AskInit same big bare inside told due h =
      right _ _ _ _ (write-count kinds stages xs n more here number AskInit 0x0120 (0x11 ∷ 0 ∷ []) (s ∷ ss) refl (λ i x q. q) (omega arith) (omega arith) refl (λ i x b p. has-below x.kind.hardware 0x0120 (omega arith)) h)
  comes-back AwaitInit same big bare inside told due h =
      let z : slice_index (datagram_of AwaitInit number).data_bytes 0 ≡ 0 = refl in
      let x = init-all kinds stages xs n more here number 0 s ss (datagram_of AwaitInit number) (omega (arith, z)) refl due (λ i l. bare inside i (omega (arith, l))) h in
      let w : word_at (all_passed (s ∷ ss) (datagram_of AwaitInit number)).data_bytes 0 ≡ 1 = omega (arith, x.0, x.1) in
      right _ _ _ _ (all-count kinds stages xs n more here number AwaitInit (s ∷ ss) refl (λ i x d b p k. look-step x d number k) h) ∙ if_true _ _ _ (eq-eqb _ 1 w)
  comes-back AwaitInitState same big bare inside told due h =
      let z : slice_index (datagram_of AwaitInitState number).data_bytes 0 % 16 ≡ 0 = refl in
      let x = low-all kinds stages xs n more here number 0 s ss (datagram_of AwaitInitState number) (omega (arith, z)) (λ i l. due i (omega (arith, l))) h in
      right _ _ _ _ (all-count kinds stages xs n more here number AwaitInitState (s ∷ ss) refl (λ i x d b p k. look-step x d number k) h) ∙ if_true _ _ _ (eq-eqb _ 1 x)
  comes-back ClearAllFmmus same big bare inside told due h = refl
  comes-back ClearAllManagers same big bare inside told due h = refl
  comes-back (AssignSii access) same big bare inside told due h = refl
  comes-back ClearSiiError same big bare inside told due h = refl
  comes-back (FeedPart f) same big bare inside told due h = absurd inside
  comes-back (AwaitCleanInit t) same big bare inside told due h =
      one-ends (AwaitCleanInit t) t (ForAwaitCleanInit t) inside.0 h (λ c x l k u can. await-clean-ends (length (s ∷ ss)) step seen types x t number u.configured.station_is l (clean-state (kinds t) t c x u can)
      (clean-error (kinds t) t c (xs t) n more here x k u can due))
  comes-back ClearFmmus same big bare inside told due h =
      right _ _ _ _ (write-count kinds stages xs n more here number ClearFmmus 0x0600 (zeros 64) (s ∷ ss) refl (λ i x q. q) (omega arith) (omega arith) refl
      (λ i x b p. none-missing x.kind.hardware 0x0600 (ap (λ (k : SlaveKind). k.hardware) p.stands.slave.kind_is ∙ bare inside i b)) h)
  comes-back ClearManagers same big bare inside told due h =
      right _ _ _ _ (write-count kinds stages xs n more here number ClearManagers 0x0800 (zeros 32) (s ∷ ss) refl (λ i x q. q) (omega arith) (omega arith) refl (λ i x b p. has-above x.kind.hardware 0x0800 (omega arith)) h)
  comes-back ClearStations same big bare inside told due h =
      right _ _ _ _ (write-count kinds stages xs n more here number ClearStations 0x0010 (zeros 2) (s ∷ ss) refl (λ i x q. q) (omega arith) (omega arith) refl (λ i x b p. has-below x.kind.hardware 0x0010 (omega arith)) h)
  comes-back (NameSlave t) same big bare inside told due h =
      right _ 1 _ _ (name-reach kinds stages xs n more here number t 0 (s ∷ ss) (datagram_of (NameSlave t) number) (omega (arith, inside, h.few)) (omega arith) (omega (arith, inside)) refl h)
  comes-back (AskWord t n) same big bare inside told due h =
      one-ends (AskWord t n) t (ForAskWord t n) inside.0 h (λ c x l k u can. right _ 1 _ _ (ask-word-goes x t n number u.configured.station_is l k.sure))
  comes-back (AwaitWord t n) same big bare inside told due h =
      one-ends (AwaitWord t n) t (ForAwaitWord t n) inside.0 h (λ c x l k u can. await-word-ends (length (s ∷ ss)) step seen types x t n number u.configured.station_is l inside.1 (big t n inside.0) told
      (subst (λ (y : WantedDevice). HasFound y n x.sii) (sym (same t inside.0)) (k.sure refl)))
  comes-back (SetManager t n m r) same big bare inside told due h =
      one-ends (SetManager t n m r) t (ForSetManager t n m r) inside.0 h (λ c x l k u can. right _ 1 _ _ (set-manager-goes x t n m r number u.configured.station_is l inside.1))
  comes-back (SetFmmu t n f start) same big bare inside told due h =
      one-ends (SetFmmu t n f start) t (ForSetFmmu t n f start) inside h (λ c x l k u can. right _ 1 _ _ (set-fmmu-goes x t n f start number u.configured.station_is l (omega (arith, can.1, can.2))
      (subst (λ (y : SlaveKind). n < fmmu_count y.hardware) (sym k.stands.slave.kind_is) (k.named refl).1)))
  comes-back (AskState t to) same big bare inside told due h =
      one-ends (AskState t to) t (ForAskState t to) inside h (λ c x l k u can. right _ 1 _ _ (ask-state-goes x t to number u.configured.station_is l))
  comes-back (AwaitState t to) same big bare inside told due h =
      one-ends (AwaitState t to) t (ForAwaitState t to) inside h (λ c x l k u can. await-state-ends (length (s ∷ ss)) step seen types x t to number u.configured.station_is l ((k.sure refl).1 (omega (arith, due))))
  comes-back (SendRequest t n b r) same big bare inside told due h =
      one-ends (SendRequest t n b r) t (ForSend t n b r) inside h
      (λ c x l k u can. right _ 1 _ _ (request-goes x t n c b r number u.configured.station_is l k.stands.slave.four can.2 u (subst (λ (o : Option Talk). Talks t c o x) can.1 u.talks).no_message))
  comes-back (AwaitReply t b r) same big bare inside told due h =
      one-ends (AwaitReply t b r) t (ForAwaitReply t b r) inside.0 h
      (λ c x l k u can. await-reply-ends (length (s ∷ ss)) step seen types x t b r number u.configured.station_is l (boxes-of t b c x k.stands.slave.four can.2 u) (k.sure refl))
  comes-back (AwaitFreeReply t b r) same big bare inside told due h =
      one-ends (AwaitFreeReply t b r) t (ForAwaitFreeReply t b r) inside.0 h
      (λ c x l k u can. await-free-ends (length (s ∷ ss)) step seen types x t b r number u.configured.station_is l (boxes-of t b c x k.stands.slave.four can.2 u) ((k.sure refl).1 due))

  -- a wait goes on
  abbrev Waits : Action → Verdict → Type 0
  Waits a v = (v ≡ Again) ⊎ ((heard : Heard) × (v ≡ Aside heard))

  pub goes-on : (a : Action) → IsInside hw (length (s ∷ ss)) a → GoesOn kinds xs (length (s ∷ ss)) n more here a → Ahead kinds stages xs n more here number a 0 (s ∷ ss) (datagram_of a number)
      → Waits a (verdict (length (s ∷ ss)) step seen types a (all_passed (s ∷ ss) (datagram_of a number)))
  goes-on AwaitInitState inside on h =
      let byte : ℕ = slice_index (all_passed (s ∷ ss) (datagram_of AwaitInitState number)).data_bytes 0 in
      let t : ℕ = on.0 in
      let l : t < length (s ∷ ss) = on.1 in
      let high : byte % 16 ≡ 1 → ⊥ = λ e. high-shown kinds stages xs n more here number t 0 (s ∷ ss) (datagram_of AwaitInitState number) (omega arith) (omega (arith, l)) on.2 h (omega (arith, e)) in
      inl (right _ _ _ _ (all-count kinds stages xs n more here number AwaitInitState (s ∷ ss) refl (λ i x d b p k. look-step x d number k) h) ∙ if_false _ _ _ (ne_eqb (byte % 16) 1 high))
  goes-on (AwaitCleanInit t) inside on h =
      one-made _ t (ForAwaitCleanInit t) (Waits (AwaitCleanInit t)) inside.0 h
      (λ c x l k u can. inl (await-clean-goes-on (length (s ∷ ss)) step seen types x t number u.configured.station_is l (clean-state (kinds t) t c x u can) (((k.late can.0).0 on.1).error ∙ on.0)))
  goes-on (AwaitState t to) inside on h =
      one-made _ t (ForAwaitState t to) (Waits (AwaitState t to)) inside h
      (λ c x l k u can.
      let near = (k.sure refl).0 (omega (arith, on)) in
      let at = near-state c.rise to x can.1 u.rises near.asked in
      inl (await-state-goes-on (length (s ∷ ss)) step seen types x t at.0 to number u.configured.station_is l at.1 at.2 (near.clean (slow-firm (kinds t).hardware (omega (arith, on))))))
  goes-on (AwaitFreeReply t b r) inside on h =
      one-made _ t (ForAwaitFreeReply t b r) (Waits (AwaitFreeReply t b r)) inside.0 h
      (λ c x l k u can. inr (await-free-goes-on (length (s ∷ ss)) step seen types x t b r number u.configured.station_is l (boxes-of t b c x k.stands.slave.four can.2 u) ((k.sure refl).0 on)))
  goes-on _ inside on h = absurd on
