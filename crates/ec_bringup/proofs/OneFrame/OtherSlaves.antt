-- A frame of a start-up at a slave that its second datagram is not for.
use Rattle.ec_bringup.proofs.Words.{ℕ, ◌+◌, ◌*◌, ◌%◌, ◌<◌, ◌≡◌, ◌≢◌, ◌⊎◌, Bool, refl, sym, ◌∙◌, ap, subst, inl, inr, arith, slice_index, cases_eq, ne_eqb, if_false, SlaveKind, Command, Fprd, Fpwr, Fprw, Datagram, IsDatagram, SlaveState, Meeting, station_of, power_on, meets, slave_met, datagram_met, other_station_passes, Action, AskWord, AwaitWord, SetManager, SetFmmu, AskState, AwaitState, SendRequest, AwaitReply, AwaitFreeReply, SdoRequest, station, at, datagram_of, Stage, Up, if_mine, after, Fits, IsUp, Stands, switched_on, Untouched, ReadsOn, Arrives, IsOther, Met, Config, FitsOne, FmmuSettings, Mailbox, State, SyncManagerSettings, eq-eqb, if_true, config_after, up_after, AwaitCleanInit, ManagerRegister}

-- ---- station addresses

pub station-zero : (s : SlaveState) → s ≡ power_on s.kind s.identity → station_of s ≡ 0
station-zero s e =
    let on = switched_on s.kind s.identity in
    ap station_of e ∙ (ap (λ (x : ℕ). x + 256 * slice_index (power_on s.kind s.identity).memory 0x0011) (on.memory 0x0010) ∙ ap (λ (x : ℕ). 0 + 256 * x) (on.memory 0x0011))

-- a slave that has its station address, or lost it
station-up : (kind : SlaveKind) (i : ℕ) (st : Stage) (trouble : Bool) (s : SlaveState) → IsUp st → Stands kind i st trouble s → (station_of s ≡ station i) ⊎ (station_of s ≡ 0)
station-up kind i (Up c) trouble s u h = elim h.at [
  | inl r ↦ inl r.configured.station_is
  | inr (e, inl g) ↦ inr (station-zero s g)
  | inr (e, inr g) ↦ inl g.faulted.configured.station_is
]
station-up kind i _ trouble s u h = absurd u

-- ---- a datagram for another slave passes

is-one : (c : Command) → (c ≡ Fprd) ⊎ (c ≡ Fpwr) → (c ≡ Fprd) ⊎ ((c ≡ Fpwr) ⊎ (c ≡ Fprw))
is-one c (inl e) = inl e
is-one c (inr e) = inr (inl e)

pub one-passes : (kind : SlaveKind) (i t : ℕ) (st : Stage) (trouble : Bool) (s : SlaveState) (e d : Datagram) (ado : ℕ)
    → i < 64 → t < 64 → t ≢ i → IsUp st → Stands kind i st trouble s → IsDatagram d → (e.command ≡ Fprd) ⊎ (e.command ≡ Fpwr) → e.address ≡ at (station t) ado → ReadsOn e d
    → meets s d ≡ record { slave = s; datagram = d }
one-passes kind i t st trouble s e d ado li lt ne up h good c at same =
    other_station_passes s d good (is-one d.command (subst (λ (x : Command). (x ≡ Fprd) ⊎ (x ≡ Fpwr)) (sym same.command) c))
    (λ q. elim (station-up kind i st trouble s up h) [
      | inl z ↦ ne (let a : d.address % 65536 ≡ station_of s = q in let b = same.address in omega (arith, a, b, at, z))
      | inr z ↦ let a : d.address % 65536 ≡ station_of s = q in let b = same.address in omega (arith, a, b, at, z)
    ])

-- what a slave that the action is not for owes
pub other-met : (kind : SlaveKind) (i : ℕ) (st : Stage) (trouble : Bool) (a : Action) (d : Datagram) (s : SlaveState)
    → after i st a ≡ st → Stands kind i st trouble s → Met kind i st trouble a d s
other-met kind i st trouble a d s e h = record { other = λ _. h; repeated = λ _. h; ended = λ _. subst (λ (x : Stage). Stands kind i x trouble s) (sym e) h }

-- an action for slave t alone, which has its station address
pub data IsFor : ℕ → Action → Type 0 where
  ForAskWord : (t which : ℕ) → IsFor t (AskWord t which)
  ForAwaitWord : (t which : ℕ) → IsFor t (AwaitWord t which)
  ForAskState : (t : ℕ) (state : State) → IsFor t (AskState t state)
  ForAwaitState : (t : ℕ) (state : State) → IsFor t (AwaitState t state)
  ForAwaitCleanInit : (t : ℕ) → IsFor t (AwaitCleanInit t)
  ForSetManager : (t n : ℕ) (m : SyncManagerSettings) (r : ManagerRegister) → IsFor t (SetManager t n m r)
  ForSetFmmu : (t n : ℕ) (f : FmmuSettings) (start : ℕ) → IsFor t (SetFmmu t n f start)
  ForSend : (t counter : ℕ) (b : Mailbox) (r : SdoRequest) → IsFor t (SendRequest t counter b r)
  ForAwaitReply : (t : ℕ) (b : Mailbox) (r : SdoRequest) → IsFor t (AwaitReply t b r)
  ForAwaitFreeReply : (t : ℕ) (b : Mailbox) (r : SdoRequest) → IsFor t (AwaitFreeReply t b r)

-- such an action as a datagram: its datagram, and its ADO
pub record IsOne (a : Action) (t : ℕ) (number : ℕ) : Type 0 where
  pub e : Datagram
  pub ado : ℕ
  pub command : (e.command ≡ Fprd) ⊎ (e.command ≡ Fpwr)
  pub address : e.address ≡ at (station t) ado
  pub arrives : (j : ℕ) (d : Datagram) → Arrives a number j d → Untouched t j e d
  pub arrived : (j : ℕ) (d : Datagram) → Untouched t j e d → Arrives a number j d
  pub fits : (i : ℕ) (st : Stage) → Fits i st a → FitsOne t i st a
  pub fit : (i : ℕ) (st : Stage) → FitsOne t i st a → Fits i st a
  pub leads : (i : ℕ) (st : Stage) → after i st a ≡ if_mine t i (up_after st a) st
  pub is_other : (i : ℕ) → t ≢ i → IsOther a i
  pub other : (i : ℕ) → IsOther a i → t ≢ i

abbrev pub as_one : {t : ℕ} {a : Action} (number : ℕ) → IsFor t a → IsOne a t number
as_one number (ForAskWord t which) = record { e = datagram_of (AskWord t which) number; ado = 0x0502; command = inr refl; address = refl; arrives = λ j d h. h; arrived = λ j d h. h; fits = λ i st h. h; fit = λ i st h. h; leads = λ i st. refl; is_other = λ i ne. ne; other = λ i o. o }
as_one number (ForAwaitWord t which) = record { e = datagram_of (AwaitWord t which) number; ado = 0x0502; command = inl refl; address = refl; arrives = λ j d h. h; arrived = λ j d h. h; fits = λ i st h. h; fit = λ i st h. h; leads = λ i st. refl; is_other = λ i ne. ne; other = λ i o. o }
as_one number (ForAskState t state) = record { e = datagram_of (AskState t state) number; ado = 0x0120; command = inr refl; address = refl; arrives = λ j d h. h; arrived = λ j d h. h; fits = λ i st h. h; fit = λ i st h. h; leads = λ i st. refl; is_other = λ i ne. ne; other = λ i o. o }
as_one number (ForAwaitState t state) = record { e = datagram_of (AwaitState t state) number; ado = 0x0130; command = inl refl; address = refl; arrives = λ j d h. h; arrived = λ j d h. h; fits = λ i st h. h; fit = λ i st h. h; leads = λ i st. refl; is_other = λ i ne. ne; other = λ i o. o }
as_one number (ForAwaitCleanInit t) = record { e = datagram_of (AwaitCleanInit t) number; ado = 0x0130; command = inl refl; address = refl; arrives = λ j d h. h; arrived = λ j d h. h; fits = λ i st h. h; fit = λ i st h. h; leads = λ i st. refl; is_other = λ i ne. ne; other = λ i o. o }
as_one number (ForSetManager t n m r) = record { e = datagram_of (SetManager t n m r) number; ado = 0x0800 + 8 * r.number; command = inr refl; address = refl; arrives = λ j d h. h; arrived = λ j d h. h; fits = λ i st h. h; fit = λ i st h. h; leads = λ i st. refl; is_other = λ i ne. ne; other = λ i o. o }
as_one number (ForSetFmmu t n f start) = record { e = datagram_of (SetFmmu t n f start) number; ado = 0x0600 + 16 * n; command = inr refl; address = refl; arrives = λ j d h. h; arrived = λ j d h. h; fits = λ i st h. h; fit = λ i st h. h; leads = λ i st. refl; is_other = λ i ne. ne; other = λ i o. o }
as_one number (ForSend t counter b r) = record { e = datagram_of (SendRequest t counter b r) number; ado = b.receive_start; command = inr refl; address = refl; arrives = λ j d h. h; arrived = λ j d h. h; fits = λ i st h. h; fit = λ i st h. h; leads = λ i st. refl; is_other = λ i ne. ne; other = λ i o. o }
as_one number (ForAwaitReply t b r) = record { e = datagram_of (AwaitReply t b r) number; ado = b.send_start; command = inl refl; address = refl; arrives = λ j d h. h; arrived = λ j d h. h; fits = λ i st h. h; fit = λ i st h. h; leads = λ i st. refl; is_other = λ i ne. ne; other = λ i o. o }
as_one number (ForAwaitFreeReply t b r) = record { e = datagram_of (AwaitFreeReply t b r) number; ado = b.send_start; command = inl refl; address = refl; arrives = λ j d h. h; arrived = λ j d h. h; fits = λ i st h. h; fit = λ i st h. h; leads = λ i st. refl; is_other = λ i ne. ne; other = λ i o. o }

pub others-stay : (t i : ℕ) (x y : Stage) → t ≢ i → if_mine t i x y ≡ y
others-stay t i x y ne = if_false _ _ _ (ne_eqb t i ne)

pub mine-told : {a : Action} {t number : ℕ} → IsOne a t number → (c : Config) → after t (Up c) a ≡ Up (config_after c a)
mine-told {a} {t} one c = one.leads t (Up c) ∙ if_true _ _ _ (eq-eqb t t refl)

-- what a slave owes when the datagram of an action comes: where it stands then, and the datagram as it goes on
abbrev pub Owes : SlaveKind → ℕ → Stage → Bool → Action → ℕ → Datagram → SlaveState → Type 0
Owes kind i st trouble a number d s =
    Arrives a number i d → Stands kind i st trouble s → Met kind i st trouble a (datagram_met s d) (slave_met s d) × Arrives a number (i + 1) (datagram_met s d)

-- ---- an action for one slave, at another

pub pass-other : (kind : SlaveKind) (i t : ℕ) (st : Stage) (trouble : Bool) (a : Action) (number : ℕ) (d : Datagram) (s : SlaveState)
    → IsOne a t number → t ≢ i → i < 64 → Fits i st a → IsDatagram d → Owes kind i st trouble a number d s
pass-other kind i t st trouble a number d s one ne l fits good arrives h =
    let f = one.fits i st fits in
    let u = one.arrives i d arrives in
    let m : meets s d ≡ record { slave = s; datagram = d } = one-passes kind i t st trouble s one.e d one.ado l f.0 ne f.1 h good one.command one.address u.gone_by in
    subst (λ (x : Meeting). Met kind i st trouble a x.datagram x.slave × Arrives a number (i + 1) x.datagram) (sym m)
    (other-met kind i st trouble a d s (one.leads i st ∙ others-stay t i _ _ ne) h, one.arrived (i + 1) d (record { to_come = λ k. u.to_come (omega arith); gone_by = u.gone_by }))

-- a slave that was passed, when the frame passes a later one
pub later-one : {kind : SlaveKind} {i : ℕ} {st : Stage} {trouble : Bool} {other : SlaveKind} {j t : ℕ} {sj : Stage} {had : Bool} {a : Action} {number : ℕ} {d : Datagram} {s r : SlaveState}
    → IsOne a t number → i < j → j < 64 → Fits j sj a → IsDatagram d → Arrives a number j d → Stands other j sj had r
    → Met kind i st trouble a d s → Met kind i st trouble a (datagram_met r d) s
later-one {kind} {i} {st} {trouble} {other} {j} {t} {sj} {had} {a} {number} {d} {s} {r} one l lj fits good arrives h m = elim (cases_eq t j) [
  | inl e ↦
      let ne : t ≢ i = λ q. omega (arith, e, q, l) in
      other-met kind i st trouble a (datagram_met r d) s (one.leads i st ∙ others-stay t i _ _ ne) (m.other (one.is_other i ne))
  | inr ne ↦
      let f = one.fits j sj fits in
      let u = one.arrives j d arrives in
      let p : meets r d ≡ record { slave = r; datagram = d } = one-passes other j t sj had r one.e d one.ado lj f.0 ne f.1 h good one.command one.address u.gone_by in
      subst (λ (x : Datagram). Met kind i st trouble a x s) (sym (ap (λ (x : Meeting). x.datagram) p)) m
]
