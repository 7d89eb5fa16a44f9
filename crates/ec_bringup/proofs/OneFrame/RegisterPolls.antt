-- A poll of registers at the slave that it is for.
use Rattle.ec_bringup.proofs.Words.{ℕ, ◌+◌, ◌*◌, ◌%◌, ◌<◌, ◌≤◌, ◌≡◌, ◌≢◌, ◌⊎◌, Bool, true, false, Option, None, refl, sym, ◌∙◌, ap, subst, inl, inr, arith, List, length, slice_index, bit_at, from_bool, eq-eqb, both_ways, or_left, zeros, if_true, any_below_from, SlaveKind, ram_start, takes_writes, Command, Fprd, Fpwr, Datagram, IsDatagram, adp_of, State, Init, PreOp, SafeOp, Op, state_number, role_of, is_reading, is_writing, is_joining, SlaveState, Meeting, station_of, Window, touches, physical_after, byte_at, byte_read, updated, may_read_byte, may_write_byte, some_byte_read, is_written, window_of, slave_met, datagram_met, OnlyReads, OnlyWrites, reads_meet, writes_meet, registers_open, registers_read, shows_itself, reads_by_byte, Action, AwaitState, AwaitWord, station, at, sent, Rise, Stays, Climbs, Config, Stage, Up, Talk, config_after, after, CanAct, IsClimbing, IsStepUp, IsConfigured, IsIn, StaysIn, Rises, IsSilent, Talks, IsUpAt, Reached, IsGone, IsFaulted, IsTop, HadFault, Stands, Untouched, MayEnd, Met, AwaitCleanInit, Falls, IsInInit, IsAtInit, is_missing, if_false, if◌then◌else◌, IsEarly}
use Rattle.ec_bringup.proofs.OneFrame.OtherSlaves.{IsOne, ForAwaitCleanInit, ForAwaitState, ForAwaitWord, Owes, as_one, mine-told}
use Rattle.ec_bringup.proofs.OneFrame.RegisterWrites.{window-sent, own-writes, reads-on, gone-passes}
use Rattle.ec_bringup.proofs.OneFrame.SetRegisters.{low-top}

-- the slave that is meant is told to read
pub own-reads : (s : SlaveState) (d : Datagram) → d.command ≡ Fprd → adp_of d ≡ station_of s → OnlyReads s d
own-reads s d c e = record {
  reads = ap (λ (x : Command). is_reading (role_of x (adp_of d) (station_of s))) c ∙ ap is_reading (if_true _ _ _ (eq-eqb _ _ e));
  writes = ap (λ (x : Command). is_writing (role_of x (adp_of d) (station_of s))) c ∙ ap is_writing (if_true _ _ _ (eq-eqb _ _ e));
  joins = ap (λ (x : Command). is_joining (role_of x (adp_of d) (station_of s))) c ∙ ap is_joining (if_true _ _ _ (eq-eqb _ _ e));
}

pub read-slave : (s : SlaveState) (d : Datagram) → d.command ≡ Fprd → adp_of d ≡ station_of s → slave_met s d ≡ physical_after s true false (window_of d)
read-slave s d c e = (reads_meet s d (own-reads s d c e)).slave

pub read-bytes : (s : SlaveState) (d : Datagram) → d.command ≡ Fprd → adp_of d ≡ station_of s → (datagram_met s d).data_bytes ≡ updated d.data_bytes (byte_read s false (window_of d))
read-bytes s d c e = (reads_meet s d (own-reads s d c e)).bytes

-- byte k of the data, of a datagram on registers
pub read-byte : (s : SlaveState) (d : Datagram) (w : Window) (k : ℕ) → d.command ≡ Fprd → adp_of d ≡ station_of s → window_of d ≡ w → w.from + length w.bytes ≤ ram_start → k < length w.bytes
    → slice_index (datagram_met s d).data_bytes k ≡ byte_at s (w.from + k)
read-byte s d w k c e win l b =
    ap (λ (xs : List ℕ). slice_index xs k) (read-bytes s d c e)
    ∙ (ap (λ (v : Window). slice_index (updated v.bytes (byte_read s false v)) k) win
    ∙ (reads_by_byte s false w k b).given (registers_open s.managers (touches w) (w.from + k) (omega (arith, l, b))).reads)

-- ---- a poll of registers: the slave stays, and what it shows is known

pub pass-poll : (kind : SlaveKind) (i : ℕ) (c : Config) (trouble : Bool) (a : Action) (number : ℕ) (d : Datagram) (s : SlaveState) (w : Window)
    → (one : IsOne a i number) → i < 64 → one.e.command ≡ Fprd → window_of one.e ≡ w → one.ado < 65536 → w.from + length w.bytes ≤ ram_start
    → (((k : ℕ) → k < length w.bytes → slice_index (datagram_met s d).data_bytes k ≡ byte_at s (w.from + k)) → MayEnd a (datagram_met s d) → IsUpAt i c s → IsUpAt i (config_after c a) s)
    → (IsFaulted i c s → IsFaulted i (config_after c a) s)
    → IsDatagram d → Owes kind i (Up c) trouble a number d s
pass-poll kind i c trouble a number d s w one l cm win ado registers up faulted good arrives h =
    let u : Untouched i i one.e d = one.arrives i d arrives in
    let e : d ≡ one.e = u.to_come (omega arith) in
    let cmd : d.command ≡ Fprd = u.gone_by.command ∙ cm in
    let adp : adp_of d ≡ station i = let x = u.gone_by.address in let y = one.address in omega (arith, x, y, ado) in
    let at_w : window_of d ≡ w = ap window_of e ∙ win in
    (by h.at cmd adp at_w, one.arrived (i + 1) (datagram_met s d) (record { to_come = λ k. absurd (omega arith); gone_by = reads-on Fprd s d one.e refl u.gone_by cmd }))
  where
    stays : d.command ≡ Fprd → adp_of d ≡ station_of s → window_of d ≡ w → slave_met s d ≡ s
    stays cmd e q = read-slave s d cmd e ∙ (ap (λ (x : Window). physical_after s true false x) q ∙ registers_read s w registers)

    met : slave_met s d ≡ s → (MayEnd a (datagram_met s d) → Reached i (Up (config_after c a)) s ⊎ ((trouble ≡ true) × (IsGone (Up (config_after c a)) s ⊎ HadFault i (Up (config_after c a)) s)))
        → Met kind i (Up c) trouble a (datagram_met s d) (slave_met s d)
    met same at = record {
      other = λ o. absurd (one.other i o refl);
      repeated = λ _. subst (λ (t : SlaveState). Stands kind i (Up c) trouble t) (sym same) h;
      ended = λ m. subst (λ (t : SlaveState). Stands kind i (after i (Up c) a) trouble t) (sym same) (subst (λ (x : Stage). Stands kind i x trouble s) (sym (mine-told one c)) (record { slave = h.slave; at = at m }));
    }

    by : Reached i (Up c) s ⊎ ((trouble ≡ true) × (IsGone (Up c) s ⊎ HadFault i (Up c) s)) → d.command ≡ Fprd → adp_of d ≡ station i → window_of d ≡ w → Met kind i (Up c) trouble a (datagram_met s d) (slave_met s d)
    by (inl r) cmd adp q =
        let st : adp_of d ≡ station_of s = adp ∙ sym r.configured.station_is in
        met (stays cmd st q) (λ m. inl (up (λ k b. read-byte s d w k cmd st q registers b) m r))
    by (inr (f, inl g)) cmd adp q = met (ap (λ (x : Meeting). x.slave) (gone-passes i s d l good (inl cmd) adp g)) (λ m. inr (f, inl g))
    by (inr (f, inr g)) cmd adp q = met (stays cmd (adp ∙ sym g.faulted.configured.station_is) q) (λ m. inr (f, inr (faulted g)))

-- ---- the AL status

-- a status that ends a wait
shows-state : (st to : State) (e : Bool) → bit_at (state_number st + 16 * from_bool e) 4 ≢ 1 → (state_number st + 16 * from_bool e) % 32 ≡ state_number to → (e ≡ false) × (state_number st ≡ state_number to)
shows-state Init to true b n = absurd (b refl)
shows-state _ to true b n = absurd (b refl)
shows-state Init to false b n = (refl, n)
shows-state _ to false b n = (refl, n)

not-yet : (from to : State) → IsStepUp from to → state_number from ≡ state_number to → ⊥
not-yet Init PreOp h e = omega (arith, e)
not-yet PreOp SafeOp h e = omega (arith, e)
not-yet SafeOp Op h e = omega (arith, e)
not-yet _ _ h e = h

in-stays : (from to : State) (s : SlaveState) → IsStepUp from to → IsIn to s → StaysIn to s
in-stays Init Init s h k = absurd h
in-stays _ Init s h k = absurd h
in-stays from _ s h k = k

await-rises : (r : Rise) (to : State) (s : SlaveState) → IsClimbing r to → s.al.error ≡ false → state_number s.al.state ≡ state_number to → Rises r s → StaysIn to s
await-rises Falls to s can e n h = absurd can
await-rises (Stays from) to s can e n h = absurd can
await-rises (Climbs from other) to s (step, same) e n (up, inl h) = absurd (not-yet from to step (ap state_number (sym h.state) ∙ n))
await-rises (Climbs from other) to s (step, same) e n (up, inr (inl h)) = in-stays from to s step (subst (λ (x : State). IsIn x s) same h)
await-rises (Climbs from other) to s (step, same) e n (up, inr (inr h)) = absurd (both_ways s.al.error e h.error)

-- where the SII is known to be idle, or the state another
known-configured : (i : ℕ) (c : Config) (b : Bool) (r : Rise) (s : SlaveState) → (b ≡ true → s.sii.busy ≡ false) → IsConfigured i c s → IsConfigured i (record c { idle = b; rise = r }) s
known-configured i c b r s e k = record { station_is = k.station_is; settings = k.settings; fmmus = k.fmmus; idle = e; no_messages = k.no_messages; outputs = k.outputs }

known-silent : (c : Config) (b : Bool) (r : Rise) (s : SlaveState) → IsSilent c s → IsSilent (record c { idle = b; rise = r }) s
known-silent c b r s k = record { no_message = k.no_message; no_reply = k.no_reply; assigned = record { outs = k.assigned.outs; ins = k.assigned.ins; came = k.assigned.came } }

known-talks : (i : ℕ) (c : Config) (b : Bool) (r : Rise) (s : SlaveState) → c.talk ≡ None → Talks i c c.talk s → Talks i (record c { idle = b; rise = r }) c.talk s
known-talks i c b r s none h = subst (λ (o : Option Talk). Talks i (record c { idle = b; rise = r }) o s) (sym none) (known-silent c b r s (subst (λ (o : Option Talk). Talks i c o s) none h))

-- no step up leads to INIT
past-init : (r : Rise) (to : State) → IsClimbing r to → IsEarly (Stays to) → ⊥
past-init Falls to can e = can
past-init (Stays from) to can e = can
past-init (Climbs Init other) Init can e = can.0
past-init (Climbs PreOp other) Init can e = can.0
past-init (Climbs SafeOp other) Init can e = can.0
past-init (Climbs Op other) Init can e = can.0
past-init (Climbs from other) PreOp can e = e
past-init (Climbs from other) SafeOp can e = e
past-init (Climbs from other) Op can e = e

-- and INIT is early
init-early : (r : Rise) → IsAtInit r → IsEarly r
init-early Falls at = tt
init-early (Stays Init) at = tt
init-early _ at = absurd at

await-up : (i : ℕ) (c : Config) (to : State) (s : SlaveState) (d : Datagram) → c.talk ≡ None → IsClimbing c.rise to
    → slice_index d.data_bytes 0 ≡ byte_at s 0x0130 → MayEnd (AwaitState i to) d → IsUpAt i c s → IsUpAt i (record c { rise = Stays to }) s
await-up i c to s d none can e m u =
    let b : slice_index d.data_bytes 0 ≡ state_number s.al.state + 16 * from_bool s.al.error = e ∙ (shows_itself s).status in
    let k = shows-state s.al.state to s.al.error (subst (λ (x : ℕ). bit_at x 4 ≢ 1) b m.1) (subst (λ (x : ℕ). x % 32 ≡ state_number to) b m.2) in
    record {
      configured = known-configured i c c.idle (Stays to) s u.configured.idle u.configured;
      unlocked = u.unlocked;
      rises = await-rises c.rise to s can k.0 k.1 u.rises;
      talks = known-talks i c c.idle (Stays to) s none u.talks;
      early = λ e. absurd (past-init c.rise to can e);
      quiet = λ _. none;
    }

top-climbs : (r : Rise) (to : State) → IsClimbing r to → IsTop r → IsTop (Stays to)
top-climbs Falls to can top = absurd can
top-climbs (Stays from) to can top = absurd can
top-climbs (Climbs SafeOp Op) to (step, same) top = subst (λ (x : State). IsTop (Stays x)) same tt
top-climbs _ to can top = absurd top

await-faulted : (i : ℕ) (c : Config) (to : State) (s : SlaveState) → IsClimbing c.rise to → IsFaulted i c s → IsFaulted i (record c { rise = Stays to }) s
await-faulted i c to s can h = let k = h.faulted in record {
  top = top-climbs c.rise to can h.top;
  quiet = h.quiet;
  faulted = record {
    configured = known-configured i c c.idle (Stays to) s k.configured.idle k.configured;
    silent = known-silent c c.idle (Stays to) s k.silent;
    state = k.state;
    error = k.error;
    no_request = k.no_request;
    locked = k.locked;
    unlocked = k.unlocked;
  };
}

pub pass-await-state : (kind : SlaveKind) (i : ℕ) (c : Config) (trouble : Bool) (state : State) (number : ℕ) (d : Datagram) (s : SlaveState)
    → i < 64 → CanAct c (AwaitState i state) → IsDatagram d → Owes kind i (Up c) trouble (AwaitState i state) number d s
pass-await-state kind i c trouble state number d s l can good arrives h =
    pass-poll kind i c trouble (AwaitState i state) number d s (record { from = 0x0130; bytes = zeros 6 }) (as_one number (ForAwaitState i state)) l refl
    (window-sent Fprd (station i) 0x0130 (zeros 6) number) (omega arith) (omega arith)
    (λ shown m u. await-up i c state s (datagram_met s d) can.0 can.1 (shown 0 (omega arith)) m u)
    (λ g. await-faulted i c state s can.1 g)
    good arrives h

-- ---- INIT without an error

shows-clean : (st : State) (e : Bool) → (state_number st + 16 * from_bool e) % 32 ≡ 1 → e ≡ false
shows-clean Init false n = refl
shows-clean _ false n = refl
shows-clean Init true n = absurd (omega (arith, n))
shows-clean PreOp true n = absurd (omega (arith, n))
shows-clean SafeOp true n = absurd (omega (arith, n))
shows-clean Op true n = absurd (omega (arith, n))

-- what is known in INIT, once no error is shown
clean-rises : (r : Rise) (s : SlaveState) → IsAtInit r → s.al.error ≡ false → Rises r s → IsInInit s
clean-rises Falls s at e h = record { state = h.state; no_error = λ f. e; asked = h.asked }
clean-rises (Stays Init) s at e h = h
clean-rises _ s at e h = absurd at

clean-up : (i : ℕ) (c : Config) (s : SlaveState) (d : Datagram) → c.talk ≡ None → IsAtInit c.rise
    → slice_index d.data_bytes 0 ≡ byte_at s 0x0130 → MayEnd (AwaitCleanInit i) d → IsUpAt i c s → IsUpAt i (record c { rise = Stays Init }) s
clean-up i c s d none at e m u =
    let b : slice_index d.data_bytes 0 ≡ state_number s.al.state + 16 * from_bool s.al.error = e ∙ (shows_itself s).status in
    let k = shows-clean s.al.state s.al.error (subst (λ (x : ℕ). x % 32 ≡ 1) b m.1) in
    record {
      configured = known-configured i c c.idle (Stays Init) s u.configured.idle u.configured;
      unlocked = u.unlocked;
      rises = clean-rises c.rise s at k u.rises;
      talks = known-talks i c c.idle (Stays Init) s none u.talks;
      early = λ e. u.early (init-early c.rise at);
      quiet = λ _. none;
    }

init-top : (r : Rise) → IsAtInit r → IsTop r → ⊥
init-top Falls at top = top
init-top (Stays Init) at top = top
init-top _ at top = absurd at

pub pass-await-clean : (kind : SlaveKind) (i : ℕ) (c : Config) (trouble : Bool) (number : ℕ) (d : Datagram) (s : SlaveState)
    → i < 64 → CanAct c (AwaitCleanInit i) → IsDatagram d → Owes kind i (Up c) trouble (AwaitCleanInit i) number d s
pass-await-clean kind i c trouble number d s l can good arrives h =
    pass-poll kind i c trouble (AwaitCleanInit i) number d s (record { from = 0x0130; bytes = zeros 6 }) (as_one number (ForAwaitCleanInit i)) l refl
    (window-sent Fprd (station i) 0x0130 (zeros 6) number) (omega arith) (omega arith)
    (λ shown m u. clean-up i c s (datagram_met s d) can.1 can.0 (shown 0 (omega arith)) m u)
    (λ g. absurd (init-top c.rise can.0 g.top))
    good arrives h

-- ---- the SII

busy-by : (b e : Bool) → bit_at (0 + 256 * (from_bool b + 32 * from_bool e + 128 * from_bool b)) 15 ≢ 1 → b ≡ false
busy-by true true n = absurd (n refl)
busy-by true false n = absurd (n refl)
busy-by false e n = refl

word-up : (i : ℕ) (c : Config) (s : SlaveState) (which : ℕ) (d : Datagram) → c.talk ≡ None
    → slice_index d.data_bytes 0 ≡ byte_at s 0x0502 → slice_index d.data_bytes 1 ≡ byte_at s 0x0503 → MayEnd (AwaitWord i which) d → IsUpAt i c s → IsUpAt i (record c { idle = true }) s
word-up i c s which d none e f m u =
    let a : slice_index d.data_bytes 0 ≡ 0 = e ∙ (shows_itself s).sii_low in
    let n : bit_at (0 + 256 * (from_bool s.sii.busy + 32 * from_bool s.sii.error + 128 * from_bool s.sii.busy)) 15 ≢ 1
    = subst (λ (x : ℕ). bit_at (0 + 256 * x) 15 ≢ 1) (f ∙ (shows_itself s).sii_high) (subst (λ (x : ℕ). bit_at (x + 256 * slice_index d.data_bytes 1) 15 ≢ 1) a m.1) in
    record {
      configured = known-configured i c true c.rise s (λ _. busy-by s.sii.busy s.sii.error n) u.configured;
      unlocked = u.unlocked;
      rises = u.rises;
      talks = known-talks i c true c.rise s none u.talks;
      early = u.early;
      quiet = λ _. none;
    }

pub pass-await-word : (kind : SlaveKind) (i which : ℕ) (c : Config) (trouble : Bool) (number : ℕ) (d : Datagram) (s : SlaveState)
    → i < 64 → CanAct c (AwaitWord i which) → IsDatagram d → Owes kind i (Up c) trouble (AwaitWord i which) number d s
pass-await-word kind i which c trouble number d s l can good arrives h =
    pass-poll kind i c trouble (AwaitWord i which) number d s (record { from = 0x0502; bytes = zeros 10 }) (as_one number (ForAwaitWord i which)) l refl
    (window-sent Fprd (station i) 0x0502 (zeros 10) number) (omega arith) (omega arith)
    (λ shown m u. word-up i c s which (datagram_met s d) can.1 (shown 0 (omega arith)) (shown 1 (omega arith)) m u)
    (λ g. absurd (low-top c.rise can.0 g.top))
    good arrives h

-- ---- the working counter and the data of a start-up's datagram, at the slave that it is for

pub register-writes : (s : SlaveState) (w : Window) (k : ℕ) → w.from + k < ram_start → takes_writes s.sii.busy (w.from + k) ≡ true → may_write_byte s.managers s.sii.busy (touches w) (w.from + k) ≡ true
register-writes s w k l h = (registers_open s.managers (touches w) (w.from + k) l).writes s.sii.busy ∙ h

-- a slave that is told to write counts
pub write-counts : (s : SlaveState) (d : Datagram) (w : Window) (k : ℕ) → OnlyWrites s d → window_of d ≡ w → k < length w.bytes → is_missing s.kind.hardware (w.from + k) ≡ false
    → may_write_byte s.managers s.sii.busy (touches w) (w.from + k) ≡ true → (datagram_met s d).counter ≡ (d.counter + 1) % 65536
write-counts s d w k h win l here m =
    (writes_meet s d h).counter
    ∙ (ap (λ (x : Window). (d.counter + from_bool (is_written s x)) % 65536) win ∙ ap (λ (b : Bool). (d.counter + from_bool b) % 65536) (or_left _ _ (any_below_from (length w.bytes) (λ j. if is_missing s.kind.hardware (w.from + j) then false else may_write_byte s.managers s.sii.busy (touches w) (w.from + j)) k l (if_false _ _ _ here ∙ m))))

-- ---- the datagrams of a start-up, as they were sent

-- a stored register is written
pub register-goes : (s : SlaveState) (i ado : ℕ) (bytes : List ℕ) (number k : ℕ) → station_of s ≡ station i → i < 64 → k < length bytes → ado + k < ram_start → is_missing s.kind.hardware (ado + k) ≡ false → takes_writes s.sii.busy (ado + k) ≡ true
    → (datagram_met s (sent Fpwr (station i) ado bytes number)).counter ≡ 1
register-goes s i ado bytes number k e l b r here h =
    write-counts s (sent Fpwr (station i) ado bytes number) (record { from = ado; bytes = bytes }) k
    (own-writes s (sent Fpwr (station i) ado bytes number) refl (let a : (station i % 65536 + 65536 * ado) % 65536 ≡ station_of s = omega (arith, e, l) in a))
    (window-sent Fpwr (station i) ado bytes number) b here (register-writes s (record { from = ado; bytes = bytes }) k r h)

pub register-shows : (s : SlaveState) (i ado : ℕ) (bytes : List ℕ) (number k : ℕ) → station_of s ≡ station i → i < 64 → k < length bytes → ado + k < ram_start
    → (datagram_met s (sent Fprd (station i) ado bytes number)).counter ≡ 1
register-shows s i ado bytes number k e l b r =
    let w : Window = record { from = ado; bytes = bytes } in
    let d : Datagram = sent Fprd (station i) ado bytes number in
    (reads_meet s d (own-reads s d refl (let a : (station i % 65536 + 65536 * ado) % 65536 ≡ station_of s = omega (arith, e, l) in a))).counter
    ∙ (ap (λ (x : Window). (0 + from_bool (some_byte_read s.managers x)) % 65536) (window-sent Fprd (station i) ado bytes number)
    ∙ ap (λ (x : Bool). (0 + from_bool x) % 65536) (any_below_from (length bytes) (λ j. may_read_byte s.managers (touches w) (ado + j)) k b (registers_open s.managers (touches w) (ado + k) r).reads))
