-- The broadcast reads of a start-up at any slave.
use Rattle.ec_bringup.proofs.Words.{ℕ, ◌+◌, ◌*◌, ◌/◌, ◌%◌, ◌<◌, ◌≤◌, ◌≡◌, Bool, true, false, Some, refl, sym, ◌∙◌, ap, subst, inl, inr, arith, slice_index, ◌≢◌, ◌==◌, if◌then◌else◌, bit_or, from_bool, bit_at, le_or_l, le_or_r, or_mod, both_ways, cases_eq, eq-eqb, SlaveKind, Datagram, adp_of, ado_of, IsDatagram, State, Init, state_number, SlaveState, Meeting, with_answer, byte_at, updated, meets, slave_met, datagram_met, broadcast_read, CountSlaves, AwaitInit, AskInit, ClearFmmus, ClearManagers, ClearStations, NameSlave, AskWord, AwaitWord, SetManager, SetFmmu, AskState, AwaitState, SendRequest, AwaitReply, datagram_of, Stage, Called, Down, Up, Config, Fits, IsInInit, Reached, Stands, IsBroadcast, ShowsInit, MayEnd, MayRepeat, shows_itself, updated_by_index, if_true, if_false, Device, Reply, Downloaded, Uploaded, message_read, reply_of, Action, SdoRequest, Transfer, Download, Upload, Verdict, Next, Again, Fails, StartError, verdict, counted, reply_verdict, word_at, CanAct, FrameLaw, LaterLaw, Lost, TakeLaw, eqb-true, not, size_number, type_of, Word, long_at, ◌&&◌, is_device, with_word, zeros, [], ◌∷◌, AwaitInitState, ClearAllFmmus, ClearAllManagers, AssignSii, ClearSiiError, AwaitCleanInit, FeedPart, Feed, Fed, WantedDevice, access_number, Lowered, HasFallen, IsNamed, ShowsLow, init_request, control_word, FedLaw, PreOp, SafeOp, Op, AwaitFreeReply, Aborted, Unexpected, is_aside, heard_in, free_reply_verdict, free_reply_of, size_asked, Aside}
use Rattle.ec_bringup.proofs.OneFrame.OtherSlaves.{pass-other, later-one, ForAwaitCleanInit, ForAskState, ForAskWord, ForAwaitReply, ForAwaitFreeReply, ForAwaitState, ForAwaitWord, ForSend, ForSetFmmu, ForSetManager, IsFor, Owes, as_one}
use Rattle.ec_bringup.proofs.OneFrame.RegisterWrites.{pass-ask-state}
use Rattle.ec_bringup.proofs.OneFrame.RegisterPolls.{pass-await-clean, pass-await-state, pass-await-word}
use Rattle.ec_bringup.proofs.OneFrame.BroadcastWrites.{pass-broadcast, init-called, clear-fmmus, clear-managers, clear-all-fmmus, clear-all-managers, down-aside, lowered-aside, stations-aside, sii-aside, assign-sii}
use Rattle.ec_bringup.proofs.OneFrame.NameSlave.{pass-name}
use Rattle.ec_bringup.proofs.OneFrame.SetRegisters.{pass-ask-word, pass-set-manager, pass-set-fmmu}
use Rattle.ec_bringup.proofs.Mailbox.SendRequest.{pass-send}
use Rattle.ec_bringup.proofs.Mailbox.AwaitReply.{pass-await-reply, pass-await-free}
use Rattle.ec_bringup.proofs.OneSlave.Alike.{reached-low}

-- the datagram after it
abbrev pub looked : SlaveState → Datagram → Datagram
looked s d = with_answer d ((adp_of d + 1) % 65536 + 65536 * ado_of d) (updated d.data_bytes (λ k. Some (bit_or (slice_index d.data_bytes k) (byte_at s (ado_of d + k))))) 1

-- the three broadcast reads of a start-up have one datagram
pub look : (s : SlaveState) (d : Datagram) (number : ℕ) → IsBroadcast (datagram_of AwaitInit number) d → meets s d ≡ record { slave = s; datagram = looked s d }
look s d number h = let a : ado_of d ≡ 0x0130 = h.ado in let l = h.data_length in broadcast_read s d h.command (omega (arith, l)) (omega (arith, a, l))

pub look-on : (s : SlaveState) (d : Datagram) (number : ℕ) → IsBroadcast (datagram_of AwaitInit number) d → IsBroadcast (datagram_of AwaitInit number) (datagram_met s d)
look-on s d number h =
    let q : datagram_met s d ≡ looked s d = ap (λ (m : Meeting). m.datagram) (look s d number h) in
    let e : ((adp_of d + 1) % 65536 + 65536 * ado_of d) / 65536 ≡ ado_of d = omega arith in
    subst (λ (x : Datagram). IsBroadcast (datagram_of AwaitInit number) x) (sym q) (record { command = h.command; ado = e ∙ h.ado; data_length = (updated_by_index d.data_bytes _).long ∙ h.data_length })

-- a byte grows, and it gets each slave's bits
pub look-byte : (s : SlaveState) (d : Datagram) (number k : ℕ) → IsBroadcast (datagram_of AwaitInit number) d → k < 2 → slice_index (datagram_met s d).data_bytes k ≡ bit_or (slice_index d.data_bytes k) (byte_at s (0x0130 + k))
look-byte s d number k h l =
    ap (λ (m : Meeting). slice_index m.datagram.data_bytes k) (look s d number h)
    ∙ ((updated_by_index d.data_bytes (λ k. Some (bit_or (slice_index d.data_bytes k) (byte_at s (ado_of d + k))))).each k (omega (arith, h.data_length, l))
    ∙ ap (λ (x : ℕ). bit_or (slice_index d.data_bytes k) (byte_at s (x + k))) h.ado)

-- ---- how many slaves there are

pub pass-count : (kind : SlaveKind) (i : ℕ) (st : Stage) (trouble : Bool) (number : ℕ) (d : Datagram) (s : SlaveState) → Owes kind i st trouble CountSlaves number d s
pass-count kind i st trouble number d s arrives h =
    let q : slave_met s d ≡ s = ap (λ (m : Meeting). m.slave) (look s d number arrives) in
    (record { other = λ o. absurd o; repeated = λ o. absurd o; ended = λ _. subst (λ (t : SlaveState). Stands kind i st trouble t) (sym q) h }, look-on s d number arrives)

-- ---- all in INIT

low-state : (st : State) (e : Bool) → state_number st + 16 * from_bool e ≤ 1 → (st ≡ Init) × (e ≡ false)
low-state Init false l = (refl, refl)
low-state _ _ l = absurd (omega (arith, l))

-- a slave that a datagram passes later doesn't make it better
shows-more : (s : SlaveState) (d : Datagram) (number : ℕ) → IsBroadcast (datagram_of AwaitInit number) d → ShowsInit (datagram_met s d) → ShowsInit d × (byte_at s 0x0130 ≤ 1)
shows-more s d number h k =
    let a : bit_or (slice_index d.data_bytes 0) (byte_at s 0x0130) ≤ 1 = subst (λ (x : ℕ). x ≤ 1) (look-byte s d number 0 h (omega arith)) k.low in
    let b : bit_or (slice_index d.data_bytes 1) (byte_at s 0x0131) ≡ 0 = sym (look-byte s d number 1 h (omega arith)) ∙ k.high in
    let x = le_or_l (slice_index d.data_bytes 0) (byte_at s 0x0130) in
    let y = le_or_r (slice_index d.data_bytes 0) (byte_at s 0x0130) in
    let z = le_or_l (slice_index d.data_bytes 1) (byte_at s 0x0131) in
    (record { low = omega (arith, a, x); high = omega (arith, b, z) }, omega (arith, a, y))

init-shown : (i : ℕ) (s : SlaveState) → byte_at s 0x0130 ≤ 1 → Reached i Called s → IsInInit s
init-shown i s l h =
    let k = low-state s.al.state s.al.error (subst (λ (x : ℕ). x ≤ 1) (shows_itself s).status l) in
    record { state = k.0; no_error = λ _. k.1; asked = asked-of i s h }
  where
    asked-of : (j : ℕ) (x : SlaveState) → Reached j Called x → x.al.requested ≡ true → control_word x ≡ init_request
    asked-of j x (inl g) e = g.1
    asked-of j x (inr g) e = g.asked e

-- the state alone, as a table with `hardware` looks at it
pub bits-state : (st : State) (e : Bool) → (state_number st + 16 * from_bool e) % 16 ≤ 1 → st ≡ Init
bits-state Init e l = refl
bits-state PreOp true l = absurd (omega (arith, l))
bits-state PreOp false l = absurd (omega (arith, l))
bits-state SafeOp true l = absurd (omega (arith, l))
bits-state SafeOp false l = absurd (omega (arith, l))
bits-state Op true l = absurd (omega (arith, l))
bits-state Op false l = absurd (omega (arith, l))

or-low : (a b : ℕ) → bit_or a b % 16 ≤ 1 → (a % 16 ≤ 1) × (b % 16 ≤ 1)
or-low a b h =
    let e : bit_or a b % 16 ≡ bit_or (a % 16) (b % 16) = or_mod a b 4 in
    let x = le_or_l (a % 16) (b % 16) in
    let y = le_or_r (a % 16) (b % 16) in
    (omega (arith, h, e, x), omega (arith, h, e, y))

-- bits that a slave later sets don't make the state lower
pub shows-lower : (s : SlaveState) (d : Datagram) (number : ℕ) → IsBroadcast (datagram_of AwaitInit number) d → ShowsLow (datagram_met s d) → ShowsLow d × (byte_at s 0x0130 % 16 ≤ 1)
shows-lower s d number h k =
    let a : bit_or (slice_index d.data_bytes 0) (byte_at s 0x0130) % 16 ≤ 1 = subst (λ (x : ℕ). x % 16 ≤ 1) (look-byte s d number 0 h (omega arith)) k in
    or-low (slice_index d.data_bytes 0) (byte_at s 0x0130) a

fallen-shown : (i : ℕ) (s : SlaveState) → byte_at s 0x0130 % 16 ≤ 1 → Reached i Called s → HasFallen s
fallen-shown i s l (inl h) = record {
  state = bits-state s.al.state s.al.error (subst (λ (x : ℕ). x % 16 ≤ 1) (shows_itself s).status l);
  no_error = λ f q. absurd (both_ways s.al.requested q h.0);
  asked = λ _. h.1;
}
fallen-shown i s l (inr h) = h

pub pass-await-low : (kind : SlaveKind) (i : ℕ) (trouble : Bool) (number : ℕ) (d : Datagram) (s : SlaveState) → Owes kind i Called trouble AwaitInitState number d s
pass-await-low kind i trouble number d s arrives h =
    let q : slave_met s d ≡ s = ap (λ (m : Meeting). m.slave) (look s d number arrives) in (
      record {
        other = λ o. absurd o;
        repeated = λ _. subst (λ (t : SlaveState). Stands kind i Called trouble t) (sym q) h;
        ended = λ m. subst (λ (t : SlaveState). Stands kind i (Lowered false false) trouble t) (sym q) (record {
          slave = h.slave;
          at = inl (record {
            low = fallen-shown i s (shows-lower s d number arrives m).1 (reached-low kind i Called trouble s (λ u. u) h);
            fmmus = λ e. absurd (both_ways false refl e);
            managers = λ e. absurd (both_ways false refl e);
          });
        });
      },
      look-on s d number arrives,
    )

pub pass-await-init : (kind : SlaveKind) (i : ℕ) (trouble : Bool) (number : ℕ) (d : Datagram) (s : SlaveState) → Owes kind i Called trouble AwaitInit number d s
pass-await-init kind i trouble number d s arrives h =
    let q : slave_met s d ≡ s = ap (λ (m : Meeting). m.slave) (look s d number arrives) in (
      record {
        other = λ o. absurd o;
        repeated = λ _. subst (λ (t : SlaveState). Stands kind i Called trouble t) (sym q) h;
        ended = λ m. subst (λ (t : SlaveState). Stands kind i (Down false false) trouble t) (sym q) (record {
          slave = h.slave;
          at = inl (record {
            init = init-shown i s (shows-more s d number arrives m).1 (reached-low kind i Called trouble s (λ u. u) h);
            fmmus = λ e. absurd (both_ways false refl e);
            managers = λ e. absurd (both_ways false refl e);
          });
        });
      },
      look-on s d number arrives,
    )

-- ---- a frame of a start-up at a slave: all actions

pub split : (t i : ℕ) (P : ℕ → Type 0) → P i → (t ≢ i → P t) → P t
split t i P own other = elim (cases_eq t i) [
  | inl e ↦ subst P (sym e) own
  | inr ne ↦ other ne
]

module _ (kind : SlaveKind) (i : ℕ) (trouble : Bool) (number : ℕ) (d : Datagram) (s : SlaveState) (l : i < 64) (good : IsDatagram d) where
  -- an action for one slave
  by-one : (t : ℕ) (st : Stage) (a : ℕ → Action) → ((x : ℕ) → IsFor x (a x))
      → ((c : Config) → CanAct c (a i) → IsNamed kind i (a i) → Owes kind i (Up c) trouble (a i) number d s) → Fits i st (a t) → IsNamed kind i (a t) → Owes kind i st trouble (a t) number d s
  by-one t st a is own = split t i (λ x. Fits i st (a x) → IsNamed kind i (a x) → Owes kind i st trouble (a x) number d s) (mine st)
      (λ ne f n r h. pass-other kind i t st trouble (a t) number d s (as_one number (is t)) ne l f good r h)
    where
      mine : (x : Stage) → Fits i x (a i) → IsNamed kind i (a i) → Owes kind i x trouble (a i) number d s
      mine (Up c) f n = own c (((as_one number (is i)).fits i (Up c) f).2 refl) n
      mine x f n = absurd ((as_one number (is i)).fits i x f).1

  owes : (st : Stage) (a : Action) → Fits i st a → IsNamed kind i a → Owes kind i st trouble a number d s
  owes st CountSlaves f n = pass-count kind i st trouble number d s
  owes st AskInit f n = pass-broadcast kind i st trouble AskInit number d s 0x0120 (0x11 ∷ 0 ∷ []) refl (λ o. o) (λ o. o) (init-called kind i st trouble s)
  owes Called AwaitInit f n = pass-await-init kind i trouble number d s
  owes (Down x y) ClearFmmus f n = pass-broadcast kind i (Down x y) trouble ClearFmmus number d s 0x0600 (zeros 64) refl (λ o. o) (λ o. o) (clear-fmmus kind i x y trouble s)
  owes (Down x y) ClearManagers f n = pass-broadcast kind i (Down x y) trouble ClearManagers number d s 0x0800 (zeros 32) refl (λ o. o) (λ o. o) (clear-managers kind i x y trouble s n)
  owes (Down x y) ClearStations f n = pass-broadcast kind i (Down x y) trouble ClearStations number d s 0x0010 (zeros 2) refl (λ o. o) (λ o. o) (down-aside kind i x y trouble s (record { from = 0x0010; bytes = zeros 2 }) stations-aside)
  owes (Lowered x y) ClearStations f n = pass-broadcast kind i (Lowered x y) trouble ClearStations number d s 0x0010 (zeros 2) refl (λ o. o) (λ o. o) (lowered-aside kind i x y trouble s (record { from = 0x0010; bytes = zeros 2 }) stations-aside)
  owes Called AwaitInitState f n = pass-await-low kind i trouble number d s
  owes (Lowered x y) ClearAllFmmus f n = pass-broadcast kind i (Lowered x y) trouble ClearAllFmmus number d s 0x0600 (zeros 256) refl (λ o. o) (λ o. o) (clear-all-fmmus kind i x y trouble s)
  owes (Lowered x y) ClearAllManagers f n = pass-broadcast kind i (Lowered x y) trouble ClearAllManagers number d s 0x0800 (zeros 128) refl (λ o. o) (λ o. o) (clear-all-managers kind i x y trouble s n)
  owes (Lowered x y) ClearSiiError f n = pass-broadcast kind i (Lowered x y) trouble ClearSiiError number d s 0x0502 (zeros 2) refl (λ o. o) (λ o. o) (lowered-aside kind i x y trouble s (record { from = 0x0502; bytes = zeros 2 }) sii-aside)
  owes st (AssignSii access) f n = pass-broadcast kind i st trouble (AssignSii access) number d s 0x0500 (access_number access ∷ []) refl (λ o. o) (λ o. o) (assign-sii kind i st trouble s (access_number access) n)
  owes st (NameSlave t) f n = pass-name kind i t st trouble number d s l f good
  owes st (AwaitCleanInit t) f n = by-one t st AwaitCleanInit ForAwaitCleanInit (λ c can m. pass-await-clean kind i c trouble number d s l can good) f n
  owes st (AskWord t k) f n = by-one t st (λ x. AskWord x k) (λ x. ForAskWord x k) (λ c can m. pass-ask-word kind i k c trouble number d s l can good) f n
  owes st (AwaitWord t k) f n = by-one t st (λ x. AwaitWord x k) (λ x. ForAwaitWord x k) (λ c can m. pass-await-word kind i k c trouble number d s l can good) f n
  owes st (SetManager t k m r) f n = by-one t st (λ x. SetManager x k m r) (λ x. ForSetManager x k m r) (λ c can q. pass-set-manager kind i k m r c trouble number d s l can (q refl).0 (q refl).1 good) f n
  owes st (SetFmmu t k g start) f n = by-one t st (λ x. SetFmmu x k g start) (λ x. ForSetFmmu x k g start) (λ c can q. pass-set-fmmu kind i k g start c trouble number d s l can (q refl).0 (q refl).1 good) f n
  owes st (AskState t to) f n = by-one t st (λ x. AskState x to) (λ x. ForAskState x to) (λ c can m. pass-ask-state kind i c trouble to number d s l can good) f n
  owes st (AwaitState t to) f n = by-one t st (λ x. AwaitState x to) (λ x. ForAwaitState x to) (λ c can m. pass-await-state kind i c trouble to number d s l can good) f n
  owes st (SendRequest t k b q) f n = by-one t st (λ x. SendRequest x k b q) (λ x. ForSend x k b q) (λ c can m. pass-send kind i k b q c trouble number d s l can good) f n
  owes st (AwaitReply t b q) f n = by-one t st (λ x. AwaitReply x b q) (λ x. ForAwaitReply x b q) (λ c can m. pass-await-reply kind i b q c trouble number d s l can good) f n
  owes st (AwaitFreeReply t b q) f n = by-one t st (λ x. AwaitFreeReply x b q) (λ x. ForAwaitFreeReply x b q) (λ c can m. pass-await-free kind i b q c trouble number d s l can good) f n
  owes _ _ f n = absurd f

pub pass-law : FrameLaw
pass-law kind i st trouble a number d s l good f n r h = owes kind i trouble number d s l good st a f n r h

-- ---- a slave that was passed, when the frame passes a later one

pub later-law : LaterLaw
later-law kind i st trouble other j at had AwaitInit number d s t l b f good r h m = record { other = m.other; repeated = λ o. m.repeated tt; ended = λ o. m.ended (shows-more t d number r o).0 }
later-law kind i st trouble other j at had AwaitInitState number d s t l b f good r h m = record { other = m.other; repeated = λ o. m.repeated tt; ended = λ o. m.ended (shows-lower t d number r o).0 }
later-law kind i st trouble other j at had (AwaitCleanInit x) number d s t l b f good r h m = later-one (as_one number (ForAwaitCleanInit x)) l b f good r h m
later-law kind i st trouble other j at had (AskWord x n) number d s t l b f good r h m = later-one (as_one number (ForAskWord x n)) l b f good r h m
later-law kind i st trouble other j at had (AwaitWord x n) number d s t l b f good r h m = later-one (as_one number (ForAwaitWord x n)) l b f good r h m
later-law kind i st trouble other j at had (SetManager x n y q) number d s t l b f good r h m = later-one (as_one number (ForSetManager x n y q)) l b f good r h m
later-law kind i st trouble other j at had (SetFmmu x n y q) number d s t l b f good r h m = later-one (as_one number (ForSetFmmu x n y q)) l b f good r h m
later-law kind i st trouble other j at had (AskState x to) number d s t l b f good r h m = later-one (as_one number (ForAskState x to)) l b f good r h m
later-law kind i st trouble other j at had (AwaitState x to) number d s t l b f good r h m = later-one (as_one number (ForAwaitState x to)) l b f good r h m
later-law kind i st trouble other j at had (SendRequest x n y q) number d s t l b f good r h m = later-one (as_one number (ForSend x n y q)) l b f good r h m
later-law kind i st trouble other j at had (AwaitReply x y q) number d s t l b f good r h m = later-one (as_one number (ForAwaitReply x y q)) l b f good r h m
later-law kind i st trouble other j at had (AwaitFreeReply x y q) number d s t l b f good r h m = later-one (as_one number (ForAwaitFreeReply x y q)) l b f good r h m
later-law kind i st trouble other j at had _ number d s t l b f good r h m = record { other = m.other; repeated = λ o. absurd o; ended = λ o. m.ended tt }

-- ---- what a verdict says

abbrev pub gives_up : StartError → Bool
gives_up Lost = true
gives_up _ = false

-- where it doesn't fail, it may: the wait is over, or goes on; and it gives up no start-up
abbrev pub Says : Action → Datagram → Verdict → Type 0
Says a d Again = MayRepeat a d
Says a d (Aside heard) = MayRepeat a d
Says a d (Fails f) = gives_up f ≡ false
-- a part was fed by a frame that feeds it
Says a d Fed = (f : Feed) × (a ≡ FeedPart f)
Says a d _ = MayEnd a d

by-test : (P : Verdict → Type 0) (b : Bool) (x y : Verdict) → (b ≡ true → P x) → (b ≡ false → P y) → P (if b then x else y)
by-test P true x y h k = h refl
by-test P false x y h k = k refl

counted-says : (a : Action) (d : Datagram) (n step : ℕ) (v : Verdict) → (d.counter ≡ n → Says a d v) → Says a d (counted d.counter n step v)
counted-says a d n step v h = by-test (Says a d) (d.counter == n) v _ (λ e. h (eqb-true _ _ e)) (λ e. refl)

-- a message ends, or fails
reply-says : (a : Action) (d : Datagram) (i : ℕ) (r : SdoRequest) (x : Transfer) (p : Reply) → (reply_verdict i r x p ≡ Next → MayEnd a d) → Says a d (reply_verdict i r x p)
reply-says a d i r (Download w) Downloaded h = h refl
reply-says a d i r (Upload w) (Uploaded v) h =
    by-test (Says a d) (not (size_number v.size == size_number w.size)) _ _ (λ e. refl)
    (λ e. by-test (Says a d) (v.number == w.number) Next _ (λ f. h (if_false _ _ _ e ∙ if_true _ _ _ f)) (λ f. refl))
reply-says a d i r _ _ h = refl

-- of any size
free-says : (a : Action) (d : Datagram) (i : ℕ) (r : SdoRequest) (x : Transfer) (p : Reply) → (free_reply_verdict i r x p ≡ Next → MayEnd a d) → Says a d (free_reply_verdict i r x p)
free-says a d i r (Download w) p h = reply-says a d i r (Download w) p h
free-says a d i r (Upload w) (Uploaded v) h = by-test (Says a d) (v.number == w.number) Next _ (λ f. h (if_true _ _ _ f)) (λ f. refl)
free-says a d i r (Upload w) Downloaded h = refl
free-says a d i r (Upload w) (Aborted code) h = refl
free-says a d i r (Upload w) Unexpected h = refl

pub take-says : (n step : ℕ) (s : Device) (types : ℕ → WantedDevice) (a : Action) (d : Datagram) → Says a d (verdict n step s types a d)
take-says n step s types CountSlaves d = by-test (Says CountSlaves d) (d.counter == n) Next _ (λ e. tt) (λ e. refl)
take-says n step s types AskInit d = counted-says AskInit d n step Next (λ e. tt)
take-says n step s types AwaitInit d =
    counted-says AwaitInit d n step _
    (λ c. by-test (Says AwaitInit d) (word_at d.data_bytes 0 == 1) Next Again
    (λ e. let w = eqb-true (word_at d.data_bytes 0) 1 e in record { low = omega (arith, w); high = omega (arith, w) }) (λ e. tt))
take-says n step s types ClearFmmus d = counted-says ClearFmmus d n step Next (λ e. tt)
take-says n step s types ClearManagers d = counted-says ClearManagers d n step Next (λ e. tt)
take-says n step s types ClearStations d = counted-says ClearStations d n step Next (λ e. tt)
take-says n step s types (AwaitWord t which) d =
    counted-says (AwaitWord t which) d 1 step _
    (λ c. by-test (Says (AwaitWord t which) d) (bit_at (word_at d.data_bytes 0) 13 == 1) _ _ (λ e. refl)
    (λ e. by-test (Says (AwaitWord t which) d) (bit_at (word_at d.data_bytes 0) 15 == 1) Again _ (λ f. tt)
    (λ f. by-test (Says (AwaitWord t which) d) ((which == 2) && not (is_device (types t) (with_word s which (long_at d.data_bytes 6)))) _ (Word (long_at d.data_bytes 6)) (λ g. refl) (λ g. (c, λ q. both_ways _ f (eq-eqb _ _ q))))))
take-says n step s types (AwaitState t to) d =
    counted-says (AwaitState t to) d 1 step _
    (λ c. by-test (Says (AwaitState t to) d) (bit_at (slice_index d.data_bytes 0) 4 == 1) _ _ (λ e. refl)
    (λ e. by-test (Says (AwaitState t to) d) (slice_index d.data_bytes 0 % 32 == state_number to) Next Again
    (λ f. (c, λ q. both_ways _ e (eq-eqb _ _ q), eqb-true _ _ f)) (λ f. tt)))
take-says n step s types (AwaitReply t b r) d =
    by-test (Says (AwaitReply t b r) d) (d.counter == 0) Again _ (λ e. eqb-true _ _ e)
    (λ e. counted-says (AwaitReply t b r) d 1 step _
    (λ c. reply-says (AwaitReply t b r) d t r r.transfer (reply_of r.index r.subindex (message_read d.data_bytes)) (λ q. (c, q))))
take-says n step s types (AwaitFreeReply t b r) d =
    by-test (Says (AwaitFreeReply t b r) d) (d.counter == 0) Again _ (λ e. inl (eqb-true _ _ e))
    (λ e. counted-says (AwaitFreeReply t b r) d 1 step _
    (λ c. by-test (Says (AwaitFreeReply t b r) d) (is_aside d.data_bytes) (Aside (heard_in t d.data_bytes)) _ (λ f. inr f)
    (λ f. free-says (AwaitFreeReply t b r) d t r r.transfer (free_reply_of r.index r.subindex (size_asked r.transfer) (message_read d.data_bytes)) (λ q. (c, if_false _ _ _ f ∙ q)))))
take-says n step s types AwaitInitState d =
    counted-says AwaitInitState d n step _
    (λ c. by-test (Says AwaitInitState d) (slice_index d.data_bytes 0 % 16 == 1) Next Again (λ e. let w = eqb-true (slice_index d.data_bytes 0 % 16) 1 e in omega (arith, w)) (λ e. tt))
take-says n step s types ClearAllFmmus d = tt
take-says n step s types ClearAllManagers d = tt
take-says n step s types (AssignSii access) d = tt
take-says n step s types ClearSiiError d = tt
take-says n step s types (AwaitCleanInit t) d =
    counted-says (AwaitCleanInit t) d 1 step _
    (λ c. by-test (Says (AwaitCleanInit t) d) (slice_index d.data_bytes 0 % 32 == 1) Next Again (λ e. (c, eqb-true _ _ e)) (λ e. tt))
take-says n step s types (FeedPart f) d = counted-says (FeedPart f) d f.counter step Fed (λ e. (f, refl))
take-says n step s types a d = counted-says a d 1 step Next (λ e. tt)

-- what ends a wait, and what has it go on
pub take-law : TakeLaw
take-law n step seen ps a d =
    let h = take-says n step seen (type_of ps) a d in
    (λ e. subst (Says a d) e h, λ value e. subst (Says a d) e h, λ e. subst (Says a d) e h, λ heard e. subst (Says a d) e h)

-- what feeds a part
pub fed-law : FedLaw
fed-law n step seen ps a d e = subst (Says a d) e (take-says n step seen (type_of ps) a d)
