-- What no datagram changes of a slave.
use Rattle.std.proofs.Common.{ℕ, zero, suc, ◌+◌, ◌≡◌, ◌&&◌, Bool, true, false, Some, None, refl, if◌then◌else◌, List, [], ◌∷◌, ◌++◌, length, Option, ◌<◌, slice_index, inl, inr, arith}
use Rattle.ec_device.specs.declared.hardware.Hardware.{Hardware}
use Rattle.ec_regs.specs.declared.fmmu.FmmuSettings.{FmmuSettings}
use Rattle.ec_regs.specs.Managers.{is_mailbox}
use Rattle.ec_frame.specs.declared.command.Command.{Command}
use Rattle.ec_frame.specs.declared.command.Command.TheVariants.{Nop, Aprd, Apwr, Aprw, Fprd, Fpwr, Fprw, Brd, Bwr, Brw, Lrd, Lwr, Lrw, Armw, Frmw}
use Rattle.ec_frame.specs.Datagram.{Datagram, adp_of}
use Rattle.ec_sync.specs.SyncManager.{SyncManager, configured, ring_written, ring_read}
use Rattle.ec_sync.specs.Buffer.{publishing}
use Rattle.ec_fmmu.specs.Applied.{LogicalSpan, touched_by_reading, touched_by_writing}
use Rattle.ec_al.specs.Al.{Al, requesting}
use Rattle.ec_al.specs.declared.state.State.{State}
use Rattle.ec_sii.specs.Port.{written}
use Rattle.std.proofs.lemmas.Bool.{both_ways, cases_lt}
use Rattle.ec_bits.specs.Bits.{overlay}
use Rattle.ec_bits.proofs.BitLaws.{length-overlay}
use Rattle.ec_slave.specs.Keeping.{length-updated}
use Rattle.ec_slave.specs.Roles.{role_of, is_reading, is_writing}
use Rattle.ec_slave.specs.State.{SlaveState, Met, fmmus, manager_at, station_of}
use Rattle.ec_slave.specs.Untouched.{byte-overlay}
use Rattle.ec_slave.specs.Managers.{is_read_by, is_ungoverned, is_written_by, manager_after}
use Rattle.ec_slave.specs.Physical.{Window, is_missing, touches, physical_value, is_configured, settings_written, physical_manager, physical_managers, memory_written, physical_after, physical_met}
use Rattle.ec_slave.specs.Logical.{logical_value, logical_managers, meets_logically, only_if, plain_bit, span_of}
use Rattle.ec_slave.specs.Meeting.{window_of, meets, meets_by, meets_physically}
use Rattle.ec_slave.specs.Interface.{KeepsInside, DatagramsKeepTheInside}
use Rattle.ec_slave.proofs.FirmwareRuns.StepLaws.{either-image, written-image}
use Rattle.ec_slave.proofs.LogicalAccess.SlaveWritten.{plain-outside}
use Rattle.ec_slave.proofs.Memory.MissingFmmus.{missing-left, not-missing}
use Rattle.ec_slave.proofs.Memory.Governor.{length-logical_managers}
use Rattle.ec_slave.proofs.Always.MetIsSlave.{length-physical_managers}

-- ---- locks

abbrev locked_of : SyncManager → Bool
locked_of m = m.locked

written-locked : (m : SyncManager) (v : List ℕ) → (ring_written m v).locked ≡ m.locked
written-locked m v = by (is_mailbox m.settings)
  where
    by : (b : Bool) → locked_of (if b then record m { mail = Some v } else record m { buffer = record m.buffer { published = v }; awaited = false }) ≡ m.locked
    by true = refl
    by false = refl

read-locked : (m : SyncManager) → (ring_read m).locked ≡ m.locked
read-locked m = by (is_mailbox m.settings)
  where
    by : (b : Bool) → locked_of (if b then record m { mail = None } else m) ≡ m.locked
    by true = refl
    by false = refl

after-locked : (reads writes : Bool) (rt wt own : ℕ → Bool) (v : ℕ → ℕ → List ℕ) (m : SyncManager) → (manager_after reads writes rt wt own v m).locked ≡ m.locked
after-locked reads writes rt wt own v m = by (writes && is_written_by wt own m) (reads && is_read_by rt own m)
  where
    by : (b c : Bool) → locked_of (if b then ring_written m (v m.settings.start m.settings.length) else (if c then ring_read m else m)) ≡ m.locked
    by true c = written-locked m (v m.settings.start m.settings.length)
    by false true = read-locked m
    by false false = refl

met-locked : (o : Option Hardware) (lower : List SyncManager) (reads writes : Bool) (w : Window) (n : ℕ) (m : SyncManager) → (physical_manager o lower reads writes w n m).locked ≡ m.locked
unfolding physical_manager
met-locked o lower reads writes w n m = by (writes && is_configured o w n)
  where
    by : (b : Bool) → locked_of (if b then configured m (settings_written o w n m) else manager_after reads writes (touches w) (touches w) (is_ungoverned lower) (physical_value lower w) m) ≡ m.locked
    by true = refl
    by false = after-locked reads writes (touches w) (touches w) (is_ungoverned lower) (physical_value lower w) m

all-met-locked : (o : Option Hardware) (lower ms : List SyncManager) (reads writes : Bool) (w : Window) (n k : ℕ) → (manager_at (physical_managers o lower reads writes w n ms) k).locked ≡ (manager_at ms k).locked
all-met-locked o lower [] reads writes w n k = refl
all-met-locked o lower (m ∷ ms) reads writes w n zero = met-locked o lower reads writes w n m
all-met-locked o lower (m ∷ ms) reads writes w n (suc k) = all-met-locked o (lower ++ m ∷ []) ms reads writes w (n + 1) k

all-exchanged-locked : (lower ms : List SyncManager) (reading writing : Bool) (fs : List FmmuSettings) (p : LogicalSpan) (bytes : List ℕ) (k : ℕ) → (manager_at (logical_managers lower reading writing fs p bytes ms) k).locked ≡ (manager_at ms k).locked
all-exchanged-locked lower [] reading writing fs p bytes k = refl
all-exchanged-locked lower (m ∷ ms) reading writing fs p bytes zero = after-locked reading writing (touched_by_reading fs p) (touched_by_writing fs p) (is_ungoverned lower) (logical_value lower fs p bytes) m
all-exchanged-locked lower (m ∷ ms) reading writing fs p bytes (suc k) = all-exchanged-locked (lower ++ m ∷ []) ms reading writing fs p bytes k

-- ---- what is awaited

abbrev awaited_of : SyncManager → Bool
awaited_of m = m.awaited

after-quiet : (reads writes : Bool) (rt wt own : ℕ → Bool) (v : ℕ → ℕ → List ℕ) (m : SyncManager) → m.awaited ≡ false → (manager_after reads writes rt wt own v m).awaited ≡ false
after-quiet reads writes rt wt own v m e = by (writes && is_written_by wt own m) (reads && is_read_by rt own m) (is_mailbox m.settings)
  where
    by : (b c mailbox : Bool)
        → awaited_of (if b then (if mailbox then record m { mail = Some (v m.settings.start m.settings.length) } else record m { buffer = publishing m.buffer (v m.settings.start m.settings.length); awaited = false })
        else (if c then (if mailbox then record m { mail = None } else m) else m)) ≡ false
    by true c true = e
    by true c false = refl
    by false true true = e
    by false true false = e
    by false false mailbox = e

met-quiet : (o : Option Hardware) (lower : List SyncManager) (reads writes : Bool) (w : Window) (n : ℕ) (m : SyncManager) → m.awaited ≡ false → (physical_manager o lower reads writes w n m).awaited ≡ false
unfolding physical_manager
met-quiet o lower reads writes w n m e = by (writes && is_configured o w n)
  where
    by : (b : Bool) → awaited_of (if b then configured m (settings_written o w n m) else manager_after reads writes (touches w) (touches w) (is_ungoverned lower) (physical_value lower w) m) ≡ false
    by true = e
    by false = after-quiet reads writes (touches w) (touches w) (is_ungoverned lower) (physical_value lower w) m e

all-met-quiet : (o : Option Hardware) (lower ms : List SyncManager) (reads writes : Bool) (w : Window) (n k : ℕ) → (manager_at ms k).awaited ≡ false
    → (manager_at (physical_managers o lower reads writes w n ms) k).awaited ≡ false
all-met-quiet o lower [] reads writes w n k e = e
all-met-quiet o lower (m ∷ ms) reads writes w n zero e = met-quiet o lower reads writes w n m e
all-met-quiet o lower (m ∷ ms) reads writes w n (suc k) e = all-met-quiet o (lower ++ m ∷ []) ms reads writes w (n + 1) k e

all-exchanged-quiet : (lower ms : List SyncManager) (reading writing : Bool) (fs : List FmmuSettings) (p : LogicalSpan) (bytes : List ℕ) (k : ℕ) → (manager_at ms k).awaited ≡ false
    → (manager_at (logical_managers lower reading writing fs p bytes ms) k).awaited ≡ false
all-exchanged-quiet lower [] reading writing fs p bytes k e = e
all-exchanged-quiet lower (m ∷ ms) reading writing fs p bytes zero e = after-quiet reading writing (touched_by_reading fs p) (touched_by_writing fs p) (is_ungoverned lower) (logical_value lower fs p bytes) m e
all-exchanged-quiet lower (m ∷ ms) reading writing fs p bytes (suc k) e = all-exchanged-quiet (lower ++ m ∷ []) ms reading writing fs p bytes k e

-- ---- the registers of missing FMMUs

either-left : (b : Bool) (xs ys : List ℕ) (a : ℕ) → slice_index xs a ≡ slice_index ys a → slice_index (if b then xs else ys) a ≡ slice_index ys a
either-left true xs ys a e = e
either-left false xs ys a e = refl

-- what FMMUs lead to lies in the RAM
mapped-left : (s : SlaveState) (reading writing : Bool) (p : LogicalSpan) (bytes : List ℕ) (a : ℕ) → is_missing s.kind.hardware a ≡ true
    → slice_index (overlay s.memory (λ q. only_if writing (plain_bit s.managers (fmmus s) p bytes q))) a ≡ slice_index s.memory a
mapped-left s reading writing p bytes a h =
    let low : a < 1600 = elim (cases_lt a 1600) [ inl l ↦ l | inr l ↦ absurd (both_ways (is_missing s.kind.hardware a) (not-missing s.kind.hardware a (inr l)) h) ] in
    byte-overlay s.memory (λ q. only_if writing (plain_bit s.managers (fmmus s) p bytes q)) a
    (λ q e. unless writing _ (plain-outside s.managers (fmmus s) p bytes q (omega (arith, e, low))))
  where
    unless : (b : Bool) (o : Option Bool) → o ≡ None → only_if b o ≡ None
    unless true o e = e
    unless false o e = refl

-- ---- the slave

abbrev state_of : Al → State
state_of a = a.state

same-state : (b : Bool) (a : Al) → state_of (if b then requesting a else a) ≡ a.state
same-state true a = refl
same-state false a = refl

same-room : (b : Bool) (xs ys : List ℕ) → length xs ≡ length ys → length (if b then xs else ys) ≡ length ys
same-room true xs ys e = e
same-room false xs ys e = refl

same : (s : SlaveState) → KeepsInside s s
same s = record { kind = refl; identity = refl; room = refl; count = refl; locked = λ n. refl; awaited = λ n e. e; missing = λ a h. refl; state = refl; image = refl; outs = refl; ins = refl; values = refl }

accessed : (s : SlaveState) (reads writes : Bool) (w : Window) → KeepsInside s (physical_after s reads writes w)
unfolding physical_after
accessed s reads writes w = record {
  kind = refl;
  identity = refl;
  room = same-room writes (memory_written s.kind.hardware s.managers w s.memory) s.memory (length-updated 0 s.memory _);
  count = length-physical_managers s.kind.hardware [] reads writes w 0 s.managers;
  locked = all-met-locked s.kind.hardware [] s.managers reads writes w 0;
  awaited = λ k e. all-met-quiet s.kind.hardware [] s.managers reads writes w 0 k e;
  missing = λ a h. either-left writes (memory_written s.kind.hardware s.managers w s.memory) s.memory a (missing-left s.kind.hardware s.managers w s.memory a h);
  state = same-state (writes && touches w 0x0120) s.al;
  image = either-image writes (written s.sii w.from w.bytes) s.sii s.sii.image (written-image s.sii w.from w.bytes) refl;
  outs = refl;
  ins = refl;
  values = refl;
}

physically : (s : SlaveState) (d : Datagram) → KeepsInside s (meets_physically s d).slave
unfolding physical_met
physically s d = accessed s (is_reading (role_of d.command (adp_of d) (station_of s))) (is_writing (role_of d.command (adp_of d) (station_of s))) (window_of d)

logically : (reading writing : Bool) (weight : ℕ) (s : SlaveState) (d : Datagram) → KeepsInside s (meets_logically reading writing weight s d).slave
unfolding meets_logically
logically reading writing weight s d = record {
  kind = refl;
  identity = refl;
  room = length-overlay s.memory _;
  count = length-logical_managers [] reading writing _ _ _ s.managers;
  locked = all-exchanged-locked [] s.managers reading writing _ _ _;
  awaited = λ k e. all-exchanged-quiet [] s.managers reading writing _ _ _ k e;
  missing = λ a h. mapped-left s reading writing (span_of d) d.data_bytes a h;
  state = refl;
  image = refl;
  outs = refl;
  ins = refl;
  values = refl;
}

exchanging : (b : Bool) (s : SlaveState) (d : Datagram) → (let m : Met = if b then meets_logically true true 2 s d else record { slave = s; datagram = d } in KeepsInside s m.slave)
exchanging true s d = logically true true 2 s d
exchanging false s d = same s

by-command : (c : Command) (s : SlaveState) (d : Datagram) → KeepsInside s (meets_by c s d).slave
by-command Nop s d = same s
by-command Aprd s d = physically s d
by-command Apwr s d = physically s d
by-command Aprw s d = physically s d
by-command Fprd s d = physically s d
by-command Fpwr s d = physically s d
by-command Fprw s d = physically s d
by-command Brd s d = physically s d
by-command Bwr s d = physically s d
by-command Brw s d = physically s d
by-command Lrd s d = logically true false 1 s d
by-command Lwr s d = logically false true 1 s d
by-command Lrw s d = exchanging s.kind.lrw s d
by-command Armw s d = physically s d
by-command Frmw s d = physically s d

pub inside_kept : DatagramsKeepTheInside
unfolding meets
inside_kept s d = by-command d.command s d
