-- What holds of every slave stays, whatever datagrams do.
use Rattle.std.proofs.Common.{ℕ, zero, suc, ◌+◌, ◌-◌, ◌<◌, ◌≤◌, ◌≡◌, ◌^◌, ◌&&◌, ◌==◌, ◌%◌, Bool, true, false, Option, Some, None, refl, sym, ◌∙◌, ap, subst, inl, inr, arith, if◌then◌else◌, List, [], ◌∷◌, ◌++◌, length, get_or, slice_index, map, unwrap_or}
use Rattle.std.specs.Int.{from_le_bytes, to_le_bytes, w32}
use Rattle.std.proofs.lemmas.Bool.{cases_Bool, and_parts}
use Rattle.std.proofs.lemmas.List.{length-replicate, length-map}
use Rattle.ec_bits.specs.Bits.{within, zeros}
use Rattle.ec_bits.proofs.BitLaws.{length-overlay}
use Rattle.ec_bits.proofs.AnyLaws.{if_true, if_false}
use Rattle.ec_device.specs.declared.hardware.Hardware.{Hardware}
use Rattle.ec_regs.specs.declared.fmmu.FmmuSettings.{FmmuSettings}
use Rattle.ec_regs.specs.declared.manager.SyncManagerSettings.{SyncManagerSettings}
use Rattle.ec_device.specs.declared.slave_type.Pdo.{Pdo}
use Rattle.ec_regs.specs.Managers.{is_set, is_mailbox}
use Rattle.ec_regs.specs.Memory.{sii_address}
use Rattle.ec_frame.specs.declared.command.Command.{Command}
use Rattle.ec_frame.specs.declared.command.Command.TheVariants.{Nop, Aprd, Apwr, Aprw, Fprd, Fpwr, Fprw, Brd, Bwr, Brw, Lrd, Lwr, Lrw, Armw, Frmw}
use Rattle.ec_frame.specs.Datagram.{Datagram, adp_of}
use Rattle.ec_sync.specs.Buffer.{publishing}
use Rattle.ec_sync.specs.SyncManager.{SyncManager, no_manager, awaiting, configured, empty_manager, buffer_length, may_write, ring_written, ring_read}
use Rattle.ec_sync.specs.Sound.{IsManager}
use Rattle.ec_sync.proofs.Lengths.{buffer_length_set}
use Rattle.ec_sii.specs.Port.{Sii, address_byte, address_written, addressed, byte_for, command_address, commanded, written}
use Rattle.ec_fmmu.specs.Applied.{LogicalSpan, touched_by_reading, touched_by_writing}
use Rattle.ec_coe.specs.SwitchedOn.{bare_dictionary, first_value}
use Rattle.ec_slave.specs.State.{SlaveState, Met, manager_at, power_on, memory_length, station_of}
use Rattle.ec_slave.specs.Sound.{IsSlave, AreBytes, PowerOnIsSlave, MetIsSlave}
use Rattle.ec_slave.specs.Roles.{role_of, is_reading, is_writing}
use Rattle.ec_slave.specs.Managers.{is_read_by, is_ungoverned, is_written_by, manager_after}
use Rattle.ec_slave.specs.Physical.{Window, touches, is_configured, settings_written, physical_value, physical_manager, physical_managers, memory_written, physical_after, physical_met}
use Rattle.ec_slave.specs.Logical.{logical_value, logical_managers, meets_logically}
use Rattle.ec_slave.specs.Keeping.{length-updated}
use Rattle.ec_slave.specs.Meeting.{window_of, meets, meets_by, meets_physically}
use Rattle.ec_slave.proofs.Memory.AgainstAll.{writable-set}
use Rattle.ec_slave.proofs.Memory.Governor.{length-logical_managers}

none_some : {X : Type 0} (x : X) → None ≡ Some x → ⊥
none_some x e = cc

-- ---- one manager

pub empty-sound : (m : SyncManagerSettings) (b : Bool) → IsManager (empty_manager m b)
empty-sound m b = record { published = length-replicate {A = ℕ} (buffer_length m) 0; draft = λ d e. absurd (none_some d e); view = λ v e. absurd (none_some v e) }

-- whatever is awaited
pub awaiting-sound : (m : SyncManager) (b : Bool) → IsManager m → IsManager (awaiting m b)
awaiting-sound m b h = record { published = h.published; draft = h.draft; view = h.view }

pub no-manager-sound : IsManager no_manager
no-manager-sound = empty-sound no_manager.settings false

written-sound : (m : SyncManager) (v : List ℕ) → IsManager m → is_set m.settings ≡ true → length v ≡ m.settings.length → IsManager (ring_written m v)
written-sound m v h set e = elim (cases_Bool (is_mailbox m.settings)) [
  | inl on ↦ subst IsManager (sym (if_true (is_mailbox m.settings) (record m { mail = Some v }) (record m { buffer = publishing m.buffer v; awaited = false }) on)) (record { published = h.published; draft = h.draft; view = h.view })
  | inr off ↦ subst IsManager (sym (if_false (is_mailbox m.settings) (record m { mail = Some v }) (record m { buffer = publishing m.buffer v; awaited = false }) off))
      (record { published = e ∙ sym (buffer_length_set m.settings set off); draft = h.draft; view = h.view })
]

read-sound : (m : SyncManager) → IsManager m → IsManager (ring_read m)
read-sound m h = by (is_mailbox m.settings)
  where
    by : (b : Bool) → (let x : SyncManager = if b then record m { mail = None } else m in IsManager x)
    by true = record { published = h.published; draft = h.draft; view = h.view }
    by false = h

after-sound : (reads writes : Bool) (rt wt own : ℕ → Bool) (v : ℕ → ℕ → List ℕ) (m : SyncManager) → ((a n : ℕ) → length (v a n) ≡ n) → IsManager m
    → IsManager (manager_after reads writes rt wt own v m)
after-sound reads writes rt wt own v m len h = elim (cases_Bool (writes && is_written_by wt own m)) [
  | inl on ↦ subst IsManager (sym (if_true (writes && is_written_by wt own m) (ring_written m (v m.settings.start m.settings.length)) (if reads && is_read_by rt own m then ring_read m else m) on))
      (written-sound m (v m.settings.start m.settings.length) h (writable-set m (and_parts (may_write m) _ (and_parts writes _ on).1).0) (len m.settings.start m.settings.length))
  | inr off ↦ subst IsManager (sym (if_false (writes && is_written_by wt own m) (ring_written m (v m.settings.start m.settings.length)) (if reads && is_read_by rt own m then ring_read m else m) off))
      (by (reads && is_read_by rt own m))
]
  where
    by : (b : Bool) → (let x : SyncManager = if b then ring_read m else m in IsManager x)
    by true = read-sound m h
    by false = h

met-sound : (o : Option Hardware) (lower : List SyncManager) (reads writes : Bool) (w : Window) (n : ℕ) (m : SyncManager) → IsManager m → IsManager (physical_manager o lower reads writes w n m)
unfolding physical_manager
met-sound o lower reads writes w n m h = by (writes && is_configured o w n)
  where
    by : (b : Bool) → (let x : SyncManager = if b then configured m (settings_written o w n m) else manager_after reads writes (touches w) (touches w) (is_ungoverned lower) (physical_value lower w) m in IsManager x)
    by true = awaiting-sound (empty_manager (settings_written o w n m) m.locked) m.awaited (empty-sound (settings_written o w n m) m.locked)
    by false = after-sound reads writes (touches w) (touches w) (is_ungoverned lower) (physical_value lower w) m (λ a k. length-updated 0 (zeros k) _ ∙ length-replicate {A = ℕ} k 0) h

-- ---- all of a slave

abbrev pub AreSound : List SyncManager → Type 0
AreSound ms = (n : ℕ) → IsManager (manager_at ms n)

rest-sound : (m : SyncManager) (ms : List SyncManager) → AreSound (m ∷ ms) → AreSound ms
rest-sound m ms h n = h (suc n)

pub all-met-sound : (o : Option Hardware) (lower ms : List SyncManager) (reads writes : Bool) (w : Window) (n : ℕ) → AreSound ms → AreSound (physical_managers o lower reads writes w n ms)
all-met-sound o lower [] reads writes w n h k = h k
all-met-sound o lower (m ∷ ms) reads writes w n h zero = met-sound o lower reads writes w n m (h zero)
all-met-sound o lower (m ∷ ms) reads writes w n h (suc k) = all-met-sound o (lower ++ m ∷ []) ms reads writes w (n + 1) (rest-sound m ms h) k

pub all-exchanged-sound : (lower ms : List SyncManager) (reading writing : Bool) (fs : List FmmuSettings) (p : LogicalSpan) (bytes : List ℕ) → AreSound ms → AreSound (logical_managers lower reading writing fs p bytes ms)
all-exchanged-sound lower [] reading writing fs p bytes h k = h k
all-exchanged-sound lower (m ∷ ms) reading writing fs p bytes h zero =
    after-sound reading writing (touched_by_reading fs p) (touched_by_writing fs p) (is_ungoverned lower) (logical_value lower fs p bytes) m (λ a k. length-overlay (zeros k) _ ∙ length-replicate {A = ℕ} k 0) (h zero)
all-exchanged-sound lower (m ∷ ms) reading writing fs p bytes h (suc k) = all-exchanged-sound (lower ++ m ∷ []) ms reading writing fs p bytes (rest-sound m ms h) k

pub length-physical_managers : (o : Option Hardware) (lower : List SyncManager) (reads writes : Bool) (w : Window) (n : ℕ) (ms : List SyncManager) → length (physical_managers o lower reads writes w n ms) ≡ length ms
length-physical_managers o lower reads writes w n [] = refl
length-physical_managers o lower reads writes w n (m ∷ ms) = ap suc (length-physical_managers o (lower ++ m ∷ []) reads writes w (n + 1) ms)

-- the managers of four, one by one
pub four-sound : (ms : List SyncManager) → length ms ≡ 4 → (a b c d : SyncManager)
    → a ≡ get_or ms 0 a → b ≡ get_or ms 1 b → c ≡ get_or ms 2 c → d ≡ get_or ms 3 d
    → IsManager a → IsManager b → IsManager c → IsManager d → AreSound ms
four-sound [] l a b c d ea eb ec ed ha hb hc hd = absurd (omega arith)
four-sound (x ∷ []) l a b c d ea eb ec ed ha hb hc hd = absurd (omega arith)
four-sound (x ∷ y ∷ []) l a b c d ea eb ec ed ha hb hc hd = absurd (omega arith)
four-sound (x ∷ y ∷ z ∷ []) l a b c d ea eb ec ed ha hb hc hd = absurd (omega arith)
four-sound (x ∷ y ∷ z ∷ u ∷ []) l a b c d ea eb ec ed ha hb hc hd = each
  where
    each : (n : ℕ) → IsManager (manager_at (x ∷ y ∷ z ∷ u ∷ []) n)
    each zero = subst IsManager ea ha
    each (suc zero) = subst IsManager eb hb
    each (suc (suc zero)) = subst IsManager ec hc
    each (suc (suc (suc zero))) = subst IsManager ed hd
    each (suc (suc (suc (suc n)))) = no-manager-sound
four-sound (x ∷ y ∷ z ∷ u ∷ v ∷ vs) l a b c d ea eb ec ed ha hb hc hd = absurd (omega arith)

-- ---- the SII port

abbrev after_command : Sii → Bool → Bool → Sii
after_command p a b =
    if a then record { image = p.image; address = p.address; busy = p.busy; error = false; found = p.found }
    else (if b then record { image = p.image; address = p.address; busy = true; error = false; found = p.found }
    else record { image = p.image; address = p.address; busy = p.busy; error = true; found = p.found })

after_command-keeps : (p : Sii) (a b : Bool) → ((after_command p a b).image ≡ p.image) × ((after_command p a b).address ≡ p.address)
after_command-keeps p true b = (refl, refl)
after_command-keeps p false true = (refl, refl)
after_command-keeps p false false = (refl, refl)

commanded-keeps : (p : Sii) (o : Option ℕ) → ((commanded p o).image ≡ p.image) × ((commanded p o).address ≡ p.address)
commanded-keeps p None = (refl, refl)
commanded-keeps p (Some control) = after_command-keeps p (control % 8 == 0) (control % 8 == 1)

word-fits : (a b c d : ℕ) → a < 256 → b < 256 → c < 256 → d < 256 → from_le_bytes w32 (a ∷ b ∷ c ∷ d ∷ []) < 2 ^ 32
word-fits a b c d ha hb hc hd = omega (arith, ha, hb, hc, hd)

old-byte : (old k : ℕ) → slice_index (to_le_bytes w32 old) k < 256
old-byte old zero = omega arith
old-byte old (suc zero) = omega arith
old-byte old (suc (suc zero)) = omega arith
old-byte old (suc (suc (suc zero))) = omega arith
old-byte old (suc (suc (suc (suc k)))) = omega arith

address_byte-fits : (old from : ℕ) (bytes : List ℕ) (k : ℕ) → AreBytes bytes → address_byte old from bytes k < 256
address_byte-fits old from bytes k h = by (within from (length bytes) (sii_address + k))
  where
    by : (b : Bool) → unwrap_or (if b then Some (slice_index bytes (sii_address + k - from)) else None) (slice_index (to_le_bytes w32 old) k) < 256
    by true = h (sii_address + k - from)
    by false = old-byte old k

address_written-fits : (old from : ℕ) (bytes : List ℕ) → AreBytes bytes → address_written old from bytes < 2 ^ 32
address_written-fits old from bytes h = word-fits _ _ _ _
    (address_byte-fits old from bytes 0 h) (address_byte-fits old from bytes 1 h) (address_byte-fits old from bytes 2 h) (address_byte-fits old from bytes 3 h)

written-keeps : (p : Sii) (from : ℕ) (bytes : List ℕ) → AreBytes bytes → p.address < 2 ^ 32
    → ((written p from bytes).image ≡ p.image) × ((written p from bytes).address < 2 ^ 32)
unfolding written
written-keeps p from bytes h l = by p.busy
  where
    by : (b : Bool) → (let x : Sii = if b then p else commanded (addressed p (address_written p.address from bytes)) (byte_for from bytes command_address) in (x.image ≡ p.image) × (x.address < 2 ^ 32))
    by true = (refl, l)
    by false =
        let k = commanded-keeps (addressed p (address_written p.address from bytes)) (byte_for from bytes command_address) in
        (k.0, subst (λ (n : ℕ). n < 2 ^ 32) (sym k.1) (address_written-fits p.address from bytes h))

-- ---- a datagram

memory-long : (b : Bool) (o : Option Hardware) (ms : List SyncManager) (w : Window) (memory : List ℕ) → length (if b then memory_written o ms w memory else memory) ≡ length memory
memory-long true o ms w memory = length-updated 0 memory _
memory-long false o ms w memory = refl

sii-keeps : (b : Bool) (p : Sii) (w : Window) → AreBytes w.bytes → p.address < 2 ^ 32
    → (let x : Sii = if b then written p w.from w.bytes else p in (x.image ≡ p.image) × (x.address < 2 ^ 32))
sii-keeps true p w h l = written-keeps p w.from w.bytes h l
sii-keeps false p w h l = (refl, l)

after-is : (s : SlaveState) (reads writes : Bool) (w : Window) → AreBytes w.bytes → IsSlave s → IsSlave (physical_after s reads writes w)
unfolding physical_after
after-is s reads writes w b h =
    let k = sii-keeps writes s.sii w b h.word_address in
    record {
      memory = memory-long writes s.kind.hardware s.managers w s.memory ∙ h.memory;
      managers = length-physical_managers s.kind.hardware [] reads writes w 0 s.managers ∙ h.managers;
      each_manager = all-met-sound s.kind.hardware [] s.managers reads writes w 0 h.each_manager;
      image = k.0 ∙ h.image;
      word_address = k.1;
      out_slots = h.out_slots;
      in_slots = h.in_slots;
      out_count = h.out_count;
      in_count = h.in_count;
      parameters = h.parameters;
    }

physically-is : (s : SlaveState) (d : Datagram) → AreBytes d.data_bytes → IsSlave s → IsSlave (meets_physically s d).slave
unfolding physical_met
physically-is s d b h = after-is s (is_reading (role_of d.command (adp_of d) (station_of s))) (is_writing (role_of d.command (adp_of d) (station_of s))) (window_of d) b h

logically-is : (reading writing : Bool) (weight : ℕ) (s : SlaveState) (d : Datagram) → IsSlave s → IsSlave (meets_logically reading writing weight s d).slave
unfolding meets_logically
logically-is reading writing weight s d h =
    record {
      memory = length-overlay s.memory _ ∙ h.memory;
      managers = length-logical_managers [] reading writing _ _ _ s.managers ∙ h.managers;
      each_manager = all-exchanged-sound [] s.managers reading writing _ _ _ h.each_manager;
      image = h.image;
      word_address = h.word_address;
      out_slots = h.out_slots;
      in_slots = h.in_slots;
      out_count = h.out_count;
      in_count = h.in_count;
      parameters = h.parameters;
    }

exchanging-is : (b : Bool) (s : SlaveState) (d : Datagram) → IsSlave s
    → (let m : Met = if b then meets_logically true true 2 s d else record { slave = s; datagram = d } in IsSlave m.slave)
exchanging-is true s d h = logically-is true true 2 s d h
exchanging-is false s d h = h

by-command : (c : Command) (s : SlaveState) (d : Datagram) → AreBytes d.data_bytes → IsSlave s → IsSlave (meets_by c s d).slave
by-command Nop s d b h = h
by-command Aprd s d b h = physically-is s d b h
by-command Apwr s d b h = physically-is s d b h
by-command Aprw s d b h = physically-is s d b h
by-command Fprd s d b h = physically-is s d b h
by-command Fpwr s d b h = physically-is s d b h
by-command Fprw s d b h = physically-is s d b h
by-command Brd s d b h = physically-is s d b h
by-command Bwr s d b h = physically-is s d b h
by-command Brw s d b h = physically-is s d b h
by-command Lrd s d b h = logically-is true false 1 s d h
by-command Lwr s d b h = logically-is false true 1 s d h
by-command Lrw s d b h = exchanging-is s.kind.lrw s d h
by-command Armw s d b h = physically-is s d b h
by-command Frmw s d b h = physically-is s d b h

pub met_is_slave : MetIsSlave
unfolding meets
met_is_slave s d b h = by-command d.command s d b h

-- ---- switched on

indices-long : (ps : List Pdo) → length ps ≤ length (map (λ p. p.index) ps)
indices-long ps = omega (arith, length-map ps (λ (p : Pdo). p.index))

pub power_on_is_slave : PowerOnIsSlave
unfolding power_on memory_length
power_on_is_slave kind identity = record {
  memory = length-replicate {A = ℕ} 0x3000 0;
  managers = refl;
  each_manager = each;
  image = refl;
  word_address = omega arith;
  out_slots = length-map kind.outputs (λ (p : Pdo). p.index);
  in_slots = length-map kind.inputs (λ (p : Pdo). p.index);
  out_count = indices-long kind.outputs;
  in_count = indices-long kind.inputs;
  parameters = length-map kind.init (first_value (bare_dictionary kind identity));
}
  where
    each : (n : ℕ) → IsManager (manager_at (no_manager ∷ no_manager ∷ no_manager ∷ no_manager ∷ []) n)
    each zero = no-manager-sound
    each (suc zero) = no-manager-sound
    each (suc (suc zero)) = no-manager-sound
    each (suc (suc (suc zero))) = no-manager-sound
    each (suc (suc (suc (suc n)))) = no-manager-sound
