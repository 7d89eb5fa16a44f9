-- What a slave's registers, managers and bits are after a datagram.
use Rattle.std.proofs.Common.{ℕ, zero, suc, ◌+◌, ◌-◌, ◌*◌, ◌/◌, ◌%◌, ◌<◌, ◌≤◌, ◌≡◌, ◌==◌, ◌&&◌, ◌||◌, not, Bool, true, false, Option, Some, None, is_some, refl, sym, ◌∙◌, ap, subst, inl, inr, arith, if◌then◌else◌, List, [], ◌∷◌, length, slice_index, unwrap_or, nat_lt}
use Rattle.std.proofs.lemmas.Bool.{or_left, or_right, and_left, and_right, and_from, and_parts, cases_Bool, both_ways, false_from_ne_true, false≢true, eqb-true, lt-leb, lt-ltb}
use Rattle.std.proofs.lemmas.List.{length-replicate}
use Rattle.ec_bits.specs.Bits.{bit, within, zeros}
use Rattle.ec_bits.proofs.AnyLaws.{if_true, if_false, within_above, within_below, within_parts, within_true}
use Rattle.ec_bits.proofs.BitLaws.{bit-overlay, bit-zeros}
use Rattle.ec_device.specs.declared.hardware.Hardware.{Hardware}
use Rattle.ec_regs.specs.Memory.{ram_start, is_stored}
use Rattle.ec_regs.specs.Managers.{is_mailbox, is_set}
use Rattle.ec_frame.specs.declared.command.Command.{Command}
use Rattle.ec_frame.specs.declared.command.Command.TheVariants.{Nop, Aprd, Apwr, Aprw, Fprd, Fpwr, Fprw, Brd, Bwr, Brw, Lrd, Lwr, Lrw, Armw, Frmw}
use Rattle.ec_frame.specs.Datagram.{Datagram, adp_of}
use Rattle.ec_al.specs.Al.{Al, requesting, status_word}
use Rattle.ec_sii.specs.Port.{Sii, address_written, addressed, byte_for, command_address, commanded, sii_byte, written}
use Rattle.ec_sync.specs.SyncManager.{SyncManager, configured, may_read, may_write, ring_written, visible}
use Rattle.ec_slave.specs.Roles.{role_of, is_reading, is_writing}
use Rattle.ec_slave.specs.State.{SlaveState, Met, fmmus, manager_at, station_of}
use Rattle.ec_slave.specs.Sound.{IsSlave}
use Rattle.ec_slave.specs.Managers.{manager_after}
use Rattle.ec_slave.specs.AgainstAll.{bits_among, each_from, governs_among, value_among}
use Rattle.ec_dl.specs.DataLink.{DataLink, dl_byte, dl_stores, dl_written, stored_index}
use Rattle.ec_dl.proofs.StoredRegisters.{read_back, stored_are_six}
use Rattle.ec_slave.specs.Physical.{Window, byte_at, is_configured, is_missing, is_stored_at, keeps, physical_managers, physical_met, memory_written, register_byte, settings_written, physical_after, touches}
use Rattle.ec_slave.specs.Logical.{brought, meets_logically, only_if, span_of}
use Rattle.ec_slave.specs.Meeting.{window_of, meets, meets_by, meets_physically, slave_met}
use Rattle.ec_slave.specs.MeetingLaws.{writes_at, RegistersAfterWrite, ManagersAfterWrite, MovesBits, LogicalBitByBit, IsValueWritten, ValueBitByBit}
use Rattle.ec_slave.proofs.Memory.AgainstAll.{logical_against_all, physical_against_all}
use Rattle.ec_slave.proofs.Memory.BroadcastLaw.{set-start}
use Rattle.ec_slave.proofs.Memory.WritesByByte.{written_at}

-- a command by which a slave can write is physical
writing-physical : (c : Command) (s : SlaveState) (d : Datagram) → is_writing (role_of c (adp_of d) (station_of s)) ≡ true → meets_by c s d ≡ meets_physically s d
writing-physical Nop s d e = absurd (false≢true e)
writing-physical Aprd s d e = refl
writing-physical Apwr s d e = refl
writing-physical Aprw s d e = refl
writing-physical Fprd s d e = refl
writing-physical Fpwr s d e = refl
writing-physical Fprw s d e = refl
writing-physical Brd s d e = refl
writing-physical Bwr s d e = refl
writing-physical Brw s d e = refl
writing-physical Lrd s d e = absurd (false≢true e)
writing-physical Lwr s d e = absurd (false≢true e)
writing-physical Lrw s d e = absurd (false≢true e)
writing-physical Armw s d e = refl
writing-physical Frmw s d e = refl

-- the slave after a writing datagram, which may read as well
written-slave : (s : SlaveState) (d : Datagram) → writes_at s d ≡ true
    → slave_met s d ≡ physical_after s (is_reading (role_of d.command (adp_of d) (station_of s))) true (window_of d)
unfolding meets physical_met
written-slave s d e =
    ap (λ (m : Met). m.slave) (writing-physical d.command s d e)
    ∙ ap (λ (b : Bool). physical_after s (is_reading (role_of d.command (adp_of d) (station_of s))) b (window_of d)) e

-- ---- registers

-- those that the memory itself keeps
abbrev in_memory : ℕ → Bool
in_memory a = within 0x0010 2 a || (within 0x0120 2 a || within 0x0600 64 a)

stored-in-memory : (a : ℕ) → a < 0x0800 → is_stored a ≡ in_memory a
stored-in-memory a l =
    let out : within 0x0800 32 a ≡ false = and_left _ _ (lt-leb 0x0800 a l) in
    by (within 0x0010 2 a) (within 0x0120 2 a) (within 0x0600 64 a) (within 0x0800 32 a) (nat_lt (a % 8) 5 || (a % 8 == 6)) out
  where
    by : (x y z m k : Bool) → m ≡ false → (x || (y || (z || (m && k)))) ≡ (x || (y || z))
    by true y z m k e = refl
    by false true z m k e = refl
    by false false true m k e = refl
    by false false false true k e = absurd (false≢true (sym e))
    by false false false false k e = refl

kept-stored : (ms : List SyncManager) (a : ℕ) → a < 0x0800 → is_stored_at ms a ≡ is_stored a
unfolding is_stored_at
kept-stored ms a l =
    let out : within 0x0800 32 a ≡ false = and_left _ _ (lt-leb 0x0800 a l) in
    if_true _ _ _ (lt-ltb a ram_start (omega arith)) ∙ with_not (is_stored a) (within 0x0800 32 a) out
  where
    with_not : (x y : Bool) → y ≡ false → (x && not y) ≡ x
    with_not true true e = absurd (false≢true (sym e))
    with_not true false e = refl
    with_not false y e = refl

-- the FMMUs' registers are stored, and kept in the memory itself
pub fmmu-stored : (a : ℕ) → 0x0600 ≤ a → a < 0x0640 → is_stored a ≡ true
fmmu-stored a l h = or_right (within 0x0010 2 a) _ (or_right (within 0x0120 2 a) _ (or_left (within 0x0600 64 a) _ (within_true 0x0600 64 a l (omega arith))))

pub fmmu-kept : (ms : List SyncManager) (a : ℕ) → 0x0600 ≤ a → a < 0x0640 → is_stored_at ms a ≡ true
fmmu-kept ms a l h = kept-stored ms a (omega arith) ∙ fmmu-stored a l h

below-memory : (a : ℕ) → a < 0x0010 → in_memory a ≡ false
below-memory a l =
    ap (λ (b : Bool). b || (within 0x0120 2 a || within 0x0600 64 a)) (within_below 0x0010 2 a l)
    ∙ (ap (λ (b : Bool). b || within 0x0600 64 a) (within_below 0x0120 2 a (omega arith)) ∙ within_below 0x0600 64 a (omega arith))

memory-high : (a n : ℕ) → n < 0x0010 → in_memory a ≡ true → (a == n) ≡ false
memory-high a n l m = false_from_ne_true (a == n) (λ t.
    let few : a < 0x0010 = let e = eqb-true a n t in omega (arith, e, l) in
    both_ways (in_memory a) (below-memory a few) m)

-- a register that is stored reads what the memory has, where it is no manager's
stored-reads : (s : SlaveState) (a : ℕ) → a < 0x0800 → in_memory a ≡ true → byte_at s a ≡ slice_index s.memory a
unfolding byte_at register_byte
stored-reads s a l m =
    if_true _ _ _ (lt-ltb a ram_start (omega arith))
    ∙ (if_false _ _ _ (memory-high a 0x0004 (omega arith) m) ∙ (if_false _ _ _ (memory-high a 0x0005 (omega arith) m) ∙ (if_false _ _ _ (memory-high a 0x0006 (omega arith) m) ∙ if_true _ _ _ m)))

-- any other reads by what it reads apart from the memory
other-reads : (s t : SlaveState) (a : ℕ) → t.kind ≡ s.kind → a < 0x0800 → in_memory a ≡ false → status_word t.al ≡ status_word s.al → t.al.code ≡ s.al.code
    → sii_byte t.sii a ≡ sii_byte s.sii a → dl_byte t.link a ≡ dl_byte s.link a → byte_at t a ≡ byte_at s a
unfolding byte_at register_byte
other-reads s t a same l m w c p k =
    let out : within 0x0800 32 a ≡ false = and_left _ _ (lt-leb 0x0800 a l) in
    let ram : nat_lt a ram_start ≡ true = lt-ltb a ram_start (omega arith) in
    rw (ram, m, out, same, w, c, p, k) refl

-- a data link register that keeps writes reads what it keeps
link-reads : (s : SlaveState) (a : ℕ) → is_some (stored_index a) ≡ true → byte_at s a ≡ dl_byte s.link a
unfolding byte_at register_byte
link-reads s a h =
    let P : ℕ → Type 0 = λ x. byte_at s x ≡ dl_byte s.link x in
    elim (stored_are_six a h) [
      | inl e ↦ subst P (sym e) refl
      | inr (inl e) ↦ subst P (sym e) refl
      | inr (inr (inl e)) ↦ subst P (sym e) refl
      | inr (inr (inr (inl e))) ↦ subst P (sym e) refl
      | inr (inr (inr (inr (inl e)))) ↦ subst P (sym e) refl
      | inr (inr (inr (inr (inr e)))) ↦ subst P (sym e) refl
    ]

-- the port's other bytes
commanded-found : (p : Sii) (o : Option ℕ) → (commanded p o).found ≡ p.found
commanded-found p None = refl
commanded-found p (Some control) = by (control % 8 == 0) (control % 8 == 1)
  where
    by : (a b : Bool) → (let x : Sii = if a then record { image = p.image; address = p.address; busy = p.busy; error = false; found = p.found }
        else (if b then record { image = p.image; address = p.address; busy = true; error = false; found = p.found }
        else record { image = p.image; address = p.address; busy = p.busy; error = true; found = p.found }) in x.found ≡ p.found)
    by true b = refl
    by false true = refl
    by false false = refl

written-found : (p : Sii) (from : ℕ) (bytes : List ℕ) → (written p from bytes).found ≡ p.found
unfolding written
written-found p from bytes = by p.busy
  where
    by : (b : Bool) → (let x : Sii = if b then p else commanded (addressed p (address_written p.address from bytes)) (byte_for from bytes command_address) in x.found ≡ p.found)
    by true = refl
    by false = commanded-found (addressed p (address_written p.address from bytes)) (byte_for from bytes command_address)

port-others : (p q : Sii) (a : ℕ) → within 0x0502 6 a ≡ false → q.found ≡ p.found → sii_byte q a ≡ sii_byte p a
unfolding sii_byte
port-others p q a out f =
    let command : (a == 0x0503) ≡ false = false_from_ne_true _ (λ t. both_ways _ out (let e = eqb-true a 0x0503 t in within_true 0x0502 6 a (omega arith) (omega arith))) in
    let address : within 0x0504 4 a ≡ false = false_from_ne_true _ (λ t. let w = within_parts 0x0504 4 a t in both_ways _ out (within_true 0x0502 6 a (let x = w.0 in omega arith) (let x = w.1 in omega arith))) in
    rw (command, address, f) refl

requested-same : (b : Bool) (al : Al) → (let x : Al = if b then requesting al else al in (status_word x ≡ status_word al) × (x.code ≡ al.code))
requested-same true al = (refl, refl)
requested-same false al = (refl, refl)

unkept-by : (b x : Bool) → x ≡ false → (if b then false else x) ≡ false
unkept-by true x e = refl
unkept-by false x e = e

-- no register that datagrams store in the memory itself is a data link register
unlinked : (link : DataLink) (a : ℕ) → in_memory a ≡ true → dl_stores link a ≡ false
unlinked link a m = false_from_ne_true (dl_stores link a) (λ k. elim (stored_are_six a (and_parts link.visible _ k).1) [
  | inl e ↦ both_ways (in_memory a) (ap in_memory e) m
  | inr (inl e) ↦ both_ways (in_memory a) (ap in_memory e) m
  | inr (inr (inl e)) ↦ both_ways (in_memory a) (ap in_memory e) m
  | inr (inr (inr (inl e))) ↦ both_ways (in_memory a) (ap in_memory e) m
  | inr (inr (inr (inr (inl e)))) ↦ both_ways (in_memory a) (ap in_memory e) m
  | inr (inr (inr (inr (inr e)))) ↦ both_ways (in_memory a) (ap in_memory e) m
])

registers-written : (s : SlaveState) (reads : Bool) (w : Window) (a : ℕ) → IsSlave s → a < 0x0800 → within 0x0502 6 a ≡ false
    → byte_at (physical_after s reads true w) a ≡ (if touches w a && (keeps s.kind.hardware a || dl_stores s.link a) then slice_index w.bytes (a - w.from) else byte_at s a)
unfolding physical_after
registers-written s reads w a h l out =
    let inside : a < length s.memory = omega (arith, h.memory) in
    let o : Option Hardware = s.kind.hardware in
    let at = written_at o s.managers w s.memory a inside in
    let after : SlaveState = record s {
      memory = memory_written o s.managers w s.memory;
      managers = physical_managers o [] reads true w 0 s.managers;
      al = if touches w 0x0120 then requesting s.al else s.al;
      sii = written s.sii w.from w.bytes;
      link = dl_written s.link w.from w.bytes;
    } in
    let back = read_back s.link w.from w.bytes a in
    elim (cases_Bool (in_memory a)) as (λ _. byte_at after a ≡ (if touches w a && (keeps o a || dl_stores s.link a) then slice_index w.bytes (a - w.from) else byte_at s a)) [
      | inl m ↦
          let stored : is_stored a ≡ true = stored-in-memory a l ∙ m in
          stored-reads after a l m ∙ elim (cases_Bool (touches w a)) as (λ _. slice_index (memory_written o s.managers w s.memory) a ≡ (if touches w a && (keeps o a || dl_stores s.link a) then slice_index w.bytes (a - w.from) else byte_at s a)) [
            | inl t ↦ elim (cases_Bool (is_missing o a)) as (λ _. slice_index (memory_written o s.managers w s.memory) a ≡ (if touches w a && (keeps o a || dl_stores s.link a) then slice_index w.bytes (a - w.from) else byte_at s a)) [
              | inl gone ↦
                  let unkept : keeps o a ≡ false = if_true _ _ _ gone in
                  let unstored : dl_stores s.link a ≡ false = unlinked s.link a m in
                  at.missing gone ∙ (sym (stored-reads s a l m) ∙ sym (if_false _ _ _ (and_right (touches w a) _ (ap (λ (b : Bool). b || dl_stores s.link a) unkept ∙ unstored))))
              | inr there ↦
                  let kept : keeps o a ≡ true = if_false _ _ _ there ∙ stored in
                  at.taken t there (kept-stored s.managers a l ∙ stored) ∙ sym (if_true _ _ _ (and_from _ _ t (or_left (keeps o a) _ kept)))
            ]
            | inr t ↦ at.untouched t ∙ (sym (stored-reads s a l m) ∙ sym (if_false _ _ _ (and_left _ _ t)))
          ]
      | inr m ↦
          let r = requested-same (touches w 0x0120) s.al in
          let plain : (keeps o a || dl_stores s.link a) ≡ dl_stores s.link a = ap (λ (b : Bool). b || dl_stores s.link a) (unkept-by (is_missing o a) (is_stored a) (stored-in-memory a l ∙ m)) in
          elim (cases_Bool (touches w a && dl_stores s.link a)) as (λ _. byte_at after a ≡ (if touches w a && (keeps o a || dl_stores s.link a) then slice_index w.bytes (a - w.from) else byte_at s a)) [
            | inl k ↦
                let kept : dl_stores s.link a ≡ true = (and_parts (touches w a) _ k).1 in
                link-reads after a (and_parts s.link.visible _ kept).1 ∙ (back ∙ (if_true _ _ _ k
                ∙ sym (if_true _ _ _ (ap (λ (b : Bool). touches w a && b) plain ∙ k))))
            | inr k ↦
                other-reads s after a refl l m r.0 r.1 (port-others s.sii (written s.sii w.from w.bytes) a out (written-found s.sii w.from w.bytes)) (back ∙ if_false _ _ _ k)
                ∙ sym (if_false _ _ _ (ap (λ (b : Bool). touches w a && b) plain ∙ k))
          ]
    ]

pub registers_after_write : RegistersAfterWrite
registers_after_write s d a h e l out =
    ap (λ (t : SlaveState). byte_at t a) (written-slave s d e)
    ∙ registers-written s (is_reading (role_of d.command (adp_of d) (station_of s))) (window_of d) a h l out

-- ---- managers

each-at : (n : ℕ) (f : ℕ → SyncManager → SyncManager) (ms : List SyncManager) (k : ℕ) → k < length ms → manager_at (each_from n f ms) k ≡ f (n + k) (manager_at ms k)
each-at n f [] k l = absurd (omega arith)
each-at n f (m ∷ ms) zero l = let z : n ≡ n + 0 = omega arith in ap (λ (i : ℕ). f i m) z
each-at n f (m ∷ ms) (suc k) l =
    let e : n + 1 + k ≡ n + suc k = omega arith in
    each-at (n + 1) f ms k (omega arith) ∙ ap (λ (i : ℕ). f i (manager_at ms k)) e

each-first : (f : ℕ → SyncManager → SyncManager) (ms : List SyncManager) (k : ℕ) → k < length ms → manager_at (each_from 0 f ms) k ≡ f k (manager_at ms k)
each-first f ms k l =
    let z : 0 + k ≡ k = omega arith in
    each-at 0 f ms k l ∙ ap (λ (i : ℕ). f i (manager_at ms k)) z

-- a datagram on registers alone gets at no manager
registers-apart : (w : Window) (m : SyncManager) → w.from + length w.bytes ≤ ram_start → is_set m.settings ≡ true → touches w m.settings.start ≡ false
registers-apart w m l t = within_above w.from (length w.bytes) m.settings.start (let x = set-start m.settings t in omega arith)

unaccessed : (reads writes : Bool) (w : Window) (own : ℕ → Bool) (value : ℕ → ℕ → List ℕ) (m : SyncManager) → w.from + length w.bytes ≤ ram_start
    → manager_after reads writes (touches w) (touches w) own value m ≡ m
unaccessed reads writes w own value m l = elim (cases_Bool (is_set m.settings)) [
  | inl t ↦
      let c = registers-apart w m l t in
      if_false _ _ _ (and_right writes _ (and_right (may_write m) _ (and_left _ _ (and_left _ _ c))))
      ∙ if_false _ _ _ (and_right reads _ (and_right (may_read m) _ (and_left _ _ (and_left _ _ c))))
  | inr f ↦
      if_false _ _ _ (and_right writes _ (and_left (may_write m) _ (and_left _ _ (and_left _ _ f))))
      ∙ if_false _ _ _ (and_right reads _ (and_left (may_read m) _ (and_left _ _ (and_left _ _ f))))
]

managers-written : (s : SlaveState) (reads : Bool) (w : Window) (n : ℕ) → n < length s.managers → w.from + length w.bytes ≤ ram_start
    → manager_at (physical_after s reads true w).managers n
    ≡ (if is_configured s.kind.hardware w n then configured (manager_at s.managers n) (settings_written s.kind.hardware w n (manager_at s.managers n)) else manager_at s.managers n)
unfolding physical_after
managers-written s reads w n i l =
    let m : SyncManager = manager_at s.managers n in
    ap (λ (ms : List SyncManager). manager_at ms n) (physical_against_all s.kind.hardware reads true w s.managers)
    ∙ (each-first _ s.managers n i
    ∙ ap (λ (x : SyncManager). if is_configured s.kind.hardware w n then configured m (settings_written s.kind.hardware w n m) else x)
    (unaccessed reads true w (governs_among s.managers n) (value_among s.managers w n) m l))

pub managers_after_write : ManagersAfterWrite
managers_after_write s d n i e l =
    ap (λ (t : SlaveState). manager_at t.managers n) (written-slave s d e)
    ∙ managers-written s (is_reading (role_of d.command (adp_of d) (station_of s))) (window_of d) n i l

-- ---- bits

-- of a datagram that was met as a logical one
moves : (reading writing : Bool) (weight : ℕ) (s : SlaveState) (d : Datagram) → meets s d ≡ meets_logically reading writing weight s d → MovesBits reading writing s d
unfolding meets_logically
moves reading writing weight s d e = record {
  data_bits = λ i l. ap (λ (m : Met). bit m.datagram.data_bytes i) e ∙ bit-overlay d.data_bytes _ i l;
  memory_bits = λ q l. ap (λ (m : Met). bit m.slave.memory q) e ∙ bit-overlay s.memory _ q l;
}

met-as : (s : SlaveState) (d : Datagram) (c : Command) → d.command ≡ c → meets s d ≡ meets_by c s d
unfolding meets
met-as s d c e = ap (λ (k : Command). meets_by k s d) e

pub logical_bit_by_bit : LogicalBitByBit
logical_bit_by_bit = record {
  read = λ s d e. moves true false 1 s d (met-as s d Lrd e);
  write = λ s d e. moves false true 1 s d (met-as s d Lwr e);
  both = λ s d e l. moves true true 2 s d (met-as s d Lrw e ∙ if_true _ _ _ l);
}

-- what a written manager shows
visible-written : (m : SyncManager) (v : List ℕ) → visible (ring_written m v) ≡ v
visible-written m v = by (is_mailbox m.settings) refl
  where
    by : (b : Bool) → is_mailbox m.settings ≡ b → visible (ring_written m v) ≡ v
    by true e = rw e (rw e refl)
    by false e = rw e (rw e refl)

-- the value of manager n after a datagram that was met as a logical one that writes
value-written : (reading : Bool) (weight : ℕ) (s : SlaveState) (d : Datagram) (n : ℕ) → n < length s.managers → meets s d ≡ meets_logically reading true weight s d
    → IsValueWritten s d n
unfolding meets_logically
value-written reading weight s d n inside e written k l =
    let m : SyncManager = manager_at s.managers n in
    let v : List ℕ = bits_among s.managers (fmmus s) (span_of d) d.data_bytes n m.settings.start m.settings.length in
    let after : manager_at (slave_met s d).managers n ≡ ring_written m v
    = ap (λ (x : Met). manager_at x.slave.managers n) e
    ∙ (ap (λ (ms : List SyncManager). manager_at ms n) (logical_against_all reading true (fmmus s) (span_of d) d.data_bytes s.managers)
    ∙ (each-first _ s.managers n inside ∙ if_true _ _ _ written)) in
    ap (λ (x : SyncManager). bit (visible x) k) after
    ∙ (ap (λ (xs : List ℕ). bit xs k) (visible-written m v)
    ∙ (bit-overlay (zeros m.settings.length) _ k (omega (arith, length-replicate {A = ℕ} m.settings.length 0, l))
    ∙ ap (λ (b : Bool). unwrap_or (only_if (governs_among s.managers n ((8 * m.settings.start + k) / 8)) (brought (fmmus s) (span_of d) d.data_bytes (8 * m.settings.start + k))) b)
    (bit-zeros m.settings.length k)))

pub value_bit_by_bit : ValueBitByBit
value_bit_by_bit = record {
  write = λ s d n inside e. value-written false 1 s d n inside (met-as s d Lwr e);
  both = λ s d n inside e l. value-written true 2 s d n inside (met-as s d Lrw e ∙ if_true _ _ _ l);
}
