-- What adds nothing to a working counter changes nothing of a slave.
use Rattle.std.proofs.Common.{ℕ, suc, ◌+◌, ◌-◌, ◌*◌, ◌/◌, ◌%◌, ◌<◌, ◌≤◌, ◌≡◌, ◌^◌, ◌&&◌, ◌||◌, Bool, true, false, Option, Some, None, refl, sym, ◌∙◌, ap, subst, inl, inr, arith, if◌then◌else◌, is_some, is_none, List, [], ◌∷◌, length, slice_index, not, unwrap_or, option_map, option_and_then, nat_lt}
use Rattle.std.specs.Int.{from_bool, from_le_bytes, to_le_bytes, w32}
use Rattle.std.proofs.lemmas.Bool.{and_parts, and_from, or_left, or_right, cases_Bool, cases_lt, both_ways, false_from_ne_true, false≢true, lt-ltb, le-ltb, ltb-true, eqb-true}
use Rattle.std.proofs.lemmas.Nat.{from_le_bytes-to_le_bytes_4}
use Rattle.ec_bits.specs.Bits.{bit, overlay, within}
use Rattle.ec_bits.proofs.AnyLaws.{any_below_from, any_below_some, if_true, if_false, if_none, within_true, within_parts}
use Rattle.ec_bits.proofs.BitLaws.{overlay_own}
use Rattle.ec_device.specs.declared.hardware.Hardware.{Hardware}
use Rattle.ec_device.specs.Hardware.{manager_number}
use Rattle.ec_regs.specs.declared.fmmu.FmmuSettings.{FmmuSettings}
use Rattle.ec_regs.specs.Memory.{ram_start, ram_end, is_stored, sii_address}
use Rattle.ec_frame.specs.declared.command.Command.{Command}
use Rattle.ec_frame.specs.declared.command.Command.TheVariants.{Nop, Aprd, Apwr, Aprw, Fprd, Fpwr, Fprw, Brd, Bwr, Brw, Lrd, Lwr, Lrw, Armw, Frmw}
use Rattle.ec_frame.specs.Datagram.{Datagram, adp_of}
use Rattle.ec_regs.specs.Managers.{is_set}
use Rattle.ec_sync.specs.SyncManager.{SyncManager, may_read, may_write}
use Rattle.ec_sync.specs.Governing.{covers, governor, in_first_buffer}
use Rattle.ec_sync.proofs.Lengths.{set_lies_in_ram}
use Rattle.ec_al.specs.Al.{requesting}
use Rattle.ec_sii.specs.Port.{Sii, address_byte, address_written, addressed, byte_for, command_address, commanded, written}
use Rattle.ec_fmmu.specs.Sets.{target, readers}
use Rattle.ec_fmmu.specs.Applied.{LogicalSpan, data_bit_for, leads_into, touched_by_reading, touched_by_writing}
use Rattle.ec_slave.specs.declared.role.Role.{Role}
use Rattle.ec_slave.specs.Roles.{role_of, is_reading, is_writing, is_joining}
use Rattle.ec_slave.specs.State.{SlaveState, Met, manager_at, station_of, fmmus}
use Rattle.ec_slave.specs.Sound.{IsSlave}
use Rattle.ec_slave.specs.Managers.{gets_at, is_read_by, is_written_by, reads_under, writes_under}
use Rattle.ec_dl.specs.DataLink.{dl_takes, dl_written}
use Rattle.ec_dl.proofs.StoredRegisters.{untaken}
use Rattle.ec_slave.specs.Physical.{is_missing, Window, touches, byte_from, byte_read, updated, updated_from, is_stored_at, may_read_byte, may_write_byte, memory_written, is_configured, setting_for, physical_managers, physical_after, some_byte_read, some_byte_written, is_written, physical_met}
use Rattle.ec_slave.specs.AgainstAll.{each_from, governs_among, is_governor}
use Rattle.ec_slave.specs.Logical.{span_of, readable_bit, read_bit, written_bit, plain_bit, logical_managers, only_if, some_read, some_written, meets_logically}
use Rattle.ec_slave.specs.Written.{some_plain_written}
use Rattle.ec_slave.specs.Meeting.{window_of, meets, meets_by, meets_physically}
use Rattle.ec_slave.specs.Laws.{CountsWhatItChanges}
use Rattle.ec_slave.proofs.Memory.MissingFmmus.{not-missing}
use Rattle.ec_slave.proofs.Memory.AgainstAll.{updated_alike, physical_against_all, logical_against_all, writable-set, readable-set}
use Rattle.ec_slave.proofs.LogicalAccess.SomeWritten.{if-some, or-cases, some_written-is}

-- nothing is added: the counter goes by 3 at most, and wraps only past 65535
counted-nothing : (a b : Bool) (n c : ℕ) → 1 ≤ n → n ≤ 2 → c < 65536 → (c + (from_bool a + n * from_bool b)) % 65536 ≡ c → (a ≡ false) × (b ≡ false)
counted-nothing true true n c l k h e = absurd (omega arith)
counted-nothing true false n c l k h e = absurd (omega arith)
counted-nothing false true n c l k h e = absurd (omega arith)
counted-nothing false false n c l k h e = (refl, refl)

-- what would be true isn't, where it would make true what is false
refuted : (a b : Bool) → b ≡ false → (a ≡ true → b ≡ true) → a ≡ false
refuted a b f h = false_from_ne_true a (λ t. both_ways b f (h t))

updated-idle : (k : ℕ) (xs : List ℕ) → updated_from k xs (λ i. None) ≡ xs
updated-idle k [] = refl
updated-idle k (x ∷ xs) = ap (λ ys. x ∷ ys) (updated-idle (k + 1) xs)

-- ---- one byte of a physical datagram

some-written : (o : Option Hardware) (ms : List SyncManager) (busy : Bool) (w : Window) (a : ℕ) → touches w a ≡ true → is_missing o a ≡ false → may_write_byte ms busy (touches w) a ≡ true
    → some_byte_written o ms busy w ≡ true
some-written o ms busy w a t h m =
    let p = within_parts w.from (length w.bytes) a t in
    let at : a ≡ w.from + (a - w.from) = let x = p.0 in omega arith in
    any_below_from (length w.bytes) (λ i. if is_missing o (w.from + i) then false else may_write_byte ms busy (touches w) (w.from + i)) (a - w.from) (let x = p.0 in let y = p.1 in omega arith)
    (subst (λ (b : ℕ). (if is_missing o b then false else may_write_byte ms busy (touches w) b) ≡ true) at (if_false _ _ _ h ∙ m))

some-read : (ms : List SyncManager) (w : Window) (a : ℕ) → touches w a ≡ true → may_read_byte ms (touches w) a ≡ true → some_byte_read ms w ≡ true
some-read ms w a t m =
    let p = within_parts w.from (length w.bytes) a t in
    let at : a ≡ w.from + (a - w.from) = let x = p.0 in omega arith in
    any_below_from (length w.bytes) (λ i. may_read_byte ms (touches w) (w.from + i)) (a - w.from) (let x = p.0 in let y = p.1 in omega arith)
    (subst (λ (b : ℕ). may_read_byte ms (touches w) b ≡ true) at m)

register-writes : (ms : List SyncManager) (busy : Bool) (t : ℕ → Bool) (a : ℕ) → a < 0x1000 → (is_stored a || (within 0x0502 6 a && not busy)) ≡ true → may_write_byte ms busy t a ≡ true
unfolding may_write_byte
register-writes ms busy t a l s = if_true _ _ _ (lt-ltb a ram_start l) ∙ s

stored-below : (a : ℕ) → is_stored a ≡ true → a < 0x1000
stored-below a s = elim (or-cases (within 0x0010 2 a) _ s) [
  | inl x ↦ let p = within_parts 0x0010 2 a x in omega (arith, p.1)
  | inr y ↦ elim (or-cases (within 0x0120 2 a) _ y) [
    | inl x ↦ let p = within_parts 0x0120 2 a x in omega (arith, p.1)
    | inr z ↦ elim (or-cases (within 0x0600 64 a) _ z) [
      | inl x ↦ let p = within_parts 0x0600 64 a x in omega (arith, p.1)
      | inr x ↦ let p = within_parts 0x0800 32 a (and_parts (within 0x0800 32 a) _ x).0 in omega (arith, p.1)
    ]
  ]
]

stored-writes : (ms : List SyncManager) (busy : Bool) (t : ℕ → Bool) (a : ℕ) → is_stored a ≡ true → may_write_byte ms busy t a ≡ true
stored-writes ms busy t a s = register-writes ms busy t a (stored-below a s) (or_left (is_stored a) _ s)

ram-writes : (ms : List SyncManager) (busy : Bool) (t : ℕ → Bool) (a : ℕ) → 0x1000 ≤ a → a < 0x3000 → writes_under ms t a (governor ms a) ≡ true → may_write_byte ms busy t a ≡ true
unfolding may_write_byte
ram-writes ms busy t a l k u = if_false _ _ _ (le-ltb a ram_start l) ∙ and_from _ _ (lt-ltb a ram_end k) u

ram-reads : (ms : List SyncManager) (t : ℕ → Bool) (a : ℕ) → a < 0x3000 → reads_under ms t a (governor ms a) ≡ true → may_read_byte ms t a ≡ true
unfolding may_read_byte
ram-reads ms t a k u = or_right (nat_lt a ram_start) _ (and_from _ _ (lt-ltb a ram_end k) u)

ungoverned-writes : (ms : List SyncManager) (t : ℕ → Bool) (a : ℕ) (o : Option ℕ) → is_none o ≡ true → writes_under ms t a o ≡ true
ungoverned-writes ms t a None e = refl
ungoverned-writes ms t a (Some n) e = absurd (false≢true e)

kept-writes : (ms : List SyncManager) (busy : Bool) (t : ℕ → Bool) (a : ℕ) → is_stored_at ms a ≡ true → may_write_byte ms busy t a ≡ true
unfolding is_stored_at
kept-writes ms busy t a h = elim (cases_lt a 0x1000) [
  | inl l ↦
      let e = sym (if_true (nat_lt a ram_start) (is_stored a && not (within 0x0800 32 a)) (nat_lt a ram_end && is_none (governor ms a)) (lt-ltb a ram_start l)) ∙ h in
      stored-writes ms busy t a (and_parts (is_stored a) _ e).0
  | inr l ↦
      let e = sym (if_false (nat_lt a ram_start) (is_stored a && not (within 0x0800 32 a)) (nat_lt a ram_end && is_none (governor ms a)) (le-ltb a ram_start l)) ∙ h in
      let p = and_parts (nat_lt a ram_end) _ e in
      ram-writes ms busy t a l (ltb-true a ram_end p.0) (ungoverned-writes ms t a (governor ms a) p.1)
]

-- ---- one manager

is-governor : (n : ℕ) (o : Option ℕ) → is_governor n o ≡ true → o ≡ Some n
is-governor n None e = absurd (false≢true e)
is-governor n (Some k) e = let f : k ≡ n = eqb-true k n e in ap (λ i. Some i) f

-- a byte of the value that a manager governs itself
pub record OwnByte (ms : List SyncManager) (t : ℕ → Bool) (n : ℕ) : Type 0 where
  pub at : ℕ
  pub touched : t at ≡ true
  pub governed : governor ms at ≡ Some n
  pub front : in_first_buffer (manager_at ms n) at ≡ true
  pub from_ram : 0x1000 ≤ at
  pub to_ram : at < 0x3000
  pub covered : covers t (manager_at ms n) ≡ true

own-byte : (ms : List SyncManager) (t : ℕ → Bool) (n : ℕ) → is_set (manager_at ms n).settings ≡ true → gets_at t (governs_among ms n) (manager_at ms n) ≡ true → OwnByte ms t n
own-byte ms t n set g =
    let m : SyncManager = manager_at ms n in
    let p = and_parts (covers t m) _ g in
    let r = any_below_some m.settings.length (λ k. t (m.settings.start + k) && governs_among ms n (m.settings.start + k)) p.1 in
    let a : ℕ = m.settings.start + r.0 in
    let b = and_parts (t a) _ r.2 in
    let lies = set_lies_in_ram m.settings set in
    record {
      at = a;
      touched = b.0;
      governed = is-governor n (governor ms a) b.1;
      front = lt-ltb a (m.settings.start + m.settings.length) (let x = r.1 in omega arith);
      from_ram = let x = lies.from in omega arith;
      to_ram = let x = lies.to in let y = r.1 in omega arith;
      covered = p.0;
    }

own-writes : (ms : List SyncManager) (t : ℕ → Bool) (n : ℕ) (o : OwnByte ms t n) → may_write (manager_at ms n) ≡ true → writes_under ms t o.at (governor ms o.at) ≡ true
own-writes ms t n o w = ap (writes_under ms t o.at) o.governed ∙ and_from _ _ o.front (and_from _ _ o.covered w)

own-reads : (ms : List SyncManager) (t : ℕ → Bool) (n : ℕ) (o : OwnByte ms t n) → may_read (manager_at ms n) ≡ true → reads_under ms t o.at (governor ms o.at) ≡ true
own-reads ms t n o r = ap (reads_under ms t o.at) o.governed ∙ and_from _ _ o.front (and_from _ _ o.covered r)

each-idle : (n : ℕ) (f : ℕ → SyncManager → SyncManager) (ms : List SyncManager) → ((k : ℕ) → k < length ms → f (n + k) (manager_at ms k) ≡ manager_at ms k) → each_from n f ms ≡ ms
each-idle n f [] h = refl
each-idle n f (m ∷ ms) h =
    let z : n + 0 ≡ n = omega arith in
    let one : f n m ≡ m = subst (λ (i : ℕ). f i m ≡ m) z (h 0 (omega arith)) in
    ap (λ x. x ∷ each_from (n + 1) f ms) one
    ∙ ap (λ xs. m ∷ xs) (each-idle (n + 1) f ms (λ k l.
    let e : n + suc k ≡ n + 1 + k = omega arith in
    subst (λ (i : ℕ). f i (manager_at ms k) ≡ manager_at ms k) e (h (suc k) (omega arith))))

each-idle-first : (f : ℕ → SyncManager → SyncManager) (ms : List SyncManager) → ((k : ℕ) → k < length ms → f k (manager_at ms k) ≡ manager_at ms k) → each_from 0 f ms ≡ ms
each-idle-first f ms h = each-idle 0 f ms (λ k l.
    let z : k ≡ 0 + k = omega arith in
    subst (λ (i : ℕ). f i (manager_at ms k) ≡ manager_at ms k) z (h k l))

-- ---- a physical datagram

memory-idle : (o : Option Hardware) (ms : List SyncManager) (busy : Bool) (w : Window) (memory : List ℕ) → some_byte_written o ms busy w ≡ false → memory_written o ms w memory ≡ memory
memory-idle o ms busy w memory f =
    updated_alike 0 memory _ (λ i. None) (λ a l. elim (cases_Bool (is_missing o a)) as (λ _. (if is_missing o a then None else (if is_stored_at ms a then byte_from w a else None)) ≡ None) [
      | inl h ↦ if_true _ _ _ h
      | inr h ↦ if_false _ _ _ h ∙ elim (cases_Bool (is_stored_at ms a)) as (λ _. (if is_stored_at ms a then byte_from w a else None) ≡ None) [
        | inl k ↦ if_none (is_stored_at ms a) (byte_from w a) (if_false (touches w a) (Some (slice_index w.bytes (a - w.from))) None
            (refuted (touches w a) (some_byte_written o ms busy w) f (λ t. some-written o ms busy w a t h (kept-writes ms busy (touches w) a k))))
        | inr n ↦ if_false _ _ _ n
      ]
    ])
    ∙ updated-idle 0 memory

configured-counts : (o : Option Hardware) (ms : List SyncManager) (busy : Bool) (w : Window) (n : ℕ) → is_configured o w n ≡ true → some_byte_written o ms busy w ≡ true
configured-counts o ms busy w n c =
    let r = any_below_some 8 (λ k. is_some (setting_for o w n k)) c in
    let a : ℕ = 0x0800 + 8 * manager_number o n + r.0 in
    let q = if-some (is_stored a) (byte_from w a) r.2 in
    let u = if-some (touches w a) (Some (slice_index w.bytes (a - w.from))) q.1 in
    some-written o ms busy w a u.0 (not-missing o a (inr (omega arith))) (stored-writes ms busy (touches w) a q.0)

written-counts : (h : Option Hardware) (ms : List SyncManager) (busy : Bool) (w : Window) (n : ℕ) → is_written_by (touches w) (governs_among ms n) (manager_at ms n) ≡ true → some_byte_written h ms busy w ≡ true
written-counts x ms busy w n h =
    let m : SyncManager = manager_at ms n in
    let p = and_parts (may_write m) _ h in
    let o = own-byte ms (touches w) n (writable-set m p.0) p.1 in
    some-written x ms busy w o.at o.touched (not-missing x o.at (inr (let r = o.from_ram in omega arith))) (ram-writes ms busy (touches w) o.at o.from_ram o.to_ram (own-writes ms (touches w) n o p.0))

read-counts : (ms : List SyncManager) (w : Window) (n : ℕ) → is_read_by (touches w) (governs_among ms n) (manager_at ms n) ≡ true → some_byte_read ms w ≡ true
read-counts ms w n h =
    let m : SyncManager = manager_at ms n in
    let p = and_parts (may_read m) _ h in
    let o = own-byte ms (touches w) n (readable-set m p.0) p.1 in
    some-read ms w o.at o.touched (ram-reads ms (touches w) o.at o.to_ram (own-reads ms (touches w) n o p.0))

-- both, where the datagram does not write, or writes nothing
both-false : (b x y : Bool) → (b && y) ≡ false → (x ≡ true → y ≡ true) → (b && x) ≡ false
both-false true x y f h = refuted x y f h
both-false false x y f h = refl

managers-idle : (o : Option Hardware) (ms : List SyncManager) (busy reads writes : Bool) (w : Window) → (reads && some_byte_read ms w) ≡ false → (writes && some_byte_written o ms busy w) ≡ false
    → physical_managers o [] reads writes w 0 ms ≡ ms
managers-idle o ms busy reads writes w fr fw =
    physical_against_all o reads writes w ms
    ∙ each-idle-first _ ms (λ k l.
    if_false _ _ _ (both-false writes _ _ fw (configured-counts o ms busy w k))
    ∙ (if_false _ _ _ (both-false writes _ _ fw (written-counts o ms busy w k))
    ∙ if_false _ _ _ (both-false reads _ _ fr (read-counts ms w k))))

-- the SII port, where none of the bytes that it stores is touched
pub port-idle : (p : Sii) (from : ℕ) (bytes : List ℕ) → p.address < 2 ^ 32 → p.busy ≡ false
    → ((place : ℕ) → 0x0503 ≤ place → place < 0x0508 → within from (length bytes) place ≡ false) → written p from bytes ≡ p
unfolding written
port-idle p from bytes l idle none =
    let old : ℕ → ℕ = λ k. slice_index (to_le_bytes w32 p.address) k in
    let now : ℕ → ℕ = λ k. address_byte p.address from bytes k in
    let byte : (k : ℕ) → k < 4 → now k ≡ old k
    = λ k h. ap (λ o. unwrap_or o (slice_index (to_le_bytes w32 p.address) k)) (if_false (within from (length bytes) (sii_address + k)) (Some (slice_index bytes (sii_address + k - from))) None (none (sii_address + k) (omega arith) (omega arith))) in
    let address : address_written p.address from bytes ≡ p.address
    = ap (λ x. from_le_bytes w32 (x ∷ now 1 ∷ now 2 ∷ now 3 ∷ [])) (byte 0 (omega arith))
    ∙ (ap (λ x. from_le_bytes w32 (old 0 ∷ x ∷ now 2 ∷ now 3 ∷ [])) (byte 1 (omega arith))
    ∙ (ap (λ x. from_le_bytes w32 (old 0 ∷ old 1 ∷ x ∷ now 3 ∷ [])) (byte 2 (omega arith))
    ∙ (ap (λ x. from_le_bytes w32 (old 0 ∷ old 1 ∷ old 2 ∷ x ∷ [])) (byte 3 (omega arith))
    ∙ from_le_bytes-to_le_bytes_4 p.address l))) in
    let command : byte_for from bytes command_address ≡ None
    = if_false (within from (length bytes) command_address) (Some (slice_index bytes (command_address - from))) None (none command_address (omega arith) (omega arith)) in
    if_false _ _ _ idle
    ∙ (ap (commanded (addressed p (address_written p.address from bytes))) command
    ∙ ap (addressed p) address)

pub port-busy : (p : Sii) (from : ℕ) (bytes : List ℕ) → p.busy ≡ true → written p from bytes ≡ p
unfolding written
port-busy p from bytes t = if_true _ _ _ t

port-kept : (o : Option Hardware) (ms : List SyncManager) (p : Sii) (w : Window) → p.address < 2 ^ 32 → some_byte_written o ms p.busy w ≡ false → written p w.from w.bytes ≡ p
port-kept o ms p w l f = elim (cases_Bool p.busy) [
  | inl t ↦ port-busy p w.from w.bytes t
  | inr idle ↦ port-idle p w.from w.bytes l idle (λ place from to. refuted (touches w place) (some_byte_written o ms p.busy w) f (λ t.
      some-written o ms p.busy w place t (not-missing o place (inl (omega arith))) (register-writes ms p.busy (touches w) place (omega arith)
      (or_right (is_stored place) _ (and_from _ _ (within_true 0x0502 6 place (omega arith) (omega arith)) (ap not idle))))))
]

pub slave-idle : (s : SlaveState) (reads writes : Bool) (w : Window) → s.sii.address < 2 ^ 32
    → (reads && some_byte_read s.managers w) ≡ false → (writes && is_written s w) ≡ false → physical_after s reads writes w ≡ s
unfolding physical_after
slave-idle s reads writes w l fr none =
    let parts = neither writes (some_byte_written s.kind.hardware s.managers s.sii.busy w) (dl_takes s.link w.from (length w.bytes)) none in
    let fw = parts.0 in
    let managers = managers-idle s.kind.hardware s.managers s.sii.busy reads writes w fr fw in
    let memory = only-written writes (memory_written s.kind.hardware s.managers w s.memory) s.memory fw (λ f. memory-idle s.kind.hardware s.managers s.sii.busy w s.memory f) in
    let sii = only-written writes (written s.sii w.from w.bytes) s.sii fw (λ f. port-kept s.kind.hardware s.managers s.sii w l f) in
    let link = only-kept writes (dl_written s.link w.from w.bytes) s.link parts.1 (λ f. untaken s.link w.from w.bytes f) in
    let request : (if writes && touches w 0x0120 then requesting s.al else s.al) ≡ s.al
    = if_false _ _ _ (both-false writes _ _ fw (λ t. some-written s.kind.hardware s.managers s.sii.busy w 0x0120 t (not-missing s.kind.hardware 0x0120 (inl (omega arith))) (stored-writes s.managers s.sii.busy (touches w) 0x0120 refl))) in
    rw (managers, memory, sii, link, request) refl
  where
    neither : (b x y : Bool) → (b && (x || y)) ≡ false → ((b && x) ≡ false) × ((b && y) ≡ false)
    neither true true y f = absurd (false≢true (sym f))
    neither true false y f = (refl, f)
    neither false x y f = (refl, refl)

    only-kept : {X : Type 0} (b : Bool) (x y : X) → (b && dl_takes s.link w.from (length w.bytes)) ≡ false → (dl_takes s.link w.from (length w.bytes) ≡ false → x ≡ y) → (if b then x else y) ≡ y
    only-kept true x y f h = h f
    only-kept false x y f h = refl

    only-written : {X : Type 0} (b : Bool) (x y : X) → (b && some_byte_written s.kind.hardware s.managers s.sii.busy w) ≡ false → (some_byte_written s.kind.hardware s.managers s.sii.busy w ≡ false → x ≡ y) → (if b then x else y) ≡ y
    only-written true x y f h = h f
    only-written false x y f h = refl

data-idle : (s : SlaveState) (reads joining : Bool) (w : Window) → (reads && some_byte_read s.managers w) ≡ false → (if reads then updated w.bytes (byte_read s joining w) else w.bytes) ≡ w.bytes
data-idle s true joining w f =
    updated_alike 0 w.bytes (byte_read s joining w) (λ i. None) (λ k l.
    if_false _ _ _ (refuted (may_read_byte s.managers (touches w) (w.from + k)) (some_byte_read s.managers w) f (λ t.
    any_below_from (length w.bytes) (λ i. may_read_byte s.managers (touches w) (w.from + i)) k (omega arith) t)))
    ∙ updated-idle 0 w.bytes
data-idle s false joining w f = refl

one-or-two : (b : Bool) → (1 ≤ (if b then 2 else 1)) × ((if b then 2 else 1) ≤ 2)
one-or-two true = (omega arith, omega arith)
one-or-two false = (omega arith, omega arith)

physical-counts : (s : SlaveState) (d : Datagram) → IsSlave s → d.counter < 65536 → (meets_physically s d).datagram.counter ≡ d.counter
    → ((meets_physically s d).slave ≡ s) × ((meets_physically s d).datagram.data_bytes ≡ d.data_bytes)
unfolding physical_met
physical-counts s d h c e =
    let role : Role = role_of d.command (adp_of d) (station_of s) in
    let w : Window = window_of d in
    let n = one-or-two (is_reading role) in
    let z = counted-nothing (is_reading role && some_byte_read s.managers w) (is_writing role && is_written s w) (if is_reading role then 2 else 1) d.counter n.0 n.1 c e in
    (slave-idle s (is_reading role) (is_writing role) w h.word_address z.0 z.1, data-idle s (is_reading role) (is_joining role) w z.0)

-- ---- a logical datagram

is_some-map : (bytes : List ℕ) (o : Option ℕ) → is_some o ≡ true → is_some (option_map (bit bytes) o) ≡ true
is_some-map bytes None e = absurd (false≢true e)
is_some-map bytes (Some i) e = refl

mapped-write-counts : (ms : List SyncManager) (fs : List FmmuSettings) (p : LogicalSpan) (bytes : List ℕ) (n : ℕ) → is_written_by (touched_by_writing fs p) (governs_among ms n) (manager_at ms n) ≡ true
    → some_written ms fs p bytes ≡ true
mapped-write-counts ms fs p bytes n h =
    let m : SyncManager = manager_at ms n in
    let t : ℕ → Bool = touched_by_writing fs p in
    let g = and_parts (may_write m) _ h in
    let o = own-byte ms t n (writable-set m g.0) g.1 in
    let r = any_below_some 8 (λ j. is_some (data_bit_for fs p (8 * o.at + j))) o.touched in
    let q : ℕ = 8 * o.at + r.0 in
    let j : r.0 < 8 = r.1 in
    let byte : o.at ≡ q / 8 = omega arith in
    let may : writes_under ms t (q / 8) (governor ms (q / 8)) ≡ true
    = subst (λ (a : ℕ). writes_under ms t a (governor ms a) ≡ true) byte (own-writes ms t n o g.0) in
    any_below_from (8 * ram_end) (λ i. is_some (written_bit ms fs p bytes i)) q (let x = o.to_ram in omega arith)
    (ap is_some (if_true _ _ _ may) ∙ is_some-map bytes (data_bit_for fs p q) r.2)

leads-to : (o : Option ℕ) (a : ℕ) → leads_into o a ≡ true → (q : ℕ) × (o ≡ Some q) × (q / 8 ≡ a)
leads-to None a e = absurd (false≢true e)
leads-to (Some q) a e = (q, refl, eqb-true (q / 8) a e)

mapped-read-counts : (memory : List ℕ) (ms : List SyncManager) (fs : List FmmuSettings) (p : LogicalSpan) (n : ℕ) → is_read_by (touched_by_reading fs p) (governs_among ms n) (manager_at ms n) ≡ true
    → some_read memory ms fs p ≡ true
mapped-read-counts memory ms fs p n h =
    let m : SyncManager = manager_at ms n in
    let t : ℕ → Bool = touched_by_reading fs p in
    let g = and_parts (may_read m) _ h in
    let o = own-byte ms t n (readable-set m g.0) g.1 in
    let r = any_below_some p.bits (λ i. leads_into (target (readers fs) (p.from + i)) o.at) o.touched in
    let l = leads-to (target (readers fs) (p.from + r.0)) o.at r.2 in
    let q : ℕ = l.0 in
    let may : reads_under ms t (q / 8) (governor ms (q / 8)) ≡ true
    = subst (λ (a : ℕ). reads_under ms t a (governor ms a) ≡ true) (sym l.2) (own-reads ms t n o g.0) in
    let told : is_some (read_bit memory ms fs p r.0) ≡ true
    = ap (λ x. is_some (option_and_then (readable_bit memory ms fs p) x)) l.1 ∙ ap is_some (if_true _ _ _ may) in
    any_below_from p.bits (λ i. is_some (read_bit memory ms fs p i)) r.0 r.1 told

mapped-managers-idle : (memory : List ℕ) (ms : List SyncManager) (reading writing : Bool) (fs : List FmmuSettings) (p : LogicalSpan) (bytes : List ℕ)
    → (reading && some_read memory ms fs p) ≡ false → (writing && some_written ms fs p bytes) ≡ false → logical_managers [] reading writing fs p bytes ms ≡ ms
mapped-managers-idle memory ms reading writing fs p bytes fr fw =
    logical_against_all reading writing fs p bytes ms
    ∙ each-idle-first _ ms (λ k l.
    if_false _ _ _ (both-false writing _ _ fw (mapped-write-counts ms fs p bytes k))
    ∙ if_false _ _ _ (both-false reading _ _ fr (mapped-read-counts memory ms fs p k)))

no-option : {X : Type 0} (o : Option X) → is_some o ≡ false → o ≡ None
no-option None e = refl
no-option (Some x) e = absurd (false≢true (sym e))

-- a bit that would be overwritten counts
untold : {X : Type 0} (b y : Bool) (o : Option X) → (b && y) ≡ false → (is_some o ≡ true → y ≡ true) → (if b then o else None) ≡ None
untold true y o f h = no-option o (refuted (is_some o) y f h)
untold false y o f h = refl

logical-counts : (reading writing : Bool) (weight : ℕ) (s : SlaveState) (d : Datagram) → 1 ≤ weight → weight ≤ 2 → IsSlave s → d.counter < 65536
    → (meets_logically reading writing weight s d).datagram.counter ≡ d.counter
    → ((meets_logically reading writing weight s d).slave ≡ s) × ((meets_logically reading writing weight s d).datagram.data_bytes ≡ d.data_bytes)
unfolding meets_logically
logical-counts reading writing weight s d one two h c e =
    let p : LogicalSpan = span_of d in
    let ms : List SyncManager = s.managers in
    let fs : List FmmuSettings = fmmus s in
    let long : length s.memory ≡ 0x3000 = h.memory in
    let z = counted-nothing (reading && some_read s.memory ms fs p) (writing && some_written ms fs p d.data_bytes) weight d.counter one two c e in
    let memory : overlay s.memory (λ q. only_if writing (plain_bit ms fs p d.data_bytes q)) ≡ s.memory
    = overlay_own s.memory (λ q. only_if writing (plain_bit ms fs p d.data_bytes q))
    (λ q l. ap (λ o. unwrap_or o (bit s.memory q)) (untold writing (some_written ms fs p d.data_bytes) (plain_bit ms fs p d.data_bytes q) z.1 (λ t.
    some_written-is ms fs p d.data_bytes
    ∙ or_left (some_plain_written ms fs p d.data_bytes) _ (any_below_from (8 * ram_end) (λ i. is_some (plain_bit ms fs p d.data_bytes i)) q (omega (arith, long, l)) t)))) in
    let managers = mapped-managers-idle s.memory ms reading writing fs p d.data_bytes z.0 z.1 in
    let bytes : overlay d.data_bytes (λ i. only_if reading (read_bit s.memory ms fs p i)) ≡ d.data_bytes
    = overlay_own d.data_bytes (λ i. only_if reading (read_bit s.memory ms fs p i))
    (λ i l. ap (λ o. unwrap_or o (bit d.data_bytes i)) (untold reading (some_read s.memory ms fs p) (read_bit s.memory ms fs p i) z.0 (λ t.
    any_below_from p.bits (λ k. is_some (read_bit s.memory ms fs p k)) i l t))) in
    (rw (memory, managers) refl, bytes)

abbrev Unchanged : Met → SlaveState → Datagram → Type 0
Unchanged m s d = (m.slave ≡ s) × (m.datagram.data_bytes ≡ d.data_bytes)

exchanging-counts : (b : Bool) (s : SlaveState) (d : Datagram) → IsSlave s → d.counter < 65536
    → (let m : Met = if b then meets_logically true true 2 s d else record { slave = s; datagram = d } in m.datagram.counter ≡ d.counter → Unchanged m s d)
exchanging-counts true s d h c e = logical-counts true true 2 s d (omega arith) (omega arith) h c e
exchanging-counts false s d h c e = (refl, refl)

by-command : (c : Command) (s : SlaveState) (d : Datagram) → IsSlave s → d.counter < 65536 → (meets_by c s d).datagram.counter ≡ d.counter → Unchanged (meets_by c s d) s d
by-command Nop s d h c e = (refl, refl)
by-command Aprd s d h c e = physical-counts s d h c e
by-command Apwr s d h c e = physical-counts s d h c e
by-command Aprw s d h c e = physical-counts s d h c e
by-command Fprd s d h c e = physical-counts s d h c e
by-command Fpwr s d h c e = physical-counts s d h c e
by-command Fprw s d h c e = physical-counts s d h c e
by-command Brd s d h c e = physical-counts s d h c e
by-command Bwr s d h c e = physical-counts s d h c e
by-command Brw s d h c e = physical-counts s d h c e
by-command Lrd s d h c e = logical-counts true false 1 s d (omega arith) (omega arith) h c e
by-command Lwr s d h c e = logical-counts false true 1 s d (omega arith) (omega arith) h c e
by-command Lrw s d h c e = exchanging-counts s.kind.lrw s d h c e
by-command Armw s d h c e = physical-counts s d h c e
by-command Frmw s d h c e = physical-counts s d h c e

pub counts_what_it_changes : CountsWhatItChanges
unfolding meets
counts_what_it_changes s d h c e = by-command d.command s d h c e
