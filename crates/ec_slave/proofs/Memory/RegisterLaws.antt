-- Registers under a write and a read, what they show, and the RAM behind its managers.
use Rattle.std.proofs.Common.{ℕ, zero, suc, ◌+◌, ◌*◌, ◌/◌, ◌<◌, ◌≤◌, ◌≡◌, ◌&&◌, ◌||◌, not, Bool, true, false, Option, Some, unwrap_or, get_or, refl, sym, ◌∙◌, ap, inl, inr, arith, if◌then◌else◌, List, [], ◌∷◌, ◌++◌, length, slice_index, is_some, nat_lt, ◌%◌, ◌==◌}
use Rattle.std.specs.Int.{from_bool, to_le_bytes, w16, w32}
use Rattle.std.proofs.lemmas.Bool.{false≢true, cases_Bool, and_from, and_left, and_right, or_left, or_right, lt-ltb, le-ltb}
use Rattle.ec_bits.specs.Bits.{within, zeros}
use Rattle.std.proofs.lemmas.List.{length-replicate}
use Rattle.ec_bits.proofs.AnyLaws.{if_true, if_false, within_above, within_true, any_below_none}
use Rattle.ec_device.specs.declared.hardware.Hardware.{Hardware}
use Rattle.ec_device.specs.Hardware.{manager_number}
use Rattle.ec_regs.specs.Memory.{ram_start, ram_end, is_stored}
use Rattle.ec_regs.specs.Managers.{is_set, settings_of}
use Rattle.ec_sync.specs.SyncManager.{SyncManager, configured, may_write}
use Rattle.ec_sync.specs.Governing.{governor}
use Rattle.ec_al.specs.States.{state_number}
use Rattle.ec_al.specs.declared.state.State.{State}
use Rattle.ec_al.specs.declared.state.State.TheVariants.{Init, PreOp, SafeOp, Op}
use Rattle.ec_sii.specs.Port.{sii_byte}
use Rattle.ec_slave.specs.State.{SlaveState, manager_at}
use Rattle.ec_slave.specs.Managers.{reads_under, writes_under, is_ungoverned, is_written_by}
use Rattle.ec_slave.specs.Physical.{Window, touches, byte_at, register_byte, may_read_byte, may_write_byte, is_missing, is_stored_at, setting_for, is_configured, settings_written, updated_from, physical_manager, physical_managers, physical_after}
use Rattle.ec_slave.specs.Interface.{set_by, RegistersAreWritten, RegistersAreRead, ManagersAside, RegistersAreOpen, SlavesShowThemselves, UpdatedByIndex, RamIsGoverned, UpdatedWhole, ManagersAreAccessed, WholeValuesAreTheData, AccessesLeave}
use Rattle.ec_slave.proofs.Memory.MissingFmmus.{missing-left}
use Rattle.ec_slave.proofs.Memory.RegisterByte.{in_memory, register-read, stored-byte}
use Rattle.ec_slave.proofs.Memory.WritesByByte.{writes_by_byte}
use Rattle.ec_slave.proofs.Memory.BroadcastLaw.{set-start, registers-idle}
use Rattle.ec_slave.proofs.Always.MetIsSlave.{length-physical_managers}
use Rattle.ec_slave.specs.Keeping.{length-updated}
use Rattle.ec_slave.proofs.Memory.UpdatedAlong.{get-updated0}
use Rattle.ec_slave.proofs.Memory.WindowBytes.{from-outside, from-inside}

-- ---- managers under a write of registers

-- a datagram on registers alone writes no value of a manager
registers-uncovered : (w : Window) (own : ℕ → Bool) (m : SyncManager) → w.from + length w.bytes ≤ ram_start → is_written_by (touches w) own m ≡ false
registers-uncovered w own m l = elim (cases_Bool (is_set m.settings)) [
  | inl t ↦ and_right (may_write m) _ (and_left _ _ (and_left _ _ (within_above w.from (length w.bytes) m.settings.start (let x = set-start m.settings t in omega arith))))
  | inr f ↦ and_left (may_write m) _ (and_left _ _ (and_left _ _ f))
]

one-set : (o : Option Hardware) (lower : List SyncManager) (w : Window) (n : ℕ) (m : SyncManager) → w.from + length w.bytes ≤ ram_start → physical_manager o lower false true w n m ≡ set_by o w n m
unfolding physical_manager
one-set o lower w n m l = ap (λ (x : SyncManager). if is_configured o w n then configured m (settings_written o w n m) else x) (if_false _ _ _ (registers-uncovered w (is_ungoverned lower) m l))

set-at : (o : Option Hardware) (lower ms : List SyncManager) (w : Window) (n k : ℕ) → w.from + length w.bytes ≤ ram_start → k < length ms
    → manager_at (physical_managers o lower false true w n ms) k ≡ set_by o w (n + k) (manager_at ms k)
set-at o lower [] w n k l b = absurd (omega arith)
set-at o lower (m ∷ ms) w n zero l b = let e : n + 0 ≡ n = omega arith in one-set o lower w n m l ∙ ap (λ (j : ℕ). set_by o w j m) (sym e)
set-at o lower (m ∷ ms) w n (suc k) l b =
    let e : n + 1 + k ≡ n + suc k = omega arith in
    set-at o (lower ++ m ∷ []) ms w (n + 1) k l (omega arith) ∙ ap (λ (j : ℕ). set_by o w j (manager_at ms k)) e

-- the settings of a manager are stored
pub stored-setting : (q k : ℕ) → q < 4 → k < 8 → (nat_lt k 5 || (k == 6)) ≡ true → is_stored (2048 + 8 * q + k) ≡ true
stored-setting q k l h t =
    let a : ℕ = 2048 + 8 * q + k in
    let rest : a % 8 ≡ k = omega (arith, h) in
    or_right (within 16 2 a) _ (or_right (within 288 2 a) _ (or_right (within 1536 64 a) _
    (and_from _ _ (within_true 2048 32 a (omega arith) (omega (arith, l, h))) (ap (λ (r : ℕ). nat_lt r 5 || (r == 6)) rest ∙ t))))

-- settings go by six of the eight bytes
pub settings-alike : (f g : ℕ → ℕ) → f 0 ≡ g 0 → f 1 ≡ g 1 → f 2 ≡ g 2 → f 3 ≡ g 3 → f 4 ≡ g 4 → f 6 ≡ g 6 → settings_of f ≡ settings_of g
settings-alike f g a b c d e h = rw (a, b, c, d, e, h) refl

pub managers_aside : ManagersAside
managers_aside o w n h = any_below_none 8 (λ k. is_some (setting_for o w n k)) (λ k l. elim (cases_Bool (is_stored (0x0800 + 8 * manager_number o n + k))) [
  | inl t ↦ ap is_some (if_true _ _ _ t ∙ from-outside w (0x0800 + 8 * manager_number o n + k) (elim h [ inl a ↦ inr (omega arith) | inr a ↦ inl (omega arith) ]))
  | inr f ↦ ap is_some (if_false _ _ _ f)
])

-- ---- the slave

kept-register : (ms : List SyncManager) (a : ℕ) → a < ram_start → is_stored a ≡ true → within 0x0800 32 a ≡ false → is_stored_at ms a ≡ true
unfolding is_stored_at
kept-register ms a l s o = if_true _ _ _ (lt-ltb a ram_start l) ∙ and_from _ _ s (ap not o)

kept-parts : (b x : Bool) → (if b then false else x) ≡ true → (b ≡ false) × (x ≡ true)
kept-parts true x e = absurd (false≢true e)
kept-parts false x e = (refl, e)

pub registers_written : RegistersAreWritten
unfolding physical_after
registers_written s w l = record {
  kind = refl;
  room = (writes_by_byte s.kind.hardware s.managers w s.memory).0;
  untouched = λ a b o. ((writes_by_byte s.kind.hardware s.managers w s.memory).1 a b).untouched o;
  missing = λ a h. missing-left s.kind.hardware s.managers w s.memory a h;
  taken = λ a b r t k o. let p = kept-parts (is_missing s.kind.hardware a) (is_stored a) k in ((writes_by_byte s.kind.hardware s.managers w s.memory).1 a b).taken t p.0 (kept-register s.managers a r p.1 o);
  count = length-physical_managers s.kind.hardware [] false true w 0 s.managers;
  managers = λ n b. let e : 0 + n ≡ n = omega arith in set-at s.kind.hardware [] s.managers w 0 n l b ∙ ap (λ (j : ℕ). set_by s.kind.hardware w j (manager_at s.managers n)) e;
  al = refl;
  sii = refl;
  link = refl;
  outs = refl;
  ins = refl;
  values = refl;
}

pub registers_read : RegistersAreRead
registers_read s w l = registers-idle s w l

pub registers_open : RegistersAreOpen
unfolding may_read_byte may_write_byte
registers_open ms touched a l = record {
  reads = or_left _ _ (lt-ltb a ram_start l);
  writes = λ busy. if_true _ _ _ (lt-ltb a ram_start l);
}

pub updated_by_index : UpdatedByIndex
updated_by_index xs f = record { long = length-updated 0 xs f; each = λ k l. get-updated0 xs f k l }

-- ---- what registers show

low-by : (st : State) (e : Bool) → slice_index (to_le_bytes w16 (state_number st + 16 * from_bool e)) 0 ≡ state_number st + 16 * from_bool e
low-by Init true = refl
low-by Init false = refl
low-by PreOp true = refl
low-by PreOp false = refl
low-by SafeOp true = refl
low-by SafeOp false = refl
low-by Op true = refl
low-by Op false = refl

high-by : (st : State) (e : Bool) → slice_index (to_le_bytes w16 (state_number st + 16 * from_bool e)) 1 ≡ 0
high-by Init true = refl
high-by Init false = refl
high-by PreOp true = refl
high-by PreOp false = refl
high-by SafeOp true = refl
high-by SafeOp false = refl
high-by Op true = refl
high-by Op false = refl

found-byte : (s : SlaveState) (k : ℕ) → k < 4 → byte_at s (0x0508 + k) ≡ slice_index (to_le_bytes w32 s.sii.found) k
unfolding byte_at register_byte sii_byte
found-byte s zero l = refl
found-byte s (suc zero) l = refl
found-byte s (suc (suc zero)) l = refl
found-byte s (suc (suc (suc zero))) l = refl
found-byte s (suc (suc (suc (suc k)))) l = absurd (omega (arith, l))

-- a register that datagrams store in the memory
memory-read : (s : SlaveState) (a : ℕ) → 7 ≤ a → a < ram_start → in_memory a ≡ true → byte_at s a ≡ slice_index s.memory a
memory-read s a low high m = register-read s a high ∙ stored-byte s a (within_above 4 3 a (omega (arith, low))) m

pub shows_itself : SlavesShowThemselves
unfolding byte_at register_byte sii_byte
shows_itself s = record {
  status = low-by s.al.state s.al.error;
  status_high = high-by s.al.state s.al.error;
  sii_low = refl;
  sii_high = high (from_bool s.sii.busy) (from_bool s.sii.error);
  sii_found = found-byte s;
  station = λ k l. memory-read s (0x0010 + k) (omega arith) (omega (arith, l)) (or_left _ _ (within_true 0x0010 2 (0x0010 + k) (omega arith) (omega (arith, l))));
  mappings = λ n k l b.
      let a : ℕ = 0x0600 + 16 * n + k in
      memory-read s a (omega arith) (omega (arith, l, b)) (or_right _ _ (or_right _ _ (within_true 0x0600 64 a (omega arith) (omega (arith, l, b)))));
}
  where
    high : (x y : ℕ) → (256 * x + 8192 * y + 32768 * x) / 256 ≡ x + 32 * y + 128 * x
    high x y = omega arith

-- ---- the RAM

pub ram_governed : RamIsGoverned
unfolding may_read_byte may_write_byte byte_at
ram_governed s a low high = record {
  reads = λ touched. ap (λ (b : Bool). b || (nat_lt a ram_end && reads_under s.managers touched a (governor s.managers a))) (le-ltb a ram_start low)
      ∙ ap (λ (b : Bool). b && reads_under s.managers touched a (governor s.managers a)) (lt-ltb a ram_end high);
  writes = λ busy touched. if_false _ _ _ (le-ltb a ram_start low) ∙ ap (λ (b : Bool). b && writes_under s.managers touched a (governor s.managers a)) (lt-ltb a ram_end high);
  shows = if_false _ _ _ (le-ltb a ram_start low);
}

pub managers_accessed : ManagersAreAccessed
unfolding physical_manager
managers_accessed o lower w n m = record { read = refl; written = λ e. if_false _ _ _ e }

updated-all : (k : ℕ) (xs ys : List ℕ) (f : ℕ → Option ℕ) → length xs ≡ length ys → ((i : ℕ) → i < length ys → f (k + i) ≡ Some (get_or ys i 0)) → updated_from k xs f ≡ ys
updated-all k [] [] f e h = refl
updated-all k [] (y ∷ ys) f e h = absurd (omega (arith, e))
updated-all k (x ∷ xs) [] f e h = absurd (omega (arith, e))
updated-all k (x ∷ xs) (y ∷ ys) f e h =
    let z : k + 0 ≡ k = omega arith in
    let a : f k ≡ Some y = sym (ap f z) ∙ h 0 (omega arith) in
    ap (λ (o : Option ℕ). unwrap_or o x ∷ updated_from (k + 1) xs f) a
    ∙ ap (λ (zs : List ℕ). y ∷ zs) (updated-all (k + 1) xs ys f (omega (arith, e)) (λ i l. let q : k + 1 + i ≡ k + suc i = omega arith in ap f q ∙ h (suc i) (omega (arith, l))))

pub updated_whole : UpdatedWhole
updated_whole xs ys f e h = updated-all 0 xs ys f e (λ i l. let z : 0 + i ≡ i = omega arith in ap f z ∙ h i l)

pub whole_values : WholeValuesAreTheData
whole_values w = updated_whole (zeros (length w.bytes)) w.bytes _ (length-replicate {A = ℕ} (length w.bytes) 0) (λ i l. from-inside w i l)

pub accesses_leave : AccessesLeave
unfolding physical_after
accesses_leave s w = record { read = refl; written = refl }
