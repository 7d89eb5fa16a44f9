-- The plan of a table without faults is complete: an undisturbed start-up of it ends Ready.
use Rattle.ec_bringup.proofs.Words.{◌≡◌, ◌≢◌, ℕ, zero, suc, Bool, ◌%◌, ◌<◌, ◌≤◌, ◌==◌, ◌&&◌, ◌⊎◌, true, false, List, [], ◌∷◌, length, get_or, refl, sym, ap, ◌∙◌, subst, arith, inl, inr, Some, None, Option, eqb, All, Contains, cases_Bool, eq-eqb, ne_eqb, false≢true, bytes_of_bits, SyncManagerSettings, Mailbox, Entry, Pdo, FmmuSettings, no_fmmu, run_settings, no_settings, area_settings, is_set, SlaveKind, IsEntry, IsMailbox, ArePdos, first_output_index, first_input_index, indices_of, SlavePlan, process_manager, fmmus_of, manager_of, AreManagers, IsOfItsType, plan_of, IsUsable, listed, slaves_are_of_their_types, plan_usable, fmmu_at, IsFmmu, IsStartable, startable, link_slave_at as slave_at, pdo_at, bits_assigned, contains, distinct, CompiledPlansLaw, IsNumbered, CanReach, IsOffered, AreOffered, IsAssignable, IsComplete, carries, cases_eq, if_true, if_false, is_some, is_hardware, Hardware, slow}
use Rattle.std.specs.Option.{ForSome}
use Rattle.ec_device.specs.Hardware.{IsHardware, is_assignable, out_manager, in_manager}
use Rattle.ec_link.specs.Sizes.{HasRoom}
use Rattle.ec_link.specs.Meaning.{no_slave}
use Rattle.ec_link.proofs.MappedBits.{room_law}
use Rattle.ec_link.proofs.OfTypes.{one_format}
use Rattle.ec_bringup.proofs.OneFrame.FeedLaw.{out-mode, in-mode}
use Rattle.ec_bringup.proofs.Script.FeedsOfPlans.{parts_can_be_fed, parts_are_predicted}
use Rattle.ec_table.specs.Sound as table
use Rattle.ec_bringup.proofs.Mailbox.PdosOffered.{offers-output, offers-input}

-- ---- an assignment

named : (ps : List Pdo) (k x : ℕ) → k < length (indices_of ps) → get_or (indices_of ps) k x ≡ x → (p : Pdo) × (pdo_at ps x ≡ Some p)
named [] k x l e = absurd (omega (arith, l))
named (p ∷ ps) zero x l e = (p, rw (eq-eqb p.index x e) refl)
named (p ∷ ps) (suc k) x l e = elim (cases_Bool (eqb p.index x)) [
  | inl on ↦ (p, rw on refl)
  | inr off ↦ let r = named ps k x (omega (arith, l)) e in (r.0, rw off (r.1))
]

offered : (kind : SlaveKind) (ps : List Pdo) (xs : List ℕ) → ((x : ℕ) (p : Pdo) → pdo_at ps x ≡ Some p → IsOffered kind ps x) → All (Contains (indices_of ps)) xs → AreOffered kind ps xs
offered kind ps [] f h = tt
offered kind ps (x ∷ xs) f h =
    let c = h 0 x (omega arith) in
    let n = named ps c.0 x c.1 c.2 in
    (f x n.0 n.1, offered kind ps xs f (λ k d l. h (suc k) d (omega (arith, l))))

not-in : (xs : List ℕ) (x : ℕ) → ((k d : ℕ) → k < length xs → x ≢ get_or xs k d) → contains xs x ≡ false
not-in [] x h = refl
not-in (y ∷ ys) x h =
    let off : eqb y x ≡ false = ne_eqb y x (λ e. h 0 x (omega arith) (sym e)) in
    rw off (not-in ys x (λ k d l. h (suc k) d (omega (arith, l))))

once-distinct : (xs : List ℕ) → table.IsOnce xs → distinct xs ≡ true
once-distinct [] h = refl
once-distinct (x ∷ xs) h =
    let off : contains xs x ≡ false = not-in xs x (λ k d l. h 0 (suc k) d (omega arith) (omega (arith, l))) in
    rw off (once-distinct xs (λ i j d a b. h (suc i) (suc j) d (omega (arith, a)) (omega (arith, b))))

assignable : (kind : SlaveKind) (ps : List Pdo) (xs : List ℕ) → ((x : ℕ) (p : Pdo) → pdo_at ps x ≡ Some p → IsOffered kind ps x) → length ps ≤ 16
    → table.IsAssignment (is_assignable kind.mailbox kind.hardware) ps xs → length xs ≤ length ps → bits_assigned ps xs ≤ 2048 → IsAssignable kind ps xs
assignable kind ps xs f few a no_more bits = record { offered = offered kind ps xs f a.known; apart = once-distinct xs a.once; few = no_more; short = omega (arith, no_more, few); bits = bits }

-- ---- a manager

same-all : (start b c low : ℕ) → c % 16 ≡ low → ((start == start) && ((b == b) && (c % 16 == low))) ≡ true
same-all start b c low e = rw (eq-eqb start start refl, eq-eqb b b refl, eq-eqb (c % 16) low e) refl

is-there : (m x : SyncManagerSettings) → m ≡ x → x.activate ≡ 1 → (m ≡ no_settings) ⊎ (is_set m ≡ true) → is_set m ≡ true
is-there m x e one (inl none) = absurd (let z : x.activate ≡ 0 = ap (λ (y : SyncManagerSettings). y.activate) (sym e ∙ none) in omega (arith, z, one))
is-there m x e one (inr set) = set

carried : (m : SyncManagerSettings) (start bits c low : ℕ) → m ≡ process_manager start bits c → (m ≡ no_settings) ⊎ (is_set m ≡ true) → c % 16 ≡ low → carries m bits start low ≡ true
carried m start bits c low e s same = elim (cases_Bool (eqb bits 0)) [
  | inl none ↦ let z : m ≡ no_settings = rw none at e in rw none (ap (λ (y : SyncManagerSettings). y.activate % 2 == 0) z)
  | inr some ↦
      let x : SyncManagerSettings = area_settings start (bytes_of_bits bits) c in
      let z : m ≡ x = rw some at e in
      let set : is_set m ≡ true = is-there m x z refl s in
      let rest : ((m.start == start) && ((m.length == bytes_of_bits bits) && (m.control % 16 == low))) ≡ true
      = subst (λ (y : SyncManagerSettings). ((y.start == start) && ((y.length == bytes_of_bits bits) && (y.control % 16 == low))) ≡ true) (sym z) (same-all start (bytes_of_bits bits) c low same) in
      rw (some, set) rest
]

-- whole bytes carry the bits that lie in them
carries-mapped : (m : SyncManagerSettings) (mapped bits start low : ℕ) → HasRoom mapped bits → carries m mapped start low ≡ true → carries m bits start low ≡ true
carries-mapped m mapped bits start low room h = elim (cases_eq bits 0) [
  | inl z ↦
      let none : eqb mapped 0 ≡ true = eq-eqb mapped 0 (room.none z) in
      if_true (eqb bits 0) (m.activate % 2 == 0) _ (eq-eqb bits 0 z) ∙ (sym (if_true (eqb mapped 0) (m.activate % 2 == 0) _ none) ∙ h)
  | inr ne ↦
      let some : eqb mapped 0 ≡ false = ne_eqb mapped 0 (λ z. ne (let r = room.room in omega (arith, r, z))) in
      let on : (is_set m && ((m.start == start) && ((m.length == bytes_of_bits mapped) && (m.control % 16 == low)))) ≡ true = sym (if_false (eqb mapped 0) (m.activate % 2 == 0) _ some) ∙ h in
      if_false (eqb bits 0) (m.activate % 2 == 0) _ (ne_eqb bits 0 ne)
      ∙ subst (λ (n : ℕ). (is_set m && ((m.start == start) && ((m.length == n) && (m.control % 16 == low)))) ≡ true) room.bytes on
]

-- ---- a slave of a plan

reached : (o : Option Mailbox) → ((m : Mailbox) → o ≡ Some m → IsMailbox m) → ((m : Mailbox) → o ≡ Some m → table.HasMailboxStarts m) → CanReach o
reached None h k = tt
reached (Some b) h k =
    let g = h b refl in
    let s = k b refl in
    record {
      receive = let a = s.receive in omega (arith, a);
      receive_few = g.receive_few;
      receive_some = g.receive_some;
      send = let a = s.send in omega (arith, a);
      send_few = g.send_few;
    }

-- an entry within its ranges is a number of 32 bits
numbered : (e : Entry) → IsEntry e → table.HasName e → IsNumbered e
numbered e h n = let a = h.few in let b = n.index in let c = n.subindex in omega (arith, a, b, c)

pub all-numbered : (first : ℕ) (ps : List Pdo) → ArePdos first ps → All (λ (q : Pdo). All table.HasName q.entries) ps → All (λ (q : Pdo). All IsNumbered q.entries) ps
all-numbered first ps h n k d l j e b = numbered (get_or (get_or ps k d).entries j e) ((h.each k d l).entries j e b) (n k d l j e b)

-- what its type says of real devices
slow-few : (m : Option Mailbox) (o : Option Hardware) → ForSome o (IsHardware m) → slow o ≤ 100
slow-few m None h = omega arith
slow-few m (Some x) h = (h x refl).slow

complete : (x : SlavePlan) → AreManagers x → IsOfItsType x → IsComplete x
complete x ms type =
    let limits = type.limits in
    let o = x.kind.hardware in
    let out_room : HasRoom x.share.outs (bits_assigned x.kind.outputs x.outputs) = subst (λ (n : ℕ). HasRoom n (bits_assigned x.kind.outputs x.outputs)) (sym type.outs) (room_law o (bits_assigned x.kind.outputs x.outputs)) in
    let in_room : HasRoom x.share.ins (bits_assigned x.kind.inputs x.inputs) = subst (λ (n : ℕ). HasRoom n (bits_assigned x.kind.inputs x.inputs)) (sym type.ins) (room_law o (bits_assigned x.kind.inputs x.inputs)) in
    let out_bits : bits_assigned x.kind.outputs x.outputs ≤ 2048 = let r = out_room.room in let f = type.few_outs in omega (arith, r, f) in
    let in_bits : bits_assigned x.kind.inputs x.inputs ≤ 2048 = let r = in_room.room in let f = type.few_ins in omega (arith, r, f) in
    record {
      identity = record { vendor = let a = type.device.vendor in omega (arith, a); product = let a = type.device.product in omega (arith, a); revision = let a = type.device.revision in omega (arith, a) };
      reach = reached x.kind.mailbox limits.mailbox type.starts;
      outs = assignable x.kind x.kind.outputs x.outputs (λ i p e. offers-output x.kind i p limits (all-numbered first_output_index x.kind.outputs limits.outputs type.out_names) e) limits.outputs.few type.outputs type.few_outputs out_bits;
      ins = assignable x.kind x.kind.inputs x.inputs (λ i p e. offers-input x.kind i p limits (all-numbered first_input_index x.kind.inputs limits.inputs type.in_names) e) limits.inputs.few type.inputs type.few_inputs in_bits;
      plain = λ e. type.plain (ap is_some e);
      slow = slow-few x.kind.mailbox x.kind.hardware type.hardware;
      no_out_bits = λ z. let r = out_room.room in omega (arith, r, z);
      out_carried = carries-mapped (manager_of x 2) x.share.outs (bits_assigned x.kind.outputs x.outputs) x.kind.out_start 4 out_room
          (carried (manager_of x 2) x.kind.out_start x.share.outs (out_manager o).control 4 ms.outputs (ms.in_ram 2 (omega arith)) (out-mode x.kind.mailbox o ms.hardware));
      in_carried = carries-mapped (manager_of x 3) x.share.ins (bits_assigned x.kind.inputs x.inputs) x.kind.in_start 0 in_room
          (carried (manager_of x 3) x.kind.in_start x.share.ins (in_manager o).control 0 ms.inputs (ms.in_ram 3 (omega arith)) (in-mode x.kind.mailbox o ms.hardware));
    }

-- ---- its FMMUs

record IsPlain (f : FmmuSettings) : Type 0 where
  readable : IsFmmu f
  idle : f.active ≡ false → f ≡ no_fmmu

none-plain : IsPlain no_fmmu
none-plain = record { readable = record { start = omega arith; stop = omega arith; physical = omega arith }; idle = λ e. refl }

run-plain : (reads writes : Bool) (from bits start : ℕ) → IsPlain (run_settings reads writes from bits start)
unfolding run_settings
run-plain reads writes from bits start = elim (cases_Bool (eqb bits 0)) [
  | inl none ↦ rw none none-plain
  | inr some ↦ rw some (record { readable = record { start = omega arith; stop = omega arith; physical = omega arith }; idle = λ e. absurd (false≢true (sym e)) })
]

all-plain : (from out_start in_start outs ins n : ℕ) → IsPlain (fmmu_at (fmmus_of from out_start in_start outs ins) n)
all-plain from out_start in_start outs ins zero = run-plain false true from outs out_start
all-plain from out_start in_start outs ins (suc zero) = run-plain true false from ins in_start
all-plain from out_start in_start outs ins (suc (suc (suc (suc n)))) = none-plain
all-plain from out_start in_start outs ins _ = none-plain

-- ---- of a table without faults

pub are-plans : CompiledPlansLaw
are-plans t sound free = record {
  plans = record {
    planned = planned;
    complete = λ s l. complete (slave_at (plan_of t) s) (usable.managers s l) (slaves_are_of_their_types t sound free s l);
    alike = λ s l. one_format t sound free s l ∙ sym (format-of (plan_of t).slaves t.hardware (omega (arith, l)) (λ k b. one_format t sound free k b));
  };
  feeds = parts_can_be_fed (plan_of t) usable planned;
  predicted = parts_are_predicted (plan_of t) usable;
}
  where
    -- the format is that of the first slave
    format-of : (ps : List SlavePlan) (b : Bool) → 0 < length ps → ((k : ℕ) → k < length ps → is_some (get_or ps k no_slave).kind.hardware ≡ b) → is_hardware ps ≡ b
    format-of [] b l h = absurd (omega (arith, l))
    format-of (x ∷ ps) b l h = h 0 (omega arith)

    usable : IsUsable (plan_of t)
    usable = plan_usable t sound free

    planned : (s : ℕ) → s < length (plan_of t).slaves → IsStartable (slave_at (plan_of t) s)
    planned s l =
        let x : SlavePlan = slave_at (plan_of t) s in
        let type = slaves_are_of_their_types t sound free s l in
        let plain : (n : ℕ) → IsPlain (fmmu_at x.fmmus n)
        = λ n. subst (λ fs. IsPlain (fmmu_at fs n)) (sym type.fmmus) (all-plain x.from x.kind.out_start x.kind.in_start x.share.outs x.share.ins n) in
        startable x (usable.managers s l) (listed (plan_of t) usable s l) type (record { readable = λ n b. (plain n).readable; idle = λ n b. (plain n).idle })
