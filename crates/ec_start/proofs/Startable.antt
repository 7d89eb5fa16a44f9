-- A slave of a plan, of a type of its table, can be started up.
use Rattle.std.proofs.Common.{◌≡◌, ℕ, zero, suc, ◌+◌, ◌*◌, ◌^◌, ◌<◌, ◌≤◌, ◌==◌, ◌⊎◌, Bool, true, false, if◌then◌else◌, List, [], ◌∷◌, ◌++◌, length, get_or, refl, sym, ap, ◌∙◌, subst, arith, inl, inr, Some, None, Option, eqb, All}
use Rattle.std.specs.List.{flat_map}
use Rattle.std.proofs.lemmas.Bool.{cases_Bool, cases_lt, false≢true}
use Rattle.ec_bits.specs.Bits.{within, bytes_of_bits}
use Rattle.ec_bits.proofs.AnyLaws.{within_true}
use Rattle.ec_regs.specs.declared.manager.SyncManagerSettings.{SyncManagerSettings}
use Rattle.ec_device.specs.declared.slave_type.Mailbox.{Mailbox}
use Rattle.ec_device.specs.declared.slave_type.Entry.{Entry}
use Rattle.ec_device.specs.declared.parameter.Parameter.{Parameter}
use Rattle.ec_device.specs.declared.parameter.ParameterSize.{ParameterSize}
use Rattle.ec_device.specs.declared.parameter.ParameterSize.TheVariants.{One, Two, Four}
use Rattle.ec_device.specs.Parameters.{IsParameter, bit_count}
use Rattle.ec_device.specs.declared.slave_type.Pdo.{Pdo}
use Rattle.ec_regs.specs.Managers.{no_settings, area_settings, is_set, span, mailbox_out_control, mailbox_in_control}
use Rattle.ec_device.specs.declared.hardware.Hardware.{Hardware}
use Rattle.ec_device.specs.Hardware.{IsHardware, is_fixed, is_assignable, fmmu_count, in_manager, out_manager}
use Rattle.ec_device.proofs.Naming.{numbered_law}
use Rattle.std.specs.Option.{ForSome}
use Rattle.ec_device.specs.Types.{IsMailbox, IsPdo, ArePdos, first_output_index, first_input_index}
use Rattle.ec_table.specs.Pdos.{indices_of}
use Rattle.ec_table.specs.Sound as table
use Rattle.ec_link.specs.SlavePlan.{process_manager, receive_manager, send_manager}
use Rattle.ec_link.specs.Sound.{manager_of, fmmu_of}
use Rattle.ec_coe.specs.Objects.{has_some, entry_number, byte_value, word_value, long_value, output_assignment, input_assignment}
use Rattle.ec_coe.specs.Messages.{size_number}
use Rattle.ec_coe.specs.SwitchedOn.{value_size}
use Rattle.ec_coe.specs.declared.value.SdoValue.{SdoValue}
use Rattle.ec_device.specs.Objects.{pdo_at}
use Rattle.ec_start.specs.declared.action.SdoRequest.{SdoRequest}
use Rattle.ec_start.specs.Scripts.{uploads, downloads, parameters_written, entries_read, pdo_read, slots_written, count_written, assignment_written, slots_read, assignment_of, pdo_requests}
use Rattle.ec_start.specs.Planned.{AreMailboxes, IsRequest, AreRequests}
use Rattle.ec_start.specs.Interface.{PlannedSlavesAreStartable}

-- ---- requests

good-append : (xs ys : List SdoRequest) → AreRequests xs → AreRequests ys → AreRequests (xs ++ ys)
good-append [] ys a b = b
good-append (x ∷ xs) ys a b = (a.0, good-append xs ys a.1 b)

uploaded : (index subindex : ℕ) (v : SdoValue) → index < 65536 → subindex < 256 → IsRequest (uploads index subindex v)
uploaded index subindex v a b = record { index = a; subindex = b; transfer = tt }

set_byte : (index subindex value : ℕ) → index < 65536 → subindex < 256 → value < 256 → IsRequest (downloads index subindex (byte_value value))
set_byte index subindex value a b c = record { index = a; subindex = b; transfer = c }

set_word : (index subindex value : ℕ) → index < 65536 → subindex < 256 → value < 65536 → IsRequest (downloads index subindex (word_value value))
set_word index subindex value a b c = record { index = a; subindex = b; transfer = c }

entries-good : (index k : ℕ) (es : List Entry) → index < 65536 → k + length es ≤ 256 → AreRequests (entries_read index k es)
entries-good index k [] a b = tt
entries-good index k (e ∷ es) a b = (uploaded index k (long_value (entry_number e)) a (omega (arith, b)), entries-good index (k + 1) es a (omega (arith, b)))

pdo-good : (q : Pdo) → q.index < 65536 → length q.entries ≤ 64 → AreRequests (pdo_read (Some q))
pdo-good q a b = (uploaded q.index 0 (byte_value (length q.entries)) a (omega arith), entries-good q.index 1 q.entries a (omega (arith, b)))

named-good : (first : ℕ) (pdos : List Pdo) → first + 512 ≤ 65536 → All (IsPdo first) pdos → (index : ℕ) → AreRequests (pdo_read (pdo_at pdos index))
named-good first [] low h index = tt
named-good first (q ∷ pdos) low h index =
    let one = h 0 q (omega arith) in
    elim (cases_Bool (eqb q.index index)) [
      | inl on ↦ rw on (pdo-good q (omega (arith, one.below, low)) one.few)
      | inr off ↦ rw off (named-good first pdos low (λ k e l. h (suc k) e (omega (arith, l))) index)
    ]

read-good : (first : ℕ) (pdos : List Pdo) → first + 512 ≤ 65536 → All (IsPdo first) pdos → (is : List ℕ) → AreRequests (flat_map (λ index. pdo_read (pdo_at pdos index)) is)
read-good first pdos low h [] = tt
read-good first pdos low h (i ∷ is) = good-append (pdo_read (pdo_at pdos i)) _ (named-good first pdos low h i) (read-good first pdos low h is)

slots-good : (object k : ℕ) (is : List ℕ) → object < 65536 → k + length is ≤ 256 → ((j d : ℕ) → j < length is → get_or is j d < 65536) → AreRequests (slots_written object k is)
slots-good object k [] a b h = tt
slots-good object k (i ∷ is) a b h = (set_word object k i a (omega (arith, b)) (h 0 i (omega arith)), slots-good object (k + 1) is a (omega (arith, b)) (λ j d l. h (suc j) d (omega (arith, l))))

count-good : (object : ℕ) (is : List ℕ) → object < 65536 → length is ≤ 16 → ((j d : ℕ) → j < length is → get_or is j d < 65536) → AreRequests (count_written object is)
count-good object [] a b h = tt
count-good object (i ∷ is) a b h = good-append (slots_written object 1 (i ∷ is)) _ (slots-good object 1 (i ∷ is) a (omega (arith, b)) h) (set_byte object 0 (length (i ∷ is)) a (omega arith) (omega (arith, b)), tt)

written-good : (object : ℕ) (is : List ℕ) (some : Bool) → object < 65536 → length is ≤ 16 → ((j d : ℕ) → j < length is → get_or is j d < 65536) → AreRequests (assignment_written object is some)
written-good object is false a b h = tt
written-good object is true a b h = (set_byte object 0 0 a (omega arith) (omega arith), count-good object is a b h)

read-slots-good : (object k : ℕ) (is : List ℕ) → object < 65536 → k + length is ≤ 256 → AreRequests (slots_read object k is)
read-slots-good object k [] a b = tt
read-slots-good object k (i ∷ is) a b = (uploaded object k (word_value i) a (omega (arith, b)), read-slots-good object (k + 1) is a (omega (arith, b)))

assigned-good : (fixed : Bool) (object : ℕ) (is : List ℕ) (some : Bool) → object < 65536 → length is ≤ 16 → ((j d : ℕ) → j < length is → get_or is j d < 65536) → AreRequests (assignment_of fixed object is some)
assigned-good false object is some a b h = written-good object is some a b h
assigned-good true object is false a b h = tt
assigned-good true object is true a b h = (uploaded object 0 (byte_value (length is)) a (omega arith), read-slots-good object 1 is a (omega (arith, b)))

-- a parameter has the bits of its size
fits-size : (size : ParameterSize) (value : ℕ) → value < 2 ^ bit_count size → value < 2 ^ (8 * size_number (value_size size))
fits-size One value h = h
fits-size Two value h = h
fits-size Four value h = h

parameters-good : (qs : List Parameter) → All IsParameter qs → AreRequests (parameters_written qs)
parameters-good [] h = tt
parameters-good (q ∷ qs) h =
    let one = h 0 q (omega arith) in
    (record { index = one.index; subindex = one.subindex; transfer = fits-size q.size q.value one.value }, parameters-good qs (λ k d l. h (suc k) d (omega (arith, l))))

-- ---- an assignment

index-low : (first : ℕ) (ps : List Pdo) → first + 512 ≤ 65536 → All (IsPdo first) ps → (k x : ℕ) → k < length (indices_of ps) → get_or (indices_of ps) k x < 65536
index-low first [] low h k x l = absurd (omega (arith, l))
index-low first (p ∷ ps) low h zero x l = let one = h 0 p (omega arith) in omega (arith, one.below, low)
index-low first (p ∷ ps) low h (suc k) x l = index-low first ps low (λ j e b. h (suc j) e (omega (arith, b))) k x (omega (arith, l))

low-assigned : (first : ℕ) (assignable : Bool) (ps : List Pdo) (is : List ℕ) → first + 512 ≤ 65536 → ArePdos first ps → table.IsAssignment assignable ps is → (j e : ℕ) → j < length is → get_or is j e < 65536
low-assigned first assignable ps is low h a j e l =
    let c = a.known j e l in
    let small = index-low first ps low h.each c.0 (get_or is j e) c.1 in omega (arith, small, c.2)

none-assigned : (assignable : Bool) (ps : List Pdo) (is : List ℕ) → table.IsAssignment assignable ps is → has_some ps ≡ false → is ≡ []
none-assigned assignable [] [] a e = refl
none-assigned assignable [] (i ∷ is) a e = absurd (let c = a.known 0 i (omega arith) in omega (arith, c.1))
none-assigned assignable (p ∷ ps) is a e = absurd (false≢true (sym e))

-- ---- managers and FMMUs

unset-process : (start bits control : ℕ) → ((process_manager start bits control).activate == 0) ≡ true → process_manager start bits control ≡ no_settings
unset-process start bits control e = go (bits == 0) e
  where
    go : (b : Bool) → (let x : SyncManagerSettings = if b then no_settings else area_settings start (bytes_of_bits bits) control in x.activate == 0) ≡ true → (let x : SyncManagerSettings = if b then no_settings else area_settings start (bytes_of_bits bits) control in x) ≡ no_settings
    go true q = refl
    go false q = absurd (let z : false ≡ true = q in cc)

set-or : (m : SyncManagerSettings) (x : SyncManagerSettings) → m ≡ x → 0 < x.length → (m ≡ no_settings) ⊎ (is_set m ≡ true) → is_set x ≡ true
set-or m x e some (inl none) = absurd (let z : x.length ≡ 0 = ap (λ (y : SyncManagerSettings). y.length) (sym e ∙ none) in omega (arith, z, some))
set-or m x e some (inr set) = ap is_set (sym e) ∙ set

boxes : (b : Mailbox) (m0 m1 : SyncManagerSettings) → IsMailbox b → m0 ≡ receive_manager (Some b) → m1 ≡ send_manager (Some b)
    → (m0 ≡ no_settings) ⊎ (is_set m0 ≡ true) → (m1 ≡ no_settings) ⊎ (is_set m1 ≡ true)
    → ((a : ℕ) → within m0.start (span m0) a ≡ true → within m1.start (span m1) a ≡ true → ⊥) → AreMailboxes b (m0 ∷ m1 ∷ no_settings ∷ no_settings ∷ [])
boxes b m0 m1 good e0 e1 s0 s1 apart =
    let r : SyncManagerSettings = area_settings b.receive_start b.receive_size mailbox_out_control in
    let s : SyncManagerSettings = area_settings b.send_start b.send_size mailbox_in_control in
    let lr = good.receive_some in
    let ls = good.send_some in
    let no : (a : ℕ) → within b.receive_start b.receive_size a ≡ true → within b.send_start b.send_size a ≡ true → ⊥
    = λ a x y. apart a (subst (λ (m : SyncManagerSettings). within m.start (span m) a ≡ true) (sym e0) x) (subst (λ (m : SyncManagerSettings). within m.start (span m) a ≡ true) (sym e1) y) in
    let side : (b.receive_start + b.receive_size ≤ b.send_start) ⊎ (b.send_start + b.send_size ≤ b.receive_start)
    = elim (cases_lt b.send_start (b.receive_start + b.receive_size)) as (λ _. (b.receive_start + b.receive_size ≤ b.send_start) ⊎ (b.send_start + b.send_size ≤ b.receive_start)) [
      | inr far ↦ inl far
      | inl near ↦ elim (cases_lt b.receive_start (b.send_start + b.send_size)) as (λ _. (b.receive_start + b.receive_size ≤ b.send_start) ⊎ (b.send_start + b.send_size ≤ b.receive_start)) [
        | inr far ↦ inr far
        | inl close ↦ elim (cases_lt b.receive_start b.send_start) [
          | inl before ↦ absurd (no b.send_start (within_true b.receive_start b.receive_size b.send_start (omega (arith, before)) near) (within_true b.send_start b.send_size b.send_start (omega arith) (omega (arith, ls))))
          | inr after ↦ absurd (no b.receive_start (within_true b.receive_start b.receive_size b.receive_start (omega arith) (omega (arith, lr))) (within_true b.send_start b.send_size b.receive_start after close))
        ]
      ]
    ] in
    subst (λ (m : SyncManagerSettings). AreMailboxes b (m ∷ m1 ∷ no_settings ∷ no_settings ∷ [])) (sym e0) (subst (λ (m : SyncManagerSettings). AreMailboxes b (r ∷ m ∷ no_settings ∷ no_settings ∷ [])) (sym e1) (record {
      receive_start = refl;
      receive_length = refl;
      receive_mailbox = refl;
      receive_written = refl;
      receive_set = set-or m0 r e0 (omega (arith, lr)) s0;
      send_start = refl;
      send_length = refl;
      send_mailbox = refl;
      send_read = refl;
      send_set = set-or m1 s e1 (omega (arith, ls)) s1;
      apart = side;
      receive_some = lr;
      send_some = ls;
      no_outputs = refl;
      no_inputs = refl;
    }))

enough-fmmus : (mailbox : Option Mailbox) (o : Option Hardware) → ForSome o (IsHardware mailbox) → 2 ≤ fmmu_count o
enough-fmmus mailbox None h = omega arith
enough-fmmus mailbox (Some k) h = (h k refl).some_fmmus

-- ---- a slave of a plan

pub startable : PlannedSlavesAreStartable
startable x ms listed type plain =
    let outs = type.limits.outputs in
    let ins = type.limits.inputs in
    let few_outs : length x.outputs ≤ 16 = omega (arith, type.few_outputs, outs.few) in
    let few_ins : length x.inputs ≤ 16 = omega (arith, type.few_inputs, ins.few) in
    record {
      m0 = manager_of x 0;
      m1 = manager_of x 1;
      m2 = process_manager x.kind.out_start x.share.outs (out_manager x.kind.hardware).control;
      m3 = process_manager x.kind.in_start x.share.ins (in_manager x.kind.hardware).control;
      managers = listed.managers;
      f0 = fmmu_of x 0;
      f1 = fmmu_of x 1;
      fmmus = listed.fmmus;
      no_mailbox = λ e. (ms.receive ∙ ap receive_manager e, ms.send ∙ ap send_manager e);
      mailbox = λ b e. boxes b (manager_of x 0) (manager_of x 1) (type.limits.mailbox b e) (ms.receive ∙ ap receive_manager e) (ms.send ∙ ap send_manager e) (ms.in_ram 0 (omega arith)) (ms.in_ram 1 (omega arith)) (λ a p q. ms.apart 0 1 a (omega arith) (omega arith) p q);
      no_outputs = unset-process x.kind.out_start x.share.outs (out_manager x.kind.hardware).control;
      no_inputs = unset-process x.kind.in_start x.share.ins (in_manager x.kind.hardware).control;
      no_out_fmmu = plain.idle 0 (omega arith);
      no_in_fmmu = plain.idle 1 (omega arith);
      readable = plain.readable;
      numbered = numbered_law x.kind.mailbox x.kind.hardware type.hardware;
      has_fmmus = enough-fmmus x.kind.mailbox x.kind.hardware type.hardware;
      faceless = type.faceless;
      requests = good-append (parameters_written x.kind.init) (pdo_requests x) (parameters-good x.kind.init type.parameters.each)
          (good-append (flat_map (λ index. pdo_read (pdo_at x.kind.outputs index)) x.outputs) _ (read-good first_output_index x.kind.outputs (omega arith) outs.each x.outputs)
          (good-append (flat_map (λ index. pdo_read (pdo_at x.kind.inputs index)) x.inputs) _ (read-good first_input_index x.kind.inputs (omega arith) ins.each x.inputs)
          (good-append (assignment_of (is_fixed x.kind.hardware) output_assignment x.outputs (has_some x.kind.outputs)) _ (assigned-good (is_fixed x.kind.hardware) output_assignment x.outputs (has_some x.kind.outputs) (omega arith) few_outs (low-assigned first_output_index (is_assignable x.kind.mailbox x.kind.hardware) x.kind.outputs x.outputs (omega arith) outs type.outputs))
          (assigned-good (is_fixed x.kind.hardware) input_assignment x.inputs (has_some x.kind.inputs) (omega arith) few_ins (low-assigned first_input_index (is_assignable x.kind.mailbox x.kind.hardware) x.kind.inputs x.inputs (omega arith) ins type.inputs)))));
      parameters = type.parameters;
      all_assigned = λ e. (type.outputs.fixed e, type.inputs.fixed e);
      no_outs = none-assigned (is_assignable x.kind.mailbox x.kind.hardware) x.kind.outputs x.outputs type.outputs;
      no_ins = none-assigned (is_assignable x.kind.mailbox x.kind.hardware) x.kind.inputs x.inputs type.inputs;
    }
