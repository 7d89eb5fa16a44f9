-- A slave of the plan of an accepted table is of its type.
use Rattle.std.proofs.Common.{◌≡◌, ◌≢◌, ℕ, zero, suc, ◌<◌, ◌≤◌, List, [], ◌∷◌, length, get_or, refl, sym, ap, ◌∙◌, subst, arith, Some, None, Option, slice_get, unwrap_or, option_map, option_and_then, is_some, is_none, Bool, true, false, if◌then◌else◌, ◌+◌, ◌%◌, max, inl, inr, All}
use Rattle.std.specs.List.{Contains}
use Rattle.std.specs.Option.{ForSome}
use Rattle.std.proofs.lemmas.Bool.{cases_lt}
use Rattle.std.proofs.lemmas.Option.{slice_get_within, get_or_from_slice_get}
use Rattle.ec_device.specs.declared.slave_type.Pdo.{Pdo}
use Rattle.ec_device.specs.declared.slave_type.Face.{Face}
use Rattle.ec_device.specs.declared.hardware.Hardware.{Hardware}
use Rattle.ec_device.specs.Hardware.{IsHardware, is_assignable}
use Rattle.ec_device.specs.Parameters.{AreParameters}
use Rattle.ec_device.specs.Types.{SlaveKind, IsWithinLimits, plain_kind}
use Rattle.ec_device.specs.Objects.{bits_of, bits_assigned, assigned_entries}
use Rattle.ec_device.proofs.Objects.{bits_assigned_law}
use Rattle.ec_table.specs.declared.rows.Direction.{Direction}
use Rattle.ec_table.specs.declared.rows.Direction.TheVariants.{Out, In}
use Rattle.ec_table.specs.declared.rows.SlaveRow.{SlaveRow}
use Rattle.ec_table.specs.declared.rows.TypeRow.{TypeRow}
use Rattle.ec_table.specs.Contents.{Contents, pdos_toward, assigned_toward}
use Rattle.ec_table.specs.Objects.{type_of, face_of, kind_at, entries_of}
use Rattle.ec_table.specs.Objects as objects
use Rattle.ec_table.specs.Pdos.{indices_of}
use Rattle.ec_table.specs.Sound as table
use Rattle.ec_table.proofs.InitJoined.{downloads_fit}
use Rattle.ec_link.specs.declared.settings.SlavePlan.{SlavePlan}
use Rattle.ec_link.specs.declared.settings.Share.{Share}
use Rattle.ec_link.specs.Faults.{compile_fault}
use Rattle.ec_link.specs.Interface.{IsOfItsType, SlavesAreOfTheirTypes, OnePlanOneFormat, HardwareIsInWholeBytes}
use Rattle.ec_link.specs.Layout.{layout}
use Rattle.ec_link.specs.Meaning.{slave_at}
use Rattle.ec_link.specs.Plan.{plan_of, kind_of, part_plans}
use Rattle.ec_link.specs.SlavePlan.{fmmus_of}
use Rattle.ec_link.specs.declared.sizes.EntryBits.{EntryBits}
use Rattle.ec_link.specs.Sizes.{each_from, size_of, mapped_bits, hardware_of, slave_bits, table_sizes}
use Rattle.ec_link.proofs.MappedBits.{whole_bytes}
use Rattle.ec_link.proofs.WholeBytes.{AreWhole, layout_whole}
use Rattle.ec_link.specs.Sound.{AreSettings, IsSound}
use Rattle.ec_link.proofs.PlanLists.{no_row}
use Rattle.ec_link.proofs.PlanSound.{slave_is, share_is, bits_are, from_is}
use Rattle.ec_link.proofs.SlavesSound.{has_type, made_fmmus, its_hardware}
use Rattle.ec_link.proofs.Soundness.{plan_sound}
use Rattle.ec_link.proofs.UsableLaws.{row_at}

-- ---- once each of so many is at most so many

abbrev without : List ℕ → ℕ → List ℕ
without [] k = []
without (y ∷ ys) zero = ys
without (y ∷ ys) (suc k) = y ∷ without ys k

length-without : (ys : List ℕ) (k : ℕ) → k < length ys → length ys ≡ suc (length (without ys k))
length-without [] k l = absurd (omega (arith, l))
length-without (y ∷ ys) zero l = refl
length-without (y ∷ ys) (suc k) l = ap (λ (n : ℕ). suc n) (length-without ys k (omega (arith, l)))

still-in : (ys : List ℕ) (k m x z : ℕ) → k < length ys → m < length ys → get_or ys k x ≡ x → get_or ys m z ≡ z → x ≢ z → Contains (without ys k) z
still-in [] k m x z a b e f ne = absurd (omega (arith, a))
still-in (y ∷ ys) zero zero x z a b e f ne = absurd (ne (sym e ∙ f))
still-in (y ∷ ys) zero (suc m) x z a b e f ne = (m, omega (arith, b), f)
still-in (y ∷ ys) (suc k) zero x z a b e f ne = (0, omega arith, f)
still-in (y ∷ ys) (suc k) (suc m) x z a b e f ne = let r = still-in ys k m x z (omega (arith, a)) (omega (arith, b)) e f ne in (suc r.0, omega (arith, r.1), r.2)

few-once : (xs ys : List ℕ) → ((i j d : ℕ) → i < j → j < length xs → get_or xs i d ≢ get_or xs j d) → ((k d : ℕ) → k < length xs → Contains ys (get_or xs k d)) → length xs ≤ length ys
few-once [] ys once known = omega arith
few-once (x ∷ xs) ys once known =
    let c = known 0 x (omega arith) in
    let rest : length xs ≤ length (without ys c.0) = few-once xs (without ys c.0) (λ i j d a b. once (suc i) (suc j) d (omega (arith, a)) (omega (arith, b))) (λ k d l.
    let m = known (suc k) d (omega (arith, l)) in
    still-in ys c.0 m.0 x (get_or xs k d) c.1 m.1 c.2 m.2 (once 0 (suc k) d (omega arith) (omega (arith, l)))) in
    omega (arith, rest, length-without ys c.0 c.1)

length-indices : (ps : List Pdo) → length (indices_of ps) ≡ length ps
length-indices [] = refl
length-indices (p ∷ ps) = ap (λ (n : ℕ). suc n) (length-indices ps)

few-assigned : (assignable : Bool) (ps : List Pdo) (is : List ℕ) → table.IsAssignment assignable ps is → length is ≤ length ps
few-assigned assignable ps is a = omega (arith, few-once is (indices_of ps) (λ i j e lt b. a.once i j e lt b) (λ k e l. a.known k e l), length-indices ps)

-- ---- a slave

-- the kind of a slave is its type's
kind_told : (t : Contents) (s : ℕ) (k : TypeRow) → type_of t s ≡ Some k → kind_of t s ≡ kind_at t s k
kind_told t s k e = ap (λ (o : Option TypeRow). unwrap_or (option_map (kind_at t s) o) plain_kind) e

-- a type that says what it has of real devices has no face
no-face : (full : Bool) (o : Option Hardware) (f : Face) → is_some o ≡ true → (if full then (if is_none o then Some f else None) else None) ≡ None
no-face false o f h = refl
no-face true None f h = absurd (let z : false ≡ true = h in cc)
no-face true (Some x) f h = refl

entries-told : (t : Contents) (s : ℕ) (r : SlaveRow) (k : TypeRow) (d : Direction) → slice_get t.slaves s ≡ Some r → slice_get t.types r.type_index ≡ Some k → entries_of t s d ≡ assigned_entries (pdos_toward d k) (assigned_toward d r)
unfolding entries_of
entries-told t s r k d a b = rw (a, b) refl

type_there : (t : Contents) (s : ℕ) (r : SlaveRow) (k : TypeRow) → slice_get t.slaves s ≡ Some r → type_of t s ≡ Some k → slice_get t.types r.type_index ≡ Some k
type_there t s r k is type = ap (λ (o : Option SlaveRow). option_and_then (λ (q : SlaveRow). slice_get t.types q.type_index) o) (sym is) ∙ type

-- it is of the table's format
type_kept : (t : Contents) → table.IsSound t → (s : ℕ) (r : SlaveRow) (k : TypeRow) → slice_get t.slaves s ≡ Some r → type_of t s ≡ Some k → is_some k.hardware ≡ t.hardware
type_kept t sound s r k is type =
    let place = type_there t s r k is type in
    subst (λ (y : TypeRow). is_some y.hardware ≡ t.hardware) (get_or_from_slice_get t.types r.type_index k k place) (sound.format.types r.type_index k (slice_get_within t.types r.type_index k place))

module _ (t : Contents) (sound : table.IsSound t) (free : compile_fault t ≡ None) where
  own : IsSound t (plan_of t)
  own = plan_sound t sound free

  of_type : (s : ℕ) (r : SlaveRow) (k : TypeRow) → slice_get t.slaves s ≡ Some r → type_of t s ≡ Some k → table.IsType k → IsOfItsType (slave_at (plan_of t) s)
  of_type s r k is type good =
      let lt : s < length t.slaves = slice_get_within t.slaves s r is in
      let place = type_there t s r k is type in
      let set : AreSettings t (plan_of t) s r = own.each s r is in
      let x : SlavePlan = slave_at (plan_of t) s in
      let row : table.IsSlave t.version t.types r = subst (table.IsSlave t.version t.types) (get_or_from_slice_get t.slaves s r r is) (sound.slaves.each s r lt) in
      let kind : x.kind ≡ kind_at t s k = set.kind ∙ kind_told t s k type in
      let outputs : table.IsAssignment (is_assignable x.kind.mailbox x.kind.hardware) x.kind.outputs x.outputs
      = subst (λ (y : SlaveKind). table.IsAssignment (is_assignable y.mailbox y.hardware) y.outputs x.outputs) (sym kind) (subst (λ (xs : List ℕ). table.IsAssignment (is_assignable k.mailbox k.hardware) k.process.outputs xs) (sym set.outputs) (row.assigned k Out place)) in
      let inputs : table.IsAssignment (is_assignable x.kind.mailbox x.kind.hardware) x.kind.inputs x.inputs
      = subst (λ (y : SlaveKind). table.IsAssignment (is_assignable y.mailbox y.hardware) y.inputs x.inputs) (sym kind) (subst (λ (xs : List ℕ). table.IsAssignment (is_assignable k.mailbox k.hardware) k.process.inputs xs) (sym set.inputs) (row.assigned k In place)) in
      let hardware : x.kind.hardware ≡ k.hardware = ap (λ (y : SlaveKind). y.hardware) kind in
      let made : objects.kind_of t s ≡ Some (kind_at t s k) = ap (λ (o : Option TypeRow). option_map (kind_at t s) o) type in
      let out_bits : x.bits.outs ≡ bits_assigned k.process.outputs r.outputs
      = ap (λ (b : EntryBits). b.outs) (bits_are t s lt) ∙ (ap bits_of (entries-told t s r k Out is place) ∙ sym (bits_assigned_law k.process.outputs r.outputs)) in
      let in_bits : x.bits.ins ≡ bits_assigned k.process.inputs r.inputs
      = ap (λ (b : EntryBits). b.ins) (bits_are t s lt) ∙ (ap bits_of (entries-told t s r k In is place) ∙ sym (bits_assigned_law k.process.inputs r.inputs)) in
      let own_out_bits : x.bits.outs ≡ bits_assigned x.kind.outputs x.outputs
      = subst (λ (y : SlaveKind). x.bits.outs ≡ bits_assigned y.outputs x.outputs) (sym kind) (subst (λ (xs : List ℕ). x.bits.outs ≡ bits_assigned k.process.outputs xs) (sym set.outputs) out_bits) in
      let own_in_bits : x.bits.ins ≡ bits_assigned x.kind.inputs x.inputs
      = subst (λ (y : SlaveKind). x.bits.ins ≡ bits_assigned y.inputs x.inputs) (sym kind) (subst (λ (xs : List ℕ). x.bits.ins ≡ bits_assigned k.process.inputs xs) (sym set.inputs) in_bits) in
      record {
        device = subst (λ (y : SlaveKind). table.IsDevice y.device) (sym kind) good.device;
        limits = subst (λ (y : SlaveKind). IsWithinLimits y.mailbox y.outputs y.inputs) (sym kind) good.limits;
        starts = subst (λ (y : SlaveKind). ForSome y.mailbox table.HasMailboxStarts) (sym kind) good.mailbox;
        out_names = subst (λ (y : SlaveKind). All (λ (q : Pdo). All table.HasName q.entries) y.outputs) (sym kind) (good.entries Out);
        in_names = subst (λ (y : SlaveKind). All (λ (q : Pdo). All table.HasName q.entries) y.inputs) (sym kind) (good.entries In);
        outputs = outputs;
        inputs = inputs;
        few_outputs = few-assigned (is_assignable x.kind.mailbox x.kind.hardware) x.kind.outputs x.outputs outputs;
        few_inputs = few-assigned (is_assignable x.kind.mailbox x.kind.hardware) x.kind.inputs x.inputs inputs;
        out_bits = own_out_bits;
        in_bits = own_in_bits;
        outs = set.outs ∙ ap (mapped_bits x.kind.hardware) (sym set.out_bits ∙ own_out_bits);
        ins = set.ins ∙ ap (mapped_bits x.kind.hardware) (sym set.in_bits ∙ own_in_bits);
        few_outs = set.few_outs;
        few_ins = set.few_ins;
        fmmus = subst (λ (y : SlavePlan). y.fmmus ≡ fmmus_of y.from y.kind.out_start y.kind.in_start y.share.outs y.share.ins) (sym (slave_is t s lt))
            (made_fmmus t (part_plans t) (layout (table_sizes t)).seats s (get_or t.slaves s no_row));
        hardware = subst (λ (y : SlaveKind). ForSome y.hardware (IsHardware y.mailbox)) (sym kind) (λ h there. (good.hardware h there).limits);
        faceless = subst (λ (y : SlaveKind). is_some y.hardware ≡ true → y.face ≡ None) (sym kind) (no-face t.full k.hardware (face_of t s k));
        parameters = subst (λ (y : SlaveKind). AreParameters y.mailbox y.init) (sym kind) (downloads_fit.limits t s (kind_at t s k) sound made);
        plain = λ e. ap (λ (y : SlaveKind). y.init) kind ∙ downloads_fit.none t s (kind_at t s k) sound made (sym (type_kept t sound s r k is type) ∙ (sym (ap (λ (o : Option Hardware). is_some o) hardware) ∙ e));
      }

pub slaves_are_of_their_types : SlavesAreOfTheirTypes
slaves_are_of_their_types t sound free s l =
    let r = row_at t.slaves s (omega (arith, l, (plan_sound t sound free).as_many)) in
    let k = has_type t sound s r.0 r.1 in
    of_type t sound free s r.0 k.row r.1 k.is k.sound

-- ---- a format for all

pub one_format : OnePlanOneFormat
one_format t sound free s l =
    let r = row_at t.slaves s (omega (arith, l, (plan_sound t sound free).as_many)) in
    let k = has_type t sound s r.0 r.1 in
    let kind : (slave_at (plan_of t) s).kind ≡ kind_at t s k.row = ((plan_sound t sound free).each s r.0 r.1).kind ∙ kind_told t s k.row k.is in
    ap (λ (y : SlaveKind). is_some y.hardware) kind ∙ type_kept t sound s r.0 k.row r.1 k.is

-- ---- whole bytes

whole_if : (o : Option Hardware) (bits : ℕ) → is_some o ≡ true → mapped_bits o bits % 8 ≡ 0
whole_if None bits h = absurd (let z : false ≡ true = h in cc)
whole_if (Some x) bits h = whole_bytes x bits

larger_whole : (a b : ℕ) → a % 8 ≡ 0 → b % 8 ≡ 0 → max a b % 8 ≡ 0
larger_whole a b h k = elim (cases_lt a b) [
  | inl lt ↦ let e : max a b ≡ b = omega (arith, lt) in ap (λ (n : ℕ). n % 8) e ∙ k
  | inr ge ↦ let e : max a b ≡ a = omega (arith, ge) in ap (λ (n : ℕ). n % 8) e ∙ h
]

sizes_whole : (t : Contents) (n : ℕ) (rs : List SlaveRow) → ((k : ℕ) → k < length rs → is_some (hardware_of t (n + k)) ≡ true) → AreWhole (each_from (size_of t) n rs)
sizes_whole t n [] h = tt
sizes_whole t n (r ∷ rs) h =
    let here : is_some (hardware_of t n) ≡ true = subst (λ (m : ℕ). is_some (hardware_of t m) ≡ true) (omega arith) (h 0 (omega arith)) in (
      larger_whole (slave_bits t n Out) (slave_bits t n In) (whole_if (hardware_of t n) _ here) (whole_if (hardware_of t n) _ here),
      sizes_whole t (n + 1) rs (λ k lt. subst (λ (m : ℕ). is_some (hardware_of t m) ≡ true) (omega arith) (h (suc k) (omega (arith, lt)))),
    )

pub in_whole_bytes : HardwareIsInWholeBytes
in_whole_bytes t sound free hardware s l =
    let own = plan_sound t sound free in
    let each : (k : ℕ) → k < length t.slaves → is_some (hardware_of t k) ≡ true
    = λ k lt.
    let r = row_at t.slaves k lt in
    let y = has_type t sound k r.0 r.1 in
    ap (λ (o : Option Hardware). is_some o) (its_hardware t k y.row y.is) ∙ (type_kept t sound k r.0 y.row r.1 y.is ∙ hardware) in
    let lt : s < length t.slaves = omega (arith, l, own.as_many) in
    let whole = layout_whole (table_sizes t) (sizes_whole t 0 t.slaves (λ k below. subst (λ (m : ℕ). is_some (hardware_of t m) ≡ true) (omega arith) (each k below))) in
    record {
      from = omega (arith, from_is t s lt, whole.seats s);
      outs = ap (λ (h : Share). h.outs % 8) (share_is t s lt) ∙ whole_if (hardware_of t s) _ (each s lt);
      ins = ap (λ (h : Share). h.ins % 8) (share_is t s lt) ∙ whole_if (hardware_of t s) _ (each s lt);
    }
