-- A sound table, written out, is read: types, slaves, links, the document.
use Rattle.std.proofs.Common.{◌≡◌, ◌≢◌, ℕ, ◌+◌, ◌≤◌, Bool, true, false, ◌&&◌, ◌||◌, ◌==◌, nat_le, is_some, is_none, not, List, [], ◌∷◌, get_or, map, Ok, Option, Some, None, All, refl, sym, ◌∙◌, ap, codes, arith, add-one}
use Rattle.std.specs.List.{list_any}
use Rattle.std.proofs.lemmas.Bool.{or_from}
use Rattle.std.proofs.lemmas.List.Folds.{list_any_none}
use Rattle.std.specs.Option.{ForSome}
use Rattle.std.proofs.lemmas.Bool.Decides.{nat_tests, Decides-eqb}
use Rattle.toml.specs.Data.{Data, Members, boolean, table, get_member}
use Rattle.toml.specs.View.{items_of}
use Rattle.ec_device.specs.declared.slave_type.Mailbox.{Mailbox}
use Rattle.ec_device.specs.declared.hardware.ProcessManager.{ProcessManager}
use Rattle.ec_device.specs.declared.hardware.Hardware.{Hardware}
use Rattle.ec_device.specs.declared.parameter.Parameter.{Parameter}
use Rattle.ec_device.specs.Hardware.{IsBesideMailbox, IsHardware, usual_outputs, usual_inputs, are_pins}
use Rattle.ec_table.specs.declared.fault.Position.{Position}
use Rattle.ec_table.specs.declared.described.Manner.{Manner}
use Rattle.ec_table.specs.declared.rows.Format.{Format}
use Rattle.ec_table.specs.declared.rows.Direction.TheVariants.{Out, In}
use Rattle.ec_device.specs.declared.slave_type.Device.{Device}
use Rattle.ec_table.specs.declared.rows.ProcessData.{ProcessData}
use Rattle.ec_table.specs.declared.rows.TypeRow.{TypeRow}
use Rattle.ec_table.specs.declared.rows.VariableRow.{VariableRow}
use Rattle.ec_table.specs.declared.keys.Shape.TheVariants as shape
use Rattle.ec_table.specs.Fields.{keys_are, name_in, mailbox_in, truth_in}
use Rattle.ec_table.specs.InOrder.{rows_after}
use Rattle.ec_table.specs.Pdos.{indices_of, has_twice}
use Rattle.ec_table.specs.Parameters.{parameters_in, are_taken}
use Rattle.ec_table.specs.Reading.{device_in, process_in, process_twice, manner_in, described, hardware_in, is_possible, type_at, type_named, type_element, variable_element}
use Rattle.ec_table.specs.Names.{is_named}
use Rattle.ec_table.specs.Sound.{IsOnce, IsDevice, IsDescribed, AreDownloads, IsType, AreTypes, IsVariable, AreVariables}
use Rattle.ec_table.proofs.Ranges.{pdos_toward_read, mailbox_read}
use Rattle.ec_table.specs.Writing.{number, array_of_all, pdo_data, manager_data, type_members, variable_members}
use Rattle.ec_table.proofs.Written.{number_reads, name_reads, mailbox_reads, manager_reads, parameters_read, rows_written, middle, pdos_read, not_before, variable_reads}
use Rattle.ec_table.proofs.SoundReads.{false_from, ReadManager}

-- ---- types

-- no number stands twice
some_later : (x : ℕ) (xs : List ℕ) → All (λ y. x ≢ y) xs → list_any (λ y. y == x) xs ≡ false
some_later x xs h = list_any_none (λ y. y == x) xs (λ k d lt. false_from (get_or xs k d == x) (λ e. h k d lt (sym ((Decides-eqb (get_or xs k d) x).0 e))))

get_or_next : (x : ℕ) (xs : List ℕ) (k d : ℕ) → get_or (x ∷ xs) (k + 1) d ≡ get_or xs k d
get_or_next x xs k d = rw add-one refl

once_head : (x : ℕ) (xs : List ℕ) → IsOnce (x ∷ xs) → All (λ y. x ≢ y) xs
once_head x xs h k d lt = rw (get_or_next x xs k d) at (h 0 (k + 1) d (omega arith) (omega arith))

once_tail : (x : ℕ) (xs : List ℕ) → IsOnce (x ∷ xs) → IsOnce xs
once_tail x xs h i j d lt within = rw (get_or_next x xs i d, get_or_next x xs j d) at (h (i + 1) (j + 1) d (omega arith) (omega arith))

pub test_from_once : (xs : List ℕ) → IsOnce xs → has_twice xs ≡ false
test_from_once [] h = refl
test_from_once (x ∷ xs) h = or_from _ _ (some_later x xs (once_head x xs h)) (test_from_once xs (once_tail x xs h))

-- a row from its fields, with the mailbox and the hardware apart
abbrev row : List ℕ → Device → Option Mailbox → ProcessData → Bool → Option Hardware → List Parameter → TypeRow
row name device mailbox process lrw hardware init = record { name = name; device = device; mailbox = mailbox; process = process; lrw = lrw; hardware = hardware; init = init }

-- a part of hardware, with its revision apart
abbrev part : (outputs inputs : ProcessManager) → (pins firmware : Bool) → Manner → ℕ → (any : Bool) → Hardware
part outputs inputs pins firmware m fmmus any = record {
  out_manager = outputs;
  in_manager = inputs;
  has_pins = pins;
  has_firmware = firmware;
  is_fixed = m.is_fixed;
  slow = m.slow;
  has_emergency = m.has_emergency;
  fmmus = fmmus;
  any_revision = any;
}

-- what the reading of a type has to meet: each value that its members write
pub record Reads (p : Position) (t : TypeRow) (ms : Members) : Type 0 where
  pub name : name_in p (get_member (codes "name") ms) ≡ Ok t.name
  pub device : device_in p (get_member (codes "vendor") ms) (get_member (codes "product") ms) (get_member (codes "revision") ms) ≡ Ok t.device
  pub mailbox : mailbox_in p (get_member (codes "mailbox") ms) ≡ Ok t.mailbox
  pub process : process_in p (get_member (codes "out_start") ms) (get_member (codes "in_start") ms) (get_member (codes "rxpdo") ms) (get_member (codes "txpdo") ms) ≡ Ok t.process
  pub lrw : truth_in p true (get_member (codes "lrw") ms) ≡ Ok t.lrw
  pub hardware : (f : Format) → is_some t.hardware ≡ f.hardware → (keys_are shape.Type f ms ≡ true) × (hardware_in f p t.process ms ≡ Ok t.hardware)
  pub init : parameters_in p (get_member (codes "init") ms) ≡ Ok t.init

device_writes : (p : Position) (device : Device) → IsDevice device → device_in p (Some (number device.vendor)) (Some (number device.product)) (Some (number device.revision)) ≡ Ok device
unfolding device_in
device_writes p device h = rw (number_reads p 0 4294967295 device.vendor (omega arith) h.vendor, number_reads p 0 4294967295 device.product (omega arith) h.product, number_reads p 0 4294967295 device.revision (omega arith) h.revision) refl

any_writes : (p : Position) (vendor product revision : ℕ) → IsDevice (record { vendor = vendor; product = product; revision = revision }) → revision ≡ 0 → device_in p (Some (number vendor)) (Some (number product)) None ≡ Ok (record { vendor = vendor; product = product; revision = revision })
unfolding device_in
any_writes p vendor product revision h zero = rw (zero, number_reads p 0 4294967295 vendor (omega arith) h.vendor, number_reads p 0 4294967295 product (omega arith) h.product) refl

process_writes : (p : Position) (t : TypeRow) → IsType t → process_in p (Some (number t.process.out_start)) (Some (number t.process.in_start)) (Some (array_of_all pdo_data t.process.outputs)) (Some (array_of_all pdo_data t.process.inputs)) ≡ Ok t.process
unfolding process_in
process_writes p t h = rw (number_reads p 0 65535 t.process.out_start (omega arith) h.out_start, number_reads p 0 65535 t.process.in_start (omega arith) h.in_start, pdos_read p Out t.process.outputs (pdos_toward_read t h Out), pdos_read p In t.process.inputs (pdos_toward_read t h In)) refl

managers_read : (t : TypeRow) (h : Hardware) → IsType t → t.hardware ≡ Some h → ReadManager h.out_manager × ReadManager h.in_manager
managers_read t h sound is =
    let told : IsDescribed t h = sound.hardware h is in
    (record { number = told.limits.out_number; control = told.limits.out_byte }, record { number = told.limits.in_number; control = told.limits.in_byte })

-- the part that a type says of how its slaves behave
abbrev manner_of : Hardware → Manner
manner_of h = record { is_fixed = h.is_fixed; slow = h.slow; has_emergency = h.has_emergency }

manner_writes : (p : Position) (h : Hardware) → h.slow ≤ 100 → manner_in p (Some (boolean h.is_fixed)) (Some (number h.slow)) (Some (boolean h.has_emergency)) ≡ Ok (manner_of h)
unfolding manner_in
manner_writes p h few = rw (number_reads p 0 100 h.slow (omega arith) few) refl

described_writes : (p : Position) (process : ProcessData) (h : Hardware) (revision : Option Data) → ReadManager h.out_manager → ReadManager h.in_manager → 2 ≤ h.fmmus → h.fmmus ≤ 4 → h.has_pins ≡ are_pins process.out_start → h.any_revision ≡ is_none revision
    → described p process (manner_of h) (Some (manager_data h.out_manager)) (Some (manager_data h.in_manager)) (Some (boolean h.has_firmware)) (Some (number h.fmmus)) revision ≡ Ok h
unfolding described
described_writes p process h revision outputs inputs some few pins any =
    rw (manager_reads p usual_outputs h.out_manager outputs, manager_reads p usual_inputs h.in_manager inputs, number_reads p 2 4 h.fmmus some few, ← pins, ← any) refl

-- a type that says nothing of real devices
none_reads : (p : Position) (name : List ℕ) (device : Device) (o : Option Mailbox) (process : ProcessData) (lrw : Bool) (init : List Parameter) → let t = row name device o process lrw None init in init ≡ [] → IsType t → Reads p t (type_members t)
unfolding mailbox_in
none_reads p name device None process lrw init none h = let t = row name device None process lrw None init in record {
  name = name_reads p name h.name;
  device = device_writes p device h.device;
  mailbox = refl;
  process = process_writes p t h;
  lrw = refl;
  hardware = λ f is. rw (sym is) (refl, refl);
  init = ap Ok (sym none);
}
none_reads p name device (Some m) process lrw init none h = let t = row name device (Some m) process lrw None init in record {
  name = name_reads p name h.name;
  device = device_writes p device h.device;
  mailbox = mailbox_reads p m (mailbox_read t h m refl);
  process = process_writes p t h;
  lrw = refl;
  hardware = λ f is. rw (sym is) (refl, refl);
  init = ap Ok (sym none);
}

-- one for hardware, that has its revision or fits any
some_reads : (p : Position) (name : List ℕ) (device : Device) (o : Option Mailbox) (process : ProcessData) (lrw : Bool) (init : List Parameter) (outputs inputs : ProcessManager) (pins firmware : Bool) (m : Manner) (fmmus : ℕ) (any : Bool) → let t = row name device o process lrw (Some (part outputs inputs pins firmware m fmmus any)) init in IsType t → Reads p t (type_members t)
unfolding mailbox_in
some_reads p name device None process lrw init outputs inputs pins firmware m fmmus false h =
    let x = part outputs inputs pins firmware m fmmus false in
    let t = row name device None process lrw (Some x) init in
    let told : IsDescribed t x = h.hardware x refl in
    let both = managers_read t x h refl in record {
      name = name_reads p name h.name;
      device = device_writes p device h.device;
      mailbox = refl;
      process = process_writes p t h;
      lrw = refl;
      hardware = λ f is. rw (sym is, manner_writes p x told.limits.slow, described_writes p process x (Some (number device.revision)) both.0 both.1 told.limits.some_fmmus told.limits.few_fmmus told.pins refl) (refl, refl);
      init = parameters_read p init h.init.each h.init.few;
    }
some_reads p name device None process lrw init outputs inputs pins firmware m fmmus true h =
    let x = part outputs inputs pins firmware m fmmus true in
    let t = row name device None process lrw (Some x) init in
    let told : IsDescribed t x = h.hardware x refl in
    let both = managers_read t x h refl in record {
      name = name_reads p name h.name;
      device = any_writes p device.vendor device.product device.revision h.device (told.revision refl);
      mailbox = refl;
      process = process_writes p t h;
      lrw = refl;
      hardware = λ f is. rw (sym is, manner_writes p x told.limits.slow, described_writes p process x None both.0 both.1 told.limits.some_fmmus told.limits.few_fmmus told.pins refl) (refl, refl);
      init = parameters_read p init h.init.each h.init.few;
    }
some_reads p name device (Some b) process lrw init outputs inputs pins firmware m fmmus false h =
    let x = part outputs inputs pins firmware m fmmus false in
    let t = row name device (Some b) process lrw (Some x) init in
    let told : IsDescribed t x = h.hardware x refl in
    let both = managers_read t x h refl in record {
      name = name_reads p name h.name;
      device = device_writes p device h.device;
      mailbox = mailbox_reads p b (mailbox_read t h b refl);
      process = process_writes p t h;
      lrw = refl;
      hardware = λ f is. rw (sym is, manner_writes p x told.limits.slow, described_writes p process x (Some (number device.revision)) both.0 both.1 told.limits.some_fmmus told.limits.few_fmmus told.pins refl) (refl, refl);
      init = parameters_read p init h.init.each h.init.few;
    }
some_reads p name device (Some b) process lrw init outputs inputs pins firmware m fmmus true h =
    let x = part outputs inputs pins firmware m fmmus true in
    let t = row name device (Some b) process lrw (Some x) init in
    let told : IsDescribed t x = h.hardware x refl in
    let both = managers_read t x h refl in record {
      name = name_reads p name h.name;
      device = any_writes p device.vendor device.product device.revision h.device (told.revision refl);
      mailbox = mailbox_reads p b (mailbox_read t h b refl);
      process = process_writes p t h;
      lrw = refl;
      hardware = λ f is. rw (sym is, manner_writes p x told.limits.slow, described_writes p process x None both.0 both.1 told.limits.some_fmmus told.limits.few_fmmus told.pins refl) (refl, refl);
      init = parameters_read p init h.init.each h.init.few;
    }

all_read : (p : Position) (name : List ℕ) (device : Device) (o : Option Mailbox) (process : ProcessData) (lrw : Bool) (hardware : Option Hardware) (init : List Parameter) → let t = row name device o process lrw hardware init in (is_some hardware ≡ false → init ≡ []) → IsType t → Reads p t (type_members t)
all_read p name device o process lrw None init none h = none_reads p name device o process lrw init (none refl) h
all_read p name device o process lrw (Some x) init none h = some_reads p name device o process lrw init x.out_manager x.in_manager x.has_pins x.has_firmware (manner_of x) x.fmmus x.any_revision h

no_process_twice : (t : TypeRow) → IsType t → process_twice t.process ≡ false
no_process_twice t h = or_from _ _ (test_from_once (indices_of t.process.outputs) (pdos_toward_read t h Out).once) (test_from_once (indices_of t.process.inputs) (pdos_toward_read t h In).once)

-- the last test
le_test : (n m : ℕ) → n ≤ m → nat_le n m ≡ true
le_test n m h = grind (arith, nat_tests)

room : (mailbox : Option Mailbox) (h : Hardware) → ForSome mailbox (λ b. IsBesideMailbox h) → (is_none mailbox || (nat_le 2 h.out_manager.number && (nat_le 2 h.in_manager.number && h.has_firmware))) ≡ true
room None h beside = refl
room (Some m) h beside =
    let b : IsBesideMailbox h = beside m refl in
    rw (le_test 2 h.out_manager.number b.outputs, le_test 2 h.in_manager.number b.inputs) b.firmware

pub taken_from : (m : Option Mailbox) (qs : List Parameter) → (m ≡ None → qs ≡ []) → are_taken m qs ≡ true
taken_from None qs h = rw (h refl) refl
taken_from (Some m) qs h = refl

by_mailbox : (fixed : Bool) (m : Option Mailbox) → (fixed ≡ true → is_some m ≡ true) → (not fixed || is_some m) ≡ true
by_mailbox false m h = refl
by_mailbox true m h = h refl

possible : (mailbox : Option Mailbox) (o : Option Hardware) (init : List Parameter) → ForSome o (IsHardware mailbox) → AreDownloads mailbox init → is_possible mailbox o init ≡ true
possible mailbox None init h d = taken_from mailbox init d.mailbox
possible mailbox (Some x) init h d =
    let k : IsHardware mailbox x = h x refl in
    rw (
      false_from (x.out_manager.number == x.in_manager.number) (λ e. k.apart ((Decides-eqb _ _).0 e)),
      (Decides-eqb _ 4).1 k.out_mode,
      (Decides-eqb _ 0).1 k.in_mode,
      room mailbox x k.mailbox,
      by_mailbox x.is_fixed mailbox k.fixed,
      taken_from mailbox init d.mailbox,
    ) refl

none_if : (o : Option Hardware) (hardware : Bool) (init : List Parameter) → is_some o ≡ hardware → (hardware ≡ false → init ≡ []) → is_some o ≡ false → init ≡ []
none_if o hardware init is none e = none (sym is ∙ e)

pub type_reads : (f : Format) (p : Position) (t : TypeRow) (found : List TypeRow) → is_some t.hardware ≡ f.hardware → (f.hardware ≡ false → t.init ≡ []) → IsType t → is_named (λ (t : TypeRow). t.name) t.name found ≡ false → type_at f p (type_members t) found ≡ Ok t
unfolding type_at type_named
type_reads f p t found is none h fresh =
    let reads : Reads p t (type_members t) = all_read p t.name t.device t.mailbox t.process t.lrw t.hardware t.init (none_if t.hardware f.hardware t.init is none) h in
    let format = reads.hardware f is in
    rw (format.0, reads.name, reads.device, reads.mailbox, reads.process, reads.lrw, format.1, reads.init, fresh, no_process_twice t h, possible t.mailbox t.hardware t.init (λ x there. (h.hardware x there).limits) h.init) refl

pub types_read : (f : Format) (ts : List TypeRow) → AreTypes ts → All (λ (t : TypeRow). is_some t.hardware ≡ f.hardware) ts → All (λ (t : TypeRow). f.hardware ≡ false → t.init ≡ []) ts → rows_after (type_element f) [] 0 (items_of (map (λ t. table (type_members t)) ts)) ≡ Ok ts
types_read f ts h same none = rows_written (type_element f) (λ t. table (type_members t)) [] ts (λ before t after e.
    type_reads f _ t before (middle (λ (t : TypeRow). is_some t.hardware ≡ f.hardware) before t after ts e same) (middle (λ (t : TypeRow). f.hardware ≡ false → t.init ≡ []) before t after ts e none)
    (middle IsType before t after ts e h.each) (not_before (λ (t : TypeRow). t.name) before t after ts e h.once))

pub variables_read : (f : Format) (ws : List VariableRow) → AreVariables ws → All (λ (w : VariableRow). f.hardware ≡ false → w.signed ≡ false) ws → rows_after (variable_element f) [] 0 (items_of (map (λ w. table (variable_members f.hardware w)) ws)) ≡ Ok ws
variables_read f ws h signs = rows_written (variable_element f) (λ w. table (variable_members f.hardware w)) [] ws (λ before w after e. variable_reads f _ w before (middle (λ (w : VariableRow). f.hardware ≡ false → w.signed ≡ false) before w after ws e signs) (middle IsVariable before w after ws e h.each) (not_before (λ (w : VariableRow). w.name) before w after ws e h.once))
