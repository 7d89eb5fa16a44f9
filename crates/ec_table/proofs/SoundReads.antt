-- What was read is sound.
use Rattle.std.proofs.Common.{◌≡◌, ◌≢◌, ℕ, ◌<◌, ◌≤◌, Bool, true, false, not, ◌&&◌, ◌||◌, ◌==◌, List, [], ◌∷◌, ◌++◌, length, get_or, Result, Option, Some, None, is_some, All, nat_le, is_none, ◌%◌, ◌+◌, ◌-◌, ◌^◌, nat_lt, ℤ, pos, negsuc, option_and_then, if◌then◌else◌, lit<, subst, arith, refl, sym, ◌∙◌, codes}
use Rattle.std.specs.List.{list_any}
use Rattle.std.specs.Option.{ForSome}
use Rattle.std.specs.Str.{bytes_eq}
use Rattle.std.specs.Ordering.{is_eq, match_ordering, nat_cmp}
use Rattle.std.specs.Cmp.Lexicographic.{slice_cmp}
use Rattle.std.specs.declared.cmp.Ordering.{Ordering}
use Rattle.std.specs.declared.cmp.Ordering.TheVariants.{Less, Equal, Greater}
use Rattle.std.proofs.lemmas.Map.Text.{is_eq-slice_cmp}
use Rattle.std.proofs.lemmas.Bool.Decides.{nat_tests, Decides-eqb}
use Rattle.std.proofs.lemmas.Slice.Eq.{bytes_eq-Decides}
use Rattle.std.proofs.lemmas.List.Elements.{All-push, All-nil, All-cons}
use Rattle.std.proofs.lemmas.Bool.{or_parts, and_parts}
use Rattle.std.proofs.lemmas.List.Folds.{list_any_at}
use Rattle.std.proofs.lemmas.List.Quantifiers.{all_pairs_push}
use Rattle.std.proofs.lemmas.List.Kept.{AllPairs-cons}
use Rattle.toml.specs.Data.{Data, Members, no_members, member, Items, get_member, at, as_integer}
use Rattle.ec_device.specs.declared.slave_type.Mailbox.{Mailbox}
use Rattle.ec_device.specs.declared.slave_type.Device.{Device}
use Rattle.ec_device.specs.declared.hardware.ProcessManager.{ProcessManager}
use Rattle.ec_device.specs.declared.hardware.Hardware.{Hardware}
use Rattle.ec_device.specs.declared.parameter.Parameter.{Parameter}
use Rattle.ec_device.specs.declared.parameter.ParameterSize.{ParameterSize}
use Rattle.ec_device.specs.declared.parameter.ParameterSize.TheVariants as sizes
use Rattle.ec_device.specs.Parameters.{bit_count}
use Rattle.ec_device.specs.Hardware.{IsBesideMailbox, IsHardware, usual_outputs, usual_inputs, are_pins}
use Rattle.ec_table.specs.declared.fault.Fault.{Fault}
use Rattle.ec_table.specs.declared.fault.Fault.TheVariants.{BadKey, BadValue, TwiceNamed}
use Rattle.ec_table.specs.declared.fault.Position.{Position}
use Rattle.ec_table.specs.declared.described.Manner.{Manner}
use Rattle.ec_table.specs.declared.rows.Format.{Format}
use Rattle.ec_table.specs.declared.rows.Version.{Version}
use Rattle.ec_table.specs.declared.rows.Direction.{Direction}
use Rattle.ec_table.specs.declared.rows.Direction.TheVariants.{Out, In}
use Rattle.ec_table.specs.declared.rows.ProcessData.{ProcessData}
use Rattle.ec_table.specs.declared.rows.TypeRow.{TypeRow}
use Rattle.ec_table.specs.declared.rows.VariableRow.{VariableRow}
use Rattle.ec_table.specs.declared.keys.Shape.TheVariants as shape
use Rattle.ec_table.specs.Contents.{pdos_toward}
use Rattle.ec_table.specs.Fields.{◌>>=◌, each_key, is_key, has_required, keys_are, mailbox_of, mailbox_in, direction_in, truth_in, number_or_0, manager_of, manager_in, fmmus_in}
use Rattle.ec_table.specs.InOrder.{members_in, rows_after}
use Rattle.ec_table.specs.Pdos.{entry_of, entry_row, array_of, array_in, pdo_of, pdo_row, pdos_in, indices_of, has_twice}
use Rattle.ec_table.specs.Parameters.{held, size_in, value_in, parameter_of, parameter_row, parameters_in, are_taken}
use Rattle.ec_table.specs.Reading.{device_in, process_in, process_twice, manner_in, described, described_if, can_be, can_be_if, is_possible, type_at, type_named, type_element, variable_at, variable_element}
use Rattle.ec_table.specs.Names.{is_named}
use Rattle.ec_table.specs.Sound.{IsOnce, IsDevice, IsDescribed, IsDownload, AreDownloads, IsType, AreTypes, IsVariable, AreVariables, first_index}
use Rattle.ec_table.proofs.Ranges.{ReadMailbox, ReadEntry, ReadPdo, ReadPdos, last_index, type_read}
use Rattle.ec_table.proofs.ValueTests.{Meets, meets_ok, meets_then, any_met, must_met, ok_or_met, number_met, name_met, rows_met}

-- ---- keys

pub false_from : (b : Bool) → (b ≡ true → ⊥) → b ≡ false
false_from true h = absurd (h refl)
false_from false h = refl

skipped : (o : Ordering) (k l : List ℕ) (d : Data) (rest : Option Data) → is_eq o ≡ bytes_eq k l → bytes_eq k l ≡ false → rest ≡ None → match_ordering o rest (Some d) rest ≡ None
skipped Less k l d rest same differ none = none
skipped Equal k l d rest same differ none = cc
skipped Greater k l d rest same differ none = none

-- where each key passes, one that doesn't is none
pub no_such_key : (test : List ℕ → Bool) (k : List ℕ) (ms : Members) → test k ≡ false → each_key test ms ≡ true → get_member k ms ≡ None
no_such_key test k no_members fails each = refl
no_such_key test k (member l d ms) fails each =
    let parts : (test l ≡ true) × (each_key test ms ≡ true) = and_parts (test l) (each_key test ms) each in
    let differ : bytes_eq k l ≡ false = false_from (bytes_eq k l) (λ e. let same : k ≡ l = (bytes_eq-Decides k l).0 e in cc) in
    skipped (slice_cmp nat_cmp k l) k l d (get_member k ms) (is_eq-slice_cmp k l) differ (no_such_key test k ms fails parts.1)

-- ---- values

pub mailbox_of_met : (p : Position) (d : Data) → Meets (mailbox_of p d) ReadMailbox
unfolding mailbox_of
mailbox_of_met p d =
    meets_then _ ReadMailbox _ _ (number_met p 0 65535 (at 0 d)) (λ a ha.
    meets_then _ ReadMailbox _ _ (number_met p 16 1024 (at 1 d)) (λ b hb.
    meets_then _ ReadMailbox _ _ (number_met p 0 65535 (at 2 d)) (λ e he.
    meets_then _ ReadMailbox _ _ (number_met p 16 1024 (at 3 d)) (λ f hf.
    meets_then _ ReadMailbox _ _ (any_met _) (λ u _.
    meets_ok ReadMailbox _ (record { receive_start = ha.1; receive_least = hb.0; receive_most = hb.1; send_start = he.1; send_least = hf.0; send_most = hf.1 }))))))

pub mailbox_met : (p : Position) (v : Option Data) → Meets (mailbox_in p v) (λ o. (m : Mailbox) → o ≡ Some m → ReadMailbox m)
unfolding mailbox_in
mailbox_met p None = meets_ok (λ o. (m : Mailbox) → o ≡ Some m → ReadMailbox m) None (λ m is. cc)
mailbox_met p (Some d) = meets_then ReadMailbox (λ o. (m : Mailbox) → o ≡ Some m → ReadMailbox m) _ _ (mailbox_of_met p d) (λ m hm. meets_ok (λ o. (k : Mailbox) → o ≡ Some k → ReadMailbox k) (Some m) (λ k is. let e : m ≡ k = cc in subst ReadMailbox e hm))

-- a number that may be left out
pub number_or_0_met : (p : Position) (most : ℕ) (v : Option Data) → Meets (number_or_0 p most v) (λ n. (n ≤ most) × (v ≡ None → n ≡ 0))
number_or_0_met p most None = meets_ok (λ n. (n ≤ most) × (None ≡ None → n ≡ 0)) 0 (omega arith, λ e. refl)
number_or_0_met p most (Some d) = record { all = λ n is. (((number_met p 0 most (Some d)).all n is).1, λ e. cc) }

gap_kept : (a b : ℕ) (c : Bool) → (c && (not (a == 0) || (b == 0))) ≡ true → a ≡ 0 → b ≡ 0
gap_kept a b c h e = grind (arith, nat_tests)

pub entry_met : (p : Position) (d : Data) → Meets (entry_of p d) ReadEntry
unfolding entry_of
entry_met p d =
    meets_then _ ReadEntry _ _ (number_met p 0 65535 (at 0 d)) (λ a ha.
    meets_then _ ReadEntry _ _ (number_met p 0 255 (at 1 d)) (λ b hb.
    meets_then _ ReadEntry _ _ (number_met p 1 64 (at 2 d)) (λ n hn.
    meets_then _ ReadEntry _ _ (must_met _ _) (λ u hu.
    meets_ok ReadEntry _ (record { index = ha.1; subindex = hb.1; least = hn.0; most = hn.1; gap = gap_kept a b (not (is_some (at 3 d))) hu })))))

le_from_test : (n m : ℕ) → nat_le n m ≡ true → n ≤ m
le_from_test n m h = grind (arith, nat_tests)

-- a list of rows: each is as it must be, and they are few
pub array_met : {X : Type 0} (P : X → Type 0) (row : ℕ → Data → List X → Result X Fault) (p : Position) (most : ℕ) → ((n : ℕ) (d : Data) (found : List X) → Meets (row n d found) P) → (v : Option Data) → Meets (array_in row p most v) (λ xs. All P xs × (length xs ≤ most))
unfolding array_of
array_met P row p most one None = meets_ok (λ xs. All P xs × (length xs ≤ most)) [] (All-nil P, omega arith)
array_met P row p most one (Some d) =
    meets_then _ (λ xs. All P xs × (length xs ≤ most)) _ _ (any_met _) (λ ds _.
    meets_then _ (λ xs. All P xs × (length xs ≤ most)) _ _ (rows_met (All P) (λ found x. P x) row one (λ found x hf hx. All-push P found x hf hx) [] 0 ds (All-nil P)) (λ xs hxs.
    meets_then _ (λ xs. All P xs × (length xs ≤ most)) _ _ (must_met (nat_le (length xs) most) (BadValue p)) (λ u hu.
    meets_ok (λ xs. All P xs × (length xs ≤ most)) xs (hxs, le_from_test (length xs) most hu))))

pub members_met : {A : Type 0} (P : A → Type 0) (p : Position) (d : Data) (f : Members → Result A Fault) → ((ms : Members) → Meets (f ms) P) → Meets (members_in p d >>= f) P
members_met P p d f h = meets_then (λ _. Unit {0}) P (members_in p d) f (any_met _) (λ ms _. h ms)

pub pdo_met : (direction : Direction) (p : Position) (ms : Members) → Meets (pdo_of p (first_index direction) (last_index direction) ms) (ReadPdo direction)
unfolding pdo_of
pdo_met direction p ms =
    meets_then _ (ReadPdo direction) _ _ (any_met _) (λ u _.
    meets_then _ (ReadPdo direction) _ _ (number_met p (first_index direction) (last_index direction) (get_member (codes "index") ms)) (λ n hn.
    meets_then _ (ReadPdo direction) _ _ (array_met ReadEntry (entry_row p) p 64 (λ k d found. entry_met p d) (get_member (codes "entries") ms)) (λ es hes.
    meets_ok (ReadPdo direction) _ (record { first = hn.0; last = hn.1; entries = hes.0; few = hes.1 }))))

pub pdos_met : (direction : Direction) (p : Position) (v : Option Data) → Meets (pdos_in p (first_index direction) (last_index direction) v) (λ qs. All (ReadPdo direction) qs × (length qs ≤ 16))
pdos_met direction p v = array_met (ReadPdo direction) (pdo_row p (first_index direction) (last_index direction)) p 16 (λ n d found. members_met (ReadPdo direction) p d (pdo_of p (first_index direction) (last_index direction)) (pdo_met direction p)) v

-- no number stands twice
not_among : (x : ℕ) (xs : List ℕ) → list_any (λ y. y == x) xs ≡ false → All (λ y. x ≢ y) xs
not_among x [] h = All-nil (λ y. x ≢ y)
not_among x (y ∷ ys) h =
    let parts : ((y == x) ≡ false) × (list_any (λ z. z == x) ys ≡ false) = or_parts (y == x) (list_any (λ z. z == x) ys) h in
    All-cons (λ z. x ≢ z) y ys (λ e. let same : (y == x) ≡ true = (Decides-eqb y x).1 (sym e) in cc) (not_among x ys parts.1)

pub once_from_test : (xs : List ℕ) → has_twice xs ≡ false → IsOnce xs
once_from_test [] h = λ i j d p q. absurd (omega arith)
once_from_test (x ∷ xs) h =
    let parts : (list_any (λ z. z == x) xs ≡ false) × (has_twice xs ≡ false) = or_parts (list_any (λ z. z == x) xs) (has_twice xs) h in
    AllPairs-cons (λ a b. a ≢ b) x xs (not_among x xs parts.0) (once_from_test xs parts.1)

pub not_true : (b : Bool) → not b ≡ true → b ≡ false
not_true true h = cc
not_true false h = refl

-- ---- types

pub device_met : (p : Position) (vendor product revision : Option Data) → Meets (device_in p vendor product revision) (λ d. IsDevice d × (revision ≡ None → d.revision ≡ 0))
unfolding device_in
device_met p vendor product revision =
    let P : Device → Type 0 = λ d. IsDevice d × (revision ≡ None → d.revision ≡ 0) in
    meets_then _ P _ _ (number_met p 0 4294967295 vendor) (λ a ha.
    meets_then _ P _ _ (number_met p 0 4294967295 product) (λ b hb.
    meets_then _ P _ _ (number_or_0_met p 4294967295 revision) (λ e he.
    meets_ok P (record { vendor = a; product = b; revision = e }) (record { vendor = ha.1; product = hb.1; revision = he.0 }, he.1))))

-- the process data before the test on doubles
pub record IsProcess (d : ProcessData) : Type 0 where
  pub out_start : d.out_start ≤ 65535
  pub in_start : d.in_start ≤ 65535
  pub outputs : All (ReadPdo Out) d.outputs
  pub output_count : length d.outputs ≤ 16
  pub inputs : All (ReadPdo In) d.inputs
  pub input_count : length d.inputs ≤ 16

pub process_met : (p : Position) (out_start in_start rxpdo txpdo : Option Data) → Meets (process_in p out_start in_start rxpdo txpdo) IsProcess
unfolding process_in
process_met p out_start in_start rxpdo txpdo =
    meets_then _ IsProcess _ _ (number_or_0_met p 65535 out_start) (λ a ha.
    meets_then _ IsProcess _ _ (number_or_0_met p 65535 in_start) (λ b hb.
    meets_then _ IsProcess _ _ (pdos_met Out p rxpdo) (λ os hos.
    meets_then _ IsProcess _ _ (pdos_met In p txpdo) (λ is his.
    meets_ok IsProcess _ (record { out_start = ha.0; in_start = hb.0; outputs = hos.0; output_count = hos.1; inputs = his.0; input_count = his.1 })))))

-- the name is none of those found
pub fresh : {X : Type 0} (name_of : X → List ℕ) (name : List ℕ) (found : List X) → list_any (λ x. bytes_eq (name_of x) name) found ≡ false → (k : ℕ) (d : X) → k < length found → name_of (get_or found k d) ≢ name
fresh name_of name found h k d lt e =
    let same : bytes_eq (name_of (get_or found k d)) name ≡ true = (bytes_eq-Decides (name_of (get_or found k d)) name).1 e in
    let some : list_any (λ x. bytes_eq (name_of x) name) found ≡ true = list_any_at (λ x. bytes_eq (name_of x) name) found k d lt same in cc

pub pdos_of_process : (d : ProcessData) → IsProcess d → process_twice d ≡ false → (t : TypeRow) → t.process ≡ d → (direction : Direction) → ReadPdos direction (pdos_toward direction t)
pdos_of_process d h once t is Out = let parts : (has_twice (indices_of d.outputs) ≡ false) × (has_twice (indices_of d.inputs) ≡ false) = or_parts _ _ once in rw is (record { each = h.outputs; few = h.output_count; once = once_from_test _ parts.0 })
pdos_of_process d h once t is In = let parts : (has_twice (indices_of d.outputs) ≡ false) × (has_twice (indices_of d.inputs) ≡ false) = or_parts _ _ once in rw is (record { each = h.inputs; few = h.input_count; once = once_from_test _ parts.1 })

-- ---- what a type says of real devices

pub record ReadManager (m : ProcessManager) : Type 0 where
  pub number : m.number ≤ 3
  pub control : m.control ≤ 255

pub manager_met : (p : Position) (usual : ProcessManager) (v : Option Data) → ReadManager usual → Meets (manager_in p usual v) (λ m. ReadManager m × (v ≡ None → m ≡ usual))
unfolding manager_in manager_of
manager_met p usual None h = meets_ok (λ m. ReadManager m × (None ≡ None → m ≡ usual)) usual (h, λ e. refl)
manager_met p usual (Some d) h =
    let P : ProcessManager → Type 0 = λ m. ReadManager m × (Some d ≡ None → m ≡ usual) in
    meets_then _ P _ _ (number_met p 0 3 (at 0 d)) (λ a ha.
    meets_then _ P _ _ (number_met p 0 255 (at 1 d)) (λ b hb.
    meets_then _ P _ _ (any_met _) (λ u _.
    meets_ok P (record { number = a; control = b }) (record { number = ha.1; control = hb.1 }, λ e. cc))))

pub fmmus_met : (p : Position) (v : Option Data) → Meets (fmmus_in p v) (λ n. ((2 ≤ n) × (n ≤ 4)) × (v ≡ None → n ≡ 4))
fmmus_met p None = meets_ok (λ n. ((2 ≤ n) × (n ≤ 4)) × (None ≡ None → n ≡ 4)) 4 ((omega arith, omega arith), λ e. refl)
fmmus_met p (Some d) = record { all = λ n is. ((number_met p 2 4 (Some d)).all n is, λ e. cc) }

pub truth_met : (p : Position) (left_out : Bool) (v : Option Data) → Meets (truth_in p left_out v) (λ b. v ≡ None → b ≡ left_out)
truth_met p left_out None = meets_ok (λ b. None ≡ None → b ≡ left_out) left_out (λ e. refl)
truth_met p left_out (Some d) = record { all = λ b is e. cc }

pub record ReadManner (fixed slow emergency : Option Data) (m : Manner) : Type 0 where
  pub few : m.slow ≤ 100
  pub fixed_usual : fixed ≡ None → m.is_fixed ≡ false
  pub slow_usual : slow ≡ None → m.slow ≡ 0
  pub emergency_usual : emergency ≡ None → m.has_emergency ≡ false

pub manner_met : (p : Position) (fixed slow emergency : Option Data) → Meets (manner_in p fixed slow emergency) (ReadManner fixed slow emergency)
unfolding manner_in
manner_met p fixed slow emergency =
    let P : Manner → Type 0 = ReadManner fixed slow emergency in
    meets_then _ P _ _ (truth_met p false fixed) (λ a ha.
    meets_then _ P _ _ (number_or_0_met p 100 slow) (λ b hb.
    meets_then _ P _ _ (truth_met p false emergency) (λ e he.
    meets_ok P (record { is_fixed = a; slow = b; has_emergency = e }) (record { few = hb.0; fixed_usual = ha; slow_usual = hb.1; emergency_usual = he }))))

-- before the last test of a type
pub record ReadHardware (process : ProcessData) (out_manager in_manager firmware fixed slow emergency fmmus revision : Option Data) (h : Hardware) : Type 0 where
  pub outputs : ReadManager h.out_manager
  pub inputs : ReadManager h.in_manager
  pub some_fmmus : 2 ≤ h.fmmus
  pub few_fmmus : h.fmmus ≤ 4
  pub pins : h.has_pins ≡ are_pins process.out_start
  pub any : h.any_revision ≡ is_none revision
  pub out_usual : out_manager ≡ None → h.out_manager ≡ usual_outputs
  pub in_usual : in_manager ≡ None → h.in_manager ≡ usual_inputs
  pub firmware_usual : firmware ≡ None → h.has_firmware ≡ true
  pub fmmus_usual : fmmus ≡ None → h.fmmus ≡ 4
  pub few : h.slow ≤ 100
  pub fixed_usual : fixed ≡ None → h.is_fixed ≡ false
  pub slow_usual : slow ≡ None → h.slow ≡ 0
  pub emergency_usual : emergency ≡ None → h.has_emergency ≡ false

pub described_met : (p : Position) (process : ProcessData) (out_manager in_manager firmware fixed slow emergency fmmus revision : Option Data)
    → Meets (manner_in p fixed slow emergency >>= (λ m. described p process m out_manager in_manager firmware fmmus revision)) (ReadHardware process out_manager in_manager firmware fixed slow emergency fmmus revision)
unfolding described
described_met p process out_manager in_manager firmware fixed slow emergency fmmus revision =
    let P : Hardware → Type 0 = ReadHardware process out_manager in_manager firmware fixed slow emergency fmmus revision in
    meets_then _ P _ _ (manner_met p fixed slow emergency) (λ m hm.
    meets_then _ P _ _ (manager_met p usual_outputs out_manager (record { number = omega arith; control = omega arith })) (λ a ha.
    meets_then _ P _ _ (manager_met p usual_inputs in_manager (record { number = omega arith; control = omega arith })) (λ b hb.
    meets_then _ P _ _ (truth_met p true firmware) (λ w hw.
    meets_then _ P _ _ (fmmus_met p fmmus) (λ n hn.
    meets_ok P _ (record {
      outputs = ha.0;
      inputs = hb.0;
      some_fmmus = hn.0.0;
      few_fmmus = hn.0.1;
      pins = refl;
      any = refl;
      out_usual = ha.1;
      in_usual = hb.1;
      firmware_usual = hw;
      fmmus_usual = hn.1;
      few = hm.few;
      fixed_usual = hm.fixed_usual;
      slow_usual = hm.slow_usual;
      emergency_usual = hm.emergency_usual;
    }))))))

-- there is a part if the table is for hardware, and it is as it was read
pub record ReadPart (hardware : Bool) (P : Hardware → Type 0) (o : Option Hardware) : Type 0 where
  pub there : is_some o ≡ hardware
  pub each : (h : Hardware) → o ≡ Some h → P h

pub described_if_met : (hardware : Bool) (P : Hardware → Type 0) (read : Result Hardware Fault) → Meets read P → Meets (described_if hardware read) (ReadPart hardware P)
described_if_met false P read h = meets_ok (ReadPart false P) None (record { there = refl; each = λ x is. cc })
described_if_met true P read h =
    meets_then P (ReadPart true P) read _ h (λ x px. meets_ok (ReadPart true P) (Some x) (record { there = refl; each = λ y is. let e : x ≡ y = cc in subst P e px }))

-- the last test of a type
two_of : (n : ℕ) → nat_le 2 n ≡ true → 2 ≤ n
two_of n h = grind (arith, nat_tests)

beside : (mailbox : Option Mailbox) (h : Hardware) → (is_none mailbox || (nat_le 2 h.out_manager.number && (nat_le 2 h.in_manager.number && h.has_firmware))) ≡ true → ForSome mailbox (λ b. IsBesideMailbox h)
beside None h test = λ b is. cc
beside (Some m) h test = λ b is.
    let outs = and_parts (nat_le 2 h.out_manager.number) (nat_le 2 h.in_manager.number && h.has_firmware) test in
    let ins = and_parts (nat_le 2 h.in_manager.number) h.has_firmware outs.1 in
    record { outputs = two_of _ outs.0; inputs = two_of _ ins.0; firmware = ins.1 }

by_mailbox : (fixed : Bool) (mailbox : Option Mailbox) → (not fixed || is_some mailbox) ≡ true → fixed ≡ true → is_some mailbox ≡ true
by_mailbox false mailbox test is = absurd (let z : false ≡ true = is in cc)
by_mailbox true mailbox test is = test

is_hardware : (mailbox : Option Mailbox) (h : Hardware) → ReadManager h.out_manager → ReadManager h.in_manager → 2 ≤ h.fmmus → h.fmmus ≤ 4 → h.slow ≤ 100 → can_be mailbox h ≡ true → IsHardware mailbox h
is_hardware mailbox h outputs inputs some few slow test =
    let modes : Bool = (h.out_manager.control % 16 == 4) && (h.in_manager.control % 16 == 0) in
    let room : Bool = is_none mailbox || (nat_le 2 h.out_manager.number && (nat_le 2 h.in_manager.number && h.has_firmware)) in
    let outer = and_parts ((not (h.out_manager.number == h.in_manager.number) && modes) && room) (not h.is_fixed || is_some mailbox) test in
    let whole = and_parts (not (h.out_manager.number == h.in_manager.number) && modes) room outer.0 in
    let tests = and_parts (not (h.out_manager.number == h.in_manager.number)) modes whole.0 in
    let both = and_parts (h.out_manager.control % 16 == 4) (h.in_manager.control % 16 == 0) tests.1 in
    let differ : (h.out_manager.number == h.in_manager.number) ≡ false = not_true _ tests.0 in
    record {
      out_number = outputs.number;
      in_number = inputs.number;
      apart = λ e. let same : (h.out_manager.number == h.in_manager.number) ≡ true = (Decides-eqb _ _).1 e in cc;
      out_mode = (Decides-eqb _ _).0 both.0;
      in_mode = (Decides-eqb _ _).0 both.1;
      out_byte = outputs.control;
      in_byte = inputs.control;
      mailbox = beside mailbox h whole.1;
      fixed = by_mailbox h.is_fixed mailbox outer.1;
      slow = slow;
      some_fmmus = some;
      few_fmmus = few;
    }

some_test : (mailbox : Option Mailbox) (o : Option Hardware) (h : Hardware) → can_be_if mailbox o ≡ true → o ≡ Some h → can_be mailbox h ≡ true
some_test mailbox None h test is = cc
some_test mailbox (Some x) h test is = let e : x ≡ h = cc in rw e at test

revision_none : (revision : Option Data) → is_none revision ≡ true → revision ≡ None
revision_none None h = refl
revision_none (Some d) h = cc

-- ---- downloads

positive_fits : (w k n : ℕ) (b : Bool) → nat_lt k w ≡ b → (if b then Some k else None) ≡ Some n → n < w
positive_fits w k n true lt h = let below : k < w = grind (arith, nat_tests, lt) in let e : k ≡ n = cc in omega (arith, below, e)
positive_fits w k n false lt h = absurd (let z : None ≡ Some n = h in cc)

negative_fits : (w k n : ℕ) (b : Bool) → 0 < w → (if b then Some (w - (k + 1)) else None) ≡ Some n → n < w
negative_fits w k n true some h = let e : w - (k + 1) ≡ n = cc in omega (arith, some, e)
negative_fits w k n false some h = absurd (let z : None ≡ Some n = h in cc)

held_fits : (bits : ℕ) (z : ℤ) (n : ℕ) → 0 < 2 ^ bits → held bits z ≡ Some n → n < 2 ^ bits
held_fits bits (pos k) n some h = positive_fits (2 ^ bits) k n (nat_lt k (2 ^ bits)) refl h
held_fits bits (negsuc k) n some h = negative_fits (2 ^ bits) k n (nat_lt k (2 ^ (bits - 1))) some h

any_held : (bits : ℕ) (o : Option ℤ) (n : ℕ) → 0 < 2 ^ bits → option_and_then (held bits) o ≡ Some n → n < 2 ^ bits
any_held bits None n some h = absurd (let z : None ≡ Some n = h in cc)
any_held bits (Some z) n some h = held_fits bits z n some h

some_values : (size : ParameterSize) → 0 < 2 ^ bit_count size
some_values sizes.One = lit< tt
some_values sizes.Two = lit< tt
some_values sizes.Four = lit< tt

value_met : (p : Position) (size : ParameterSize) (v : Option Data) → Meets (value_in p size v) (λ n. n < 2 ^ bit_count size)
unfolding value_in
value_met p size v = record { all = λ n is. any_held (bit_count size) (option_and_then as_integer v) n (some_values size) ((ok_or_met (option_and_then (held (bit_count size)) (option_and_then as_integer v)) (BadValue p)).all n is) }

parameter_met : (p : Position) (d : Data) → Meets (parameter_of p d) IsDownload
unfolding parameter_of
parameter_met p d =
    meets_then _ IsDownload _ _ (number_met p 0 65535 (at 0 d)) (λ a ha.
    meets_then _ IsDownload _ _ (number_met p 0 255 (at 1 d)) (λ b hb.
    meets_then _ IsDownload _ _ (any_met (size_in p (at 2 d))) (λ size _.
    meets_then _ IsDownload _ _ (value_met p size (at 3 d)) (λ n hn.
    meets_then _ IsDownload _ _ (any_met _) (λ u _.
    meets_ok IsDownload (record { index = a; subindex = b; size = size; value = n }) (record { index = ha.1; subindex = hb.1; value = hn }))))))

pub parameters_met : (p : Position) (v : Option Data) → Meets (parameters_in p v) (λ qs. (All IsDownload qs × (length qs ≤ 64)) × (v ≡ None → qs ≡ []))
parameters_met p None = meets_ok (λ qs. (All IsDownload qs × (length qs ≤ 64)) × (None ≡ None → qs ≡ [])) [] ((All-nil IsDownload, omega arith), λ e. refl)
parameters_met p (Some d) = record { all = λ qs is. ((array_met IsDownload (parameter_row p) p 64 (λ n e found. parameter_met p e) (Some d)).all qs is, λ e. cc) }

pub taken : (mailbox : Option Mailbox) (qs : List Parameter) → are_taken mailbox qs ≡ true → mailbox ≡ None → qs ≡ []
taken None [] test none = refl
taken None (q ∷ qs) test none = absurd (let z : length (q ∷ qs) ≡ 0 = (Decides-eqb (length (q ∷ qs)) 0).0 test in omega (arith, z))
taken (Some m) qs test none = absurd (let z : Some m ≡ None = none in cc)

-- a table that isn't for hardware has no key `init`
init_in : (version : Version) (hardware : Bool) (ms : Members) → let f : Format = record { version = version; hardware = hardware } in keys_are shape.Type f ms ≡ true → hardware ≡ false → get_member (codes "init") ms ≡ None
init_in version false ms keys e =
    let f : Format = record { version = version; hardware = false } in
    no_such_key (is_key shape.Type f) (codes "init") ms refl (and_parts (each_key (is_key shape.Type f) ms) (has_required shape.Type f ms) keys).0
init_in version true ms keys e = absurd (let z : true ≡ false = e in cc)

-- a type that was read, after those found
pub record NewType (found : List TypeRow) (t : TypeRow) : Type 0 where
  pub sound : IsType t
  pub fresh : (k : ℕ) (d : TypeRow) → k < length found → (get_or found k d).name ≢ t.name

pub type_met : (v : Format) (p : Position) (ms : Members) (found : List TypeRow) → Meets (type_at v p ms found) (λ t. NewType found t × ((is_some t.hardware ≡ v.hardware) × (v.hardware ≡ false → t.init ≡ [])))
unfolding type_at type_named
type_met v p ms found =
    let P : TypeRow → Type 0 = λ t. NewType found t × ((is_some t.hardware ≡ v.hardware) × (v.hardware ≡ false → t.init ≡ [])) in
    meets_then _ P _ _ (must_met (keys_are shape.Type v ms) (BadKey p)) (λ u keys.
    meets_then _ P _ _ (name_met p (get_member (codes "name") ms)) (λ name hname.
    meets_then _ P _ _ (device_met p _ _ _) (λ device hdevice.
    meets_then _ P _ _ (mailbox_met p (get_member (codes "mailbox") ms)) (λ mailbox hmailbox.
    meets_then _ P _ _ (process_met p _ _ _ _) (λ process hprocess.
    meets_then _ P _ _ (any_met (truth_in p true (get_member (codes "lrw") ms))) (λ lrw _.
    meets_then _ P _ _ (described_if_met v.hardware _ _ (described_met p process (get_member (codes "out_manager") ms) (get_member (codes "in_manager") ms) (get_member (codes "firmware") ms) (get_member (codes "fixed") ms) (get_member (codes "slow") ms) (get_member (codes "emergency") ms) (get_member (codes "fmmus") ms) (get_member (codes "revision") ms))) (λ hardware hhardware.
    meets_then _ P _ _ (parameters_met p (get_member (codes "init") ms)) (λ init hinit.
    meets_then _ P _ _ (must_met (not (is_named (λ (t : TypeRow). t.name) name found || process_twice process)) (TwiceNamed p)) (λ w hw.
    meets_then _ P _ _ (must_met (is_possible mailbox hardware init) (BadValue p)) (λ x possible.
    let parts : (is_named (λ (t : TypeRow). t.name) name found ≡ false) × (process_twice process ≡ false) = or_parts (is_named (λ (t : TypeRow). t.name) name found) (process_twice process) (not_true _ hw) in
    let row : TypeRow = record { name = name; device = device; mailbox = mailbox; process = process; lrw = lrw; hardware = hardware; init = init } in
    let last = and_parts (can_be_if mailbox hardware) (are_taken mailbox init) possible in
    let downloads : AreDownloads mailbox init = record { few = hinit.0.1; each = hinit.0.0; mailbox = taken mailbox init last.1 } in
    let told : (h : Hardware) → hardware ≡ Some h → IsDescribed row h
    = λ h is. let read = hhardware.each h is in record {
      limits = is_hardware mailbox h read.outputs read.inputs read.some_fmmus read.few_fmmus read.few (some_test mailbox hardware h last.0 is);
      pins = read.pins;
      revision = λ any. hdevice.1 (revision_none (get_member (codes "revision") ms) (sym read.any ∙ any));
    } in
    meets_ok P row (
      record {
        sound = type_read row hname hdevice.0 hmailbox hprocess.out_start hprocess.in_start (pdos_of_process process hprocess parts.1 row refl) told downloads;
        fresh = fresh (λ (t : TypeRow). t.name) name found parts.0;
      },
      (hhardware.there, λ none. hinit.1 (init_in v.version v.hardware ms keys none)),
    )))))))))))

pub type_added : (found : List TypeRow) (t : TypeRow) → AreTypes found → NewType found t → AreTypes (found ++ t ∷ [])
type_added found t h n = record { each = All-push IsType found t h.each n.sound; once = all_pairs_push (λ (t u : TypeRow). t.name ≢ u.name) found t h.once n.fresh }

pub types_met : (v : Format) (ds : Items) → Meets (rows_after (type_element v) [] 0 ds) AreTypes
types_met v ds = rows_met AreTypes NewType (type_element v) (λ n d found. members_met (NewType found) _ d _ (λ ms. record { all = λ t is. ((type_met v _ ms found).all t is).0 })) type_added [] 0 ds (record { each = All-nil IsType; once = λ i j d p q. absurd (omega arith) })

pub types_of_format : (v : Format) (ds : Items) → Meets (rows_after (type_element v) [] 0 ds) (All (λ (t : TypeRow). (is_some t.hardware ≡ v.hardware) × (v.hardware ≡ false → t.init ≡ [])))
types_of_format v ds =
    let P : TypeRow → Type 0 = λ t. (is_some t.hardware ≡ v.hardware) × (v.hardware ≡ false → t.init ≡ []) in
    rows_met (All P) (λ found t. P t) (type_element v) (λ n d found. members_met P _ d _ (λ ms. record { all = λ t is. ((type_met v _ ms found).all t is).1 })) (λ found t h n. All-push P found t h n) [] 0 ds (All-nil P)

-- ---- variables

pub record NewVariable (found : List VariableRow) (w : VariableRow) : Type 0 where
  pub sound : IsVariable w
  pub fresh : (k : ℕ) (d : VariableRow) → k < length found → (get_or found k d).name ≢ w.name

-- a table that isn't for hardware has no key `signed`
signed_in : (version : Version) (hardware : Bool) (ms : Members) → let f : Format = record { version = version; hardware = hardware } in keys_are shape.Variable f ms ≡ true → hardware ≡ false → get_member (codes "signed") ms ≡ None
signed_in version false ms keys e =
    let f : Format = record { version = version; hardware = false } in
    no_such_key (is_key shape.Variable f) (codes "signed") ms refl (and_parts (each_key (is_key shape.Variable f) ms) (has_required shape.Variable f ms) keys).0
signed_in version true ms keys e = cc

pub variable_met : (v : Format) (p : Position) (ms : Members) (found : List VariableRow) → Meets (variable_at v p ms found) (λ w. NewVariable found w × (v.hardware ≡ false → w.signed ≡ false))
unfolding variable_at
variable_met v p ms found =
    let P : VariableRow → Type 0 = λ w. NewVariable found w × (v.hardware ≡ false → w.signed ≡ false) in
    meets_then _ P _ _ (must_met (keys_are shape.Variable v ms) (BadKey p)) (λ u keys.
    meets_then _ P _ _ (name_met p (get_member (codes "name") ms)) (λ name hname.
    meets_then _ P _ _ (any_met (direction_in p (get_member (codes "dir") ms))) (λ direction _.
    meets_then _ P _ _ (number_met p 1 64 (get_member (codes "bits") ms)) (λ bits hbits.
    meets_then _ P _ _ (truth_met p false (get_member (codes "signed") ms)) (λ signed hsigned.
    meets_then _ P _ _ (must_met (not (is_named (λ (w : VariableRow). w.name) name found)) (TwiceNamed p)) (λ w hw.
    meets_ok P (record { name = name; direction = direction; bits = bits; signed = signed }) (
      record {
        sound = record { name = hname; least = hbits.0; most = hbits.1 };
        fresh = fresh (λ (x : VariableRow). x.name) name found (not_true _ hw);
      },
      λ none. hsigned (signed_in v.version v.hardware ms keys none),
    )))))))

pub variable_added : (found : List VariableRow) (w : VariableRow) → AreVariables found → NewVariable found w → AreVariables (found ++ w ∷ [])
variable_added found w h n = record { each = All-push IsVariable found w h.each n.sound; once = all_pairs_push (λ (w x : VariableRow). w.name ≢ x.name) found w h.once n.fresh }

pub variables_met : (v : Format) (ds : Items) → Meets (rows_after (variable_element v) [] 0 ds) AreVariables
variables_met v ds = rows_met AreVariables NewVariable (variable_element v) (λ n d found. members_met (NewVariable found) _ d _ (λ ms. record { all = λ w is. ((variable_met v _ ms found).all w is).0 })) variable_added [] 0 ds (record { each = All-nil IsVariable; once = λ i j d p q. absurd (omega arith) })

pub variables_of_format : (v : Format) (ds : Items) → Meets (rows_after (variable_element v) [] 0 ds) (All (λ (w : VariableRow). v.hardware ≡ false → w.signed ≡ false))
variables_of_format v ds =
    let P : VariableRow → Type 0 = λ w. v.hardware ≡ false → w.signed ≡ false in
    rows_met (All P) (λ found w. P w) (variable_element v) (λ n d found. members_met P _ d _ (λ ms. record { all = λ w is. ((variable_met v _ ms found).all w is).1 })) (λ found w h n. All-push P found w h n) [] 0 ds (All-nil P)
