-- Each fault of an element carries the element's place.
use Rattle.std.proofs.Common.{◌≡◌, ℕ, Bool, true, false, List, [], ◌∷◌, ◌++◌, ◌+◌, Result, Ok, Err, Option, Some, None, if◌then◌else◌, refl, codes, slice_get, unwrap_or, not, ◌&&◌, ◌||◌, option_and_then}
use Rattle.std.specs.Option.{ok_or}
use Rattle.std.specs.Str.{bytes_eq}
use Rattle.ec_table.specs.declared.rows.Direction.TheVariants.{Out, In}
use Rattle.toml.specs.Data.{Data, string, integer, float, boolean, datetime, array, table, Members, Items, no_items, item, get_member, at, as_array, as_bool, as_integer, as_str}
use Rattle.ec_table.specs.declared.fault.Fault.{Fault}
use Rattle.ec_table.specs.declared.fault.Fault.TheVariants.{BadKey, BadValue, TwiceNamed, UnknownName}
use Rattle.ec_table.specs.declared.fault.Position.{Position}
use Rattle.ec_table.specs.declared.described.Manner.{Manner}
use Rattle.ec_table.specs.declared.rows.Format.{Format}
use Rattle.ec_device.specs.declared.hardware.ProcessManager.{ProcessManager}
use Rattle.ec_device.specs.declared.hardware.Hardware.{Hardware}
use Rattle.ec_device.specs.Hardware.{usual_outputs, usual_inputs}
use Rattle.ec_table.specs.declared.rows.ProcessData.{ProcessData}
use Rattle.ec_table.specs.declared.rows.TypeRow.{TypeRow}
use Rattle.ec_table.specs.declared.rows.SlaveRow.{SlaveRow}
use Rattle.ec_table.specs.declared.rows.VariableRow.{VariableRow}
use Rattle.ec_table.specs.Faults.{fault_position}
use Rattle.ec_table.specs.Fields.{◌>>=◌, must, in_range, magnitude, is_name, number_in, name_in, mailbox_of, mailbox_in, direction_in, link_bits_of, link_bits_in, number_or_0, truth_in, manager_of, manager_in, fmmus_in}
use Rattle.ec_table.specs.InOrder.{members_in, rows_after}
use Rattle.ec_table.specs.Pdos.{entry_of, entry_row, array_of, array_in, pdo_of, pdo_row, pdos_in, number_row, number_list, numbers_in, indices_of, has_twice}
use Rattle.ec_device.specs.Parameters.{bit_count}
use Rattle.ec_table.specs.Parameters.{held, size_of, size_in, value_in, parameter_of, parameter_row, parameters_in}
use Rattle.ec_table.specs.Reading.{device_in, process_in, process_twice, manner_in, described, described_if, is_possible, suits, type_at, type_named, assigned_in, all_in, slave_at, slave_named, slave_of_type, variable_at, link_at}
use Rattle.ec_table.specs.Names.{is_named, index_named}
use Rattle.ec_table.specs.Laws.{FaultsHaveTheirPosition}

-- a fault, if there is one, is at the place
pub record FailsAt {A : Type 0} (p : Position) (r : Result A Fault) : Type 0 where
  pub at : (f : Fault) → r ≡ Err f → fault_position f ≡ Some p

fails_ok : {A : Type 0} (p : Position) (x : A) → FailsAt p (Ok x)
fails_ok p x = record { at = λ f is. cc }

fails_err : {A : Type 0} (p : Position) (g : Fault) → fault_position g ≡ Some p → FailsAt {A = A} p (Err g)
fails_err p g h = record { at = λ f is. let e : g ≡ f = cc in rw (← e) h }

fails_then : {A B : Type 0} (p : Position) (m : Result A Fault) (f : A → Result B Fault) → FailsAt p m → ((x : A) → FailsAt p (f x)) → FailsAt p (m >>= f)
fails_then p (Ok x) f h k = k x
fails_then p (Err e) f h k = record { at = λ g is. let s : e ≡ g = cc in rw (← s) (h.at e refl) }

fails_if : {A : Type 0} (p : Position) (b : Bool) (x : A) (g : Fault) → fault_position g ≡ Some p → FailsAt p (if b then Ok x else Err g)
fails_if p true x g h = fails_ok p x
fails_if p false x g h = fails_err p g h

fails_either : {A : Type 0} (p : Position) (b c : Bool) (x y : A) (g : Fault) → fault_position g ≡ Some p → FailsAt p (if b then Ok x else if c then Ok y else Err g)
fails_either p true c x y g h = fails_ok p x
fails_either p false c x y g h = fails_if p c y g h

fails_none : {A : Type 0} (p : Position) (o : Option A) (g : Fault) → fault_position g ≡ Some p → FailsAt p (ok_or o g)
fails_none p (Some x) g h = fails_ok p x
fails_none p None g h = fails_err p g h

fails_number : (p : Position) (low high : ℕ) (v : Option Data) → FailsAt p (number_in p low high v)
unfolding number_in
fails_number p low high v = fails_then p (ok_or (option_and_then as_integer v) (BadValue p)) _ (fails_none p _ (BadValue p) refl) (λ z. fails_if p (in_range low high z) (magnitude z) (BadValue p) refl)

fails_name : (p : Position) (v : Option Data) → FailsAt p (name_in p v)
unfolding name_in
fails_name p v = fails_then p (ok_or (option_and_then as_str v) (BadValue p)) _ (fails_none p _ (BadValue p) refl) (λ s. fails_if p (is_name s) s (BadValue p) refl)

fails_must : (p : Position) (b : Bool) (g : Fault) → fault_position g ≡ Some p → FailsAt p (must b g)
fails_must p b g h = fails_if p b tt g h

fails_mailbox : (p : Position) (v : Option Data) → FailsAt p (mailbox_in p v)
unfolding mailbox_in mailbox_of
fails_mailbox p None = fails_ok p None
fails_mailbox p (Some d) =
    fails_then p _ _
    (fails_then p _ _ (fails_number p 0 65535 (at 0 d)) (λ a.
    fails_then p _ _ (fails_number p 16 1024 (at 1 d)) (λ b.
    fails_then p _ _ (fails_number p 0 65535 (at 2 d)) (λ e.
    fails_then p _ _ (fails_number p 16 1024 (at 3 d)) (λ f.
    fails_then p _ _ (fails_must p _ (BadValue p) refl) (λ u. fails_ok p _))))))
    (λ m. fails_ok p (Some m))

fails_rows : {X : Type 0} (p : Position) (row : ℕ → Data → List X → Result X Fault) → ((n : ℕ) (d : Data) (found : List X) → FailsAt p (row n d found)) → (found : List X) (n : ℕ) (ds : Items) → FailsAt p (rows_after row found n ds)
unfolding rows_after
fails_rows p row one found n no_items = fails_ok p found
fails_rows p row one found n (item d ds) = fails_then p _ _ (one n d found) (λ x. fails_rows p row one (found ++ x ∷ []) (n + 1) ds)

fails_array : {X : Type 0} (p : Position) (row : ℕ → Data → List X → Result X Fault) (most : ℕ) → ((n : ℕ) (d : Data) (found : List X) → FailsAt p (row n d found)) → (v : Option Data) → FailsAt p (array_in row p most v)
unfolding array_of
fails_array p row most one None = fails_ok p []
fails_array p row most one (Some d) =
    fails_then p _ _ (fails_none p (as_array d) (BadValue p) refl) (λ ds.
    fails_then p _ _ (fails_rows p row one [] 0 ds) (λ xs.
    fails_then p _ _ (fails_must p _ (BadValue p) refl) (λ u. fails_ok p xs)))

pub fails_members : {A : Type 0} (p : Position) (d : Data) (f : Members → Result A Fault) → ((ms : Members) → FailsAt p (f ms)) → FailsAt p (members_in p d >>= f)
fails_members p (table ms) f h = h ms
fails_members p (string s) f h = fails_err p (BadValue p) refl
fails_members p (integer z) f h = fails_err p (BadValue p) refl
fails_members p (float x) f h = fails_err p (BadValue p) refl
fails_members p (boolean b) f h = fails_err p (BadValue p) refl
fails_members p (datetime t) f h = fails_err p (BadValue p) refl
fails_members p (array ds) f h = fails_err p (BadValue p) refl

fails_entry : (p : Position) (d : Data) → FailsAt p (entry_of p d)
unfolding entry_of
fails_entry p d =
    fails_then p _ _ (fails_number p 0 65535 (at 0 d)) (λ a.
    fails_then p _ _ (fails_number p 0 255 (at 1 d)) (λ b.
    fails_then p _ _ (fails_number p 1 64 (at 2 d)) (λ n.
    fails_then p _ _ (fails_must p _ (BadValue p) refl) (λ u. fails_ok p _))))

fails_pdo : (p : Position) (low high : ℕ) (ms : Members) → FailsAt p (pdo_of p low high ms)
unfolding pdo_of
fails_pdo p low high ms =
    fails_then p _ _ (fails_must p _ (BadValue p) refl) (λ u.
    fails_then p _ _ (fails_number p low high (get_member (codes "index") ms)) (λ n.
    fails_then p _ _ (fails_array p (entry_row p) 64 (λ k d found. fails_entry p d) (get_member (codes "entries") ms)) (λ es. fails_ok p _)))

fails_pdos : (p : Position) (low high : ℕ) (v : Option Data) → FailsAt p (pdos_in p low high v)
fails_pdos p low high v = fails_array p (pdo_row p low high) 16 (λ n d found. fails_members p d (pdo_of p low high) (fails_pdo p low high)) v

fails_truth : (p : Position) (left_out : Bool) (v : Option Data) → FailsAt p (truth_in p left_out v)
fails_truth p left_out None = fails_ok p left_out
fails_truth p left_out (Some d) = fails_none p (as_bool d) (BadValue p) refl

fails_number_or_0 : (p : Position) (most : ℕ) (v : Option Data) → FailsAt p (number_or_0 p most v)
fails_number_or_0 p most None = fails_ok p 0
fails_number_or_0 p most (Some d) = fails_number p 0 most (Some d)

fails_device : (p : Position) (vendor product revision : Option Data) → FailsAt p (device_in p vendor product revision)
unfolding device_in
fails_device p vendor product revision =
    fails_then p _ _ (fails_number p 0 4294967295 vendor) (λ a.
    fails_then p _ _ (fails_number p 0 4294967295 product) (λ b.
    fails_then p _ _ (fails_number_or_0 p 4294967295 revision) (λ e. fails_ok p _)))

fails_process : (p : Position) (out_start in_start rxpdo txpdo : Option Data) → FailsAt p (process_in p out_start in_start rxpdo txpdo)
unfolding process_in
fails_process p out_start in_start rxpdo txpdo =
    fails_then p _ _ (fails_number_or_0 p 65535 out_start) (λ a.
    fails_then p _ _ (fails_number_or_0 p 65535 in_start) (λ b.
    fails_then p _ _ (fails_pdos p 0x1600 0x17FF rxpdo) (λ os.
    fails_then p _ _ (fails_pdos p 0x1A00 0x1BFF txpdo) (λ is. fails_ok p _))))

fails_manager : (p : Position) (usual : ProcessManager) (v : Option Data) → FailsAt p (manager_in p usual v)
unfolding manager_in manager_of
fails_manager p usual None = fails_ok p usual
fails_manager p usual (Some d) =
    fails_then p _ _ (fails_number p 0 3 (at 0 d)) (λ a.
    fails_then p _ _ (fails_number p 0 255 (at 1 d)) (λ b.
    fails_then p _ _ (fails_must p _ (BadValue p) refl) (λ u. fails_ok p _)))

fails_fmmus : (p : Position) (v : Option Data) → FailsAt p (fmmus_in p v)
fails_fmmus p None = fails_ok p 4
fails_fmmus p (Some d) = fails_number p 2 4 (Some d)

fails_manner : (p : Position) (fixed slow emergency : Option Data) → FailsAt p (manner_in p fixed slow emergency)
unfolding manner_in
fails_manner p fixed slow emergency =
    fails_then p _ _ (fails_truth p false fixed) (λ a.
    fails_then p _ _ (fails_number_or_0 p 100 slow) (λ b.
    fails_then p _ _ (fails_truth p false emergency) (λ e. fails_ok p _)))

fails_described : (p : Position) (process : ProcessData) (manner : Manner) (out_manager in_manager firmware fmmus revision : Option Data) → FailsAt p (described p process manner out_manager in_manager firmware fmmus revision)
unfolding described
fails_described p process manner out_manager in_manager firmware fmmus revision =
    fails_then p _ _ (fails_manager p usual_outputs out_manager) (λ a.
    fails_then p _ _ (fails_manager p usual_inputs in_manager) (λ b.
    fails_then p _ _ (fails_truth p true firmware) (λ e.
    fails_then p _ _ (fails_fmmus p fmmus) (λ n. fails_ok p _))))

fails_described_if : (p : Position) (hardware : Bool) (read : Result Hardware Fault) → FailsAt p read → FailsAt p (described_if hardware read)
fails_described_if p false read h = fails_ok p None
fails_described_if p true read h = fails_then p read _ h (λ x. fails_ok p (Some x))

fails_parameter : (p : Position) (d : Data) → FailsAt p (parameter_of p d)
unfolding parameter_of size_in value_in
fails_parameter p d =
    fails_then p _ _ (fails_number p 0 65535 (at 0 d)) (λ a.
    fails_then p _ _ (fails_number p 0 255 (at 1 d)) (λ b.
    fails_then p _ _ (fails_then p _ _ (fails_number p 8 32 (at 2 d)) (λ bits. fails_none p (size_of bits) (BadValue p) refl)) (λ size.
    fails_then p _ _ (fails_none p (option_and_then (held (bit_count size)) (option_and_then as_integer (at 3 d))) (BadValue p) refl) (λ n.
    fails_then p _ _ (fails_must p _ (BadValue p) refl) (λ u. fails_ok p _)))))

fails_parameters : (p : Position) (v : Option Data) → FailsAt p (parameters_in p v)
fails_parameters p v = fails_array p (parameter_row p) 64 (λ n d found. fails_parameter p d) v

fails_numbers : (p : Position) (low high : ℕ) (v : Option Data) → FailsAt p (numbers_in p low high v)
unfolding number_list
fails_numbers p low high None = fails_ok p None
fails_numbers p low high (Some d) =
    fails_then p _ _
    (fails_then p _ _ (fails_none p (as_array d) (BadValue p) refl) (λ ds. fails_rows p (number_row p low high) (λ n d found. fails_number p low high (Some d)) [] 0 ds))
    (λ xs. fails_ok p (Some xs))

fails_direction : (p : Position) (v : Option Data) → FailsAt p (direction_in p v)
unfolding direction_in
fails_direction p v = fails_then p (ok_or (option_and_then as_str v) (BadValue p)) _ (fails_none p _ (BadValue p) refl) (λ s. fails_either p (bytes_eq s (codes "out")) (bytes_eq s (codes "in")) Out In (BadValue p) refl)

fails_link_bits : (p : Position) (v : Option Data) → FailsAt p (link_bits_in p v)
unfolding link_bits_in link_bits_of
fails_link_bits p None = fails_ok p None
fails_link_bits p (Some d) =
    fails_then p _ _
    (fails_then p _ _ (fails_number p 0 63 (at 0 d)) (λ a.
    fails_then p _ _ (fails_number p 0 63 (at 1 d)) (λ b.
    fails_then p _ _ (fails_number p 1 64 (at 2 d)) (λ e.
    fails_then p _ _ (fails_must p _ (BadValue p) refl) (λ u. fails_ok p _)))))
    (λ m. fails_ok p (Some m))

fails_assigned : (p : Position) (t : TypeRow) (s : SlaveRow) → FailsAt p (assigned_in p t s)
unfolding assigned_in
fails_assigned p t s =
    fails_then p _ _ (fails_must p (all_in s.outputs (indices_of t.process.outputs) && all_in s.inputs (indices_of t.process.inputs)) (UnknownName p) refl) (λ u.
    fails_then p _ _ (fails_must p (suits t s) (BadValue p) refl) (λ w. fails_ok p s))

fails_type_named : (v : Format) (p : Position) (ms : Members) (name : List ℕ) (is_taken : Bool) → FailsAt p (type_named v p ms name is_taken)
unfolding type_named
fails_type_named v p ms name is_taken =
    fails_then p _ _ (fails_device p _ _ _) (λ device.
    fails_then p _ _ (fails_mailbox p (get_member (codes "mailbox") ms)) (λ mailbox.
    fails_then p _ _ (fails_process p _ _ _ _) (λ process.
    fails_then p _ _ (fails_truth p true (get_member (codes "lrw") ms)) (λ lrw.
    fails_then p _ _ (fails_described_if p v.hardware _ (fails_then p _ _ (fails_manner p _ _ _) (λ manner. fails_described p process manner _ _ _ _ _))) (λ hardware.
    fails_then p _ _ (fails_parameters p (get_member (codes "init") ms)) (λ init.
    fails_then p _ _ (fails_must p (not (is_taken || process_twice process)) (TwiceNamed p) refl) (λ w.
    fails_then p _ _ (fails_must p (is_possible mailbox hardware init) (BadValue p) refl) (λ x. fails_ok p _))))))))

pub fails_type : (v : Format) (p : Position) (ms : Members) (found : List TypeRow) → FailsAt p (type_at v p ms found)
unfolding type_at
fails_type v p ms found =
    fails_then p _ _ (fails_must p _ (BadKey p) refl) (λ u.
    fails_then p _ _ (fails_name p (get_member (codes "name") ms)) (λ name. fails_type_named v p ms name (is_named (λ (t : TypeRow). t.name) name found)))

pub fails_slave : (v : Format) (ts : List TypeRow) (p : Position) (ms : Members) (found : List SlaveRow) → FailsAt p (slave_at v ts p ms found)
unfolding slave_at slave_named slave_of_type
fails_slave v ts p ms found =
    fails_then p _ _ (fails_must p _ (BadKey p) refl) (λ u.
    fails_then p _ _ (fails_name p (get_member (codes "name") ms)) (λ name.
    fails_then p _ _ (fails_name p (get_member (codes "type") ms)) (λ type_name.
    fails_then p _ _ (fails_numbers p 0x1600 0x17FF (get_member (codes "out") ms)) (λ outputs.
    fails_then p _ _ (fails_numbers p 0x1A00 0x1BFF (get_member (codes "in") ms)) (λ inputs.
    fails_then p _ _ (fails_number_or_0 p 4294967295 (get_member (codes "serial") ms)) (λ serial.
    fails_then p _ _ (fails_number_or_0 p 63 (get_member (codes "unit") ms)) (λ unit.
    fails_then p _ _ (fails_parameters p (get_member (codes "init") ms)) (λ init.
    fails_then p _ _ (fails_must p (not (is_named (λ (s : SlaveRow). s.name) name found || (has_twice (unwrap_or outputs []) || has_twice (unwrap_or inputs [])))) (TwiceNamed p) refl) (λ w.
    fails_then p _ _ (fails_none p (index_named (λ (t : TypeRow). t.name) type_name ts) (UnknownName p) refl) (λ place.
    fails_then p _ _ (fails_none p (slice_get ts place) (UnknownName p) refl) (λ t. fails_assigned p t (record { name = name; type_index = place; outputs = unwrap_or outputs (indices_of t.process.outputs); inputs = unwrap_or inputs (indices_of t.process.inputs); serial = serial; unit = unit; init = init }))))))))))))

pub fails_variable : (v : Format) (p : Position) (ms : Members) (found : List VariableRow) → FailsAt p (variable_at v p ms found)
unfolding variable_at
fails_variable v p ms found =
    fails_then p _ _ (fails_must p _ (BadKey p) refl) (λ u.
    fails_then p _ _ (fails_name p (get_member (codes "name") ms)) (λ name.
    fails_then p _ _ (fails_direction p (get_member (codes "dir") ms)) (λ direction.
    fails_then p _ _ (fails_number p 1 64 (get_member (codes "bits") ms)) (λ bits.
    fails_then p _ _ (fails_truth p false (get_member (codes "signed") ms)) (λ signed.
    fails_then p _ _ (fails_must p _ (TwiceNamed p) refl) (λ w. fails_ok p _))))))

pub fails_link : (v : Format) (ss : List SlaveRow) (ws : List VariableRow) (p : Position) (ms : Members) → FailsAt p (link_at v ss ws p ms)
unfolding link_at
fails_link v ss ws p ms =
    fails_then p _ _ (fails_must p _ (BadKey p) refl) (λ u.
    fails_then p _ _ (fails_name p (get_member (codes "var") ms)) (λ variable_name.
    fails_then p _ _ (fails_name p (get_member (codes "slave") ms)) (λ slave_name.
    fails_then p _ _ (fails_number p 1 65535 (get_member (codes "index") ms)) (λ index.
    fails_then p _ _ (fails_number p 0 255 (get_member (codes "sub") ms)) (λ subindex.
    fails_then p _ _ (fails_link_bits p (get_member (codes "bits") ms)) (λ bits.
    fails_then p _ _ (fails_none p _ (UnknownName p) refl) (λ variable.
    fails_then p _ _ (fails_none p (slice_get ws variable) (UnknownName p) refl) (λ w.
    fails_then p _ _ (fails_none p _ (UnknownName p) refl) (λ slave. fails_ok p _)))))))))

pub placed : FaultsHaveTheirPosition
placed = record {
  types = λ v n d found f is. (fails_members _ d _ (λ ms. fails_type v _ ms found)).at f is;
  slaves = λ v ts n d found f is. (fails_members _ d _ (λ ms. fails_slave v ts _ ms found)).at f is;
  variables = λ v n d found f is. (fails_members _ d _ (λ ms. fails_variable v _ ms found)).at f is;
  links = λ v ss ws n d found f is. (fails_members _ d _ (λ ms. fails_link v ss ws _ ms)).at f is;
}
