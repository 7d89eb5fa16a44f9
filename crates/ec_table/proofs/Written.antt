-- A sound table, written out, is read: values, entries, objects, variables.
use Rattle.std.proofs.Common.{◌≡◌, ◌≢◌, ℕ, ◌+◌, ◌<◌, ◌≤◌, Bool, true, false, not, ◌||◌, ◌==◌, nat_le, nat_lt, ◌^◌, List, [], ◌∷◌, ◌++◌, length, get_or, map, Result, Ok, Some, All, AllPairs, refl, sym, ◌∙◌, ap, subst, arith, append_assoc, length-append}
use Rattle.std.specs.List.{list_any}
use Rattle.std.specs.Str.{bytes_eq}
use Rattle.std.proofs.lemmas.Bool.Decides.{nat_tests}
use Rattle.std.proofs.lemmas.List.{append-nil}
use Rattle.std.proofs.lemmas.List.Folds.{list_any_none}
use Rattle.std.proofs.lemmas.Slice.Eq.{bytes_eq-Decides}
use Rattle.std.proofs.Math.Seq.{get_or-append_seam}
use Rattle.std.proofs.Math.ListN.{get_or-append}
use Rattle.toml.specs.Data.{Data, string}
use Rattle.toml.specs.View.{items_of}
use Rattle.ec_device.specs.declared.slave_type.Entry.{Entry}
use Rattle.ec_device.specs.declared.slave_type.Pdo.{Pdo}
use Rattle.ec_device.specs.declared.slave_type.Mailbox.{Mailbox}
use Rattle.ec_device.specs.declared.hardware.ProcessManager.{ProcessManager}
use Rattle.ec_device.specs.declared.parameter.Parameter.{Parameter}
use Rattle.ec_device.specs.declared.parameter.ParameterSize.{ParameterSize}
use Rattle.ec_device.specs.declared.parameter.ParameterSize.TheVariants as sizes
use Rattle.ec_device.specs.Parameters.{bit_count}
use Rattle.ec_table.specs.declared.fault.Fault.{Fault}
use Rattle.ec_table.specs.declared.fault.Position.{Position}
use Rattle.ec_table.specs.declared.rows.Format.{Format}
use Rattle.ec_table.specs.declared.rows.Version.{Version}
use Rattle.ec_table.specs.declared.rows.Direction.{Direction}
use Rattle.ec_table.specs.declared.rows.Direction.TheVariants.{Out, In}
use Rattle.ec_table.specs.declared.rows.VariableRow.{VariableRow}
use Rattle.ec_table.specs.declared.rows.LinkBits.{LinkBits}
use Rattle.ec_table.specs.Fields.{number_in, name_in, mailbox_of, mailbox_in, manager_of, manager_in, direction_in, link_bits_of, link_bits_in}
use Rattle.ec_table.specs.InOrder.{rows_after}
use Rattle.ec_table.specs.Pdos.{entry_of, entry_row, array_of, array_in, pdo_of, pdo_row, pdos_in, number_row, number_list, numbers_in}
use Rattle.ec_table.specs.Parameters.{size_in, value_in, parameter_of, parameter_row, parameters_in}
use Rattle.ec_table.specs.Reading.{variable_at}
use Rattle.ec_table.specs.Names.{is_named}
use Rattle.ec_table.specs.Sound.{IsName, IsDownload, IsVariable, IsBits, first_index}
use Rattle.ec_table.proofs.Ranges.{ReadMailbox, ReadEntry, ReadPdo, ReadPdos, last_index}
use Rattle.ec_table.proofs.SoundReads.{false_from, ReadManager}
use Rattle.ec_table.specs.Writing.{number, array_of_all, parameter_data, entry_data, pdo_data, mailbox_data, manager_data, direction_text, variable_members, bits_data}

-- ---- values

test_from_le : (n m : ℕ) → n ≤ m → nat_le n m ≡ true
test_from_le n m h = grind (arith, nat_tests)

pub number_reads : (p : Position) (low high n : ℕ) → low ≤ n → n ≤ high → number_in p low high (Some (number n)) ≡ Ok n
unfolding number_in
number_reads p low high n least most = rw (test_from_le low n least, test_from_le n high most) refl

pub name_reads : (p : Position) (s : List ℕ) → IsName s → name_in p (Some (string s)) ≡ Ok s
unfolding name_in
name_reads p s h = rw h refl

pub direction_reads : (p : Position) (d : Direction) → direction_in p (Some (string (direction_text d))) ≡ Ok d
unfolding direction_in
direction_reads p Out = refl
direction_reads p In = refl

pub mailbox_reads : (p : Position) (m : Mailbox) → ReadMailbox m → mailbox_in p (Some (mailbox_data m)) ≡ Ok (Some m)
unfolding mailbox_in mailbox_of
mailbox_reads p m h = rw (number_reads p 0 65535 m.receive_start (omega arith) h.receive_start, number_reads p 16 1024 m.receive_size h.receive_least h.receive_most, number_reads p 0 65535 m.send_start (omega arith) h.send_start, number_reads p 16 1024 m.send_size h.send_least h.send_most) refl

pub manager_reads : (p : Position) (usual m : ProcessManager) → ReadManager m → manager_in p usual (Some (manager_data m)) ≡ Ok m
unfolding manager_in manager_of
manager_reads p usual m h = rw (number_reads p 0 3 m.number (omega arith) h.number, number_reads p 0 255 m.control (omega arith) h.control) refl

pub bits_read : (p : Position) (b : LinkBits) → IsBits b → link_bits_in p (Some (bits_data b)) ≡ Ok (Some b)
unfolding link_bits_in link_bits_of
bits_read p b h = rw (number_reads p 0 63 b.variable_bit (omega arith) h.variable_bit, number_reads p 0 63 b.entry_bit (omega arith) h.entry_bit, number_reads p 1 64 b.count h.least h.most) refl

-- ---- lists

-- rows that are read one after another
pub rows_written : {X : Type 0} (row : ℕ → Data → List X → Result X Fault) (spell : X → Data) (found xs : List X) → ((before : List X) (x : X) (after : List X) → before ++ x ∷ after ≡ found ++ xs → row (length before) (spell x) before ≡ Ok x) → rows_after row found (length found) (items_of (map spell xs)) ≡ Ok (found ++ xs)
unfolding rows_after
rows_written row spell found [] h = ap Ok (sym (append-nil found))
rows_written row spell found (x ∷ xs) h =
    let more : rows_after row (found ++ x ∷ []) (length (found ++ x ∷ [])) (items_of (map spell xs)) ≡ Ok ((found ++ x ∷ []) ++ xs) = rows_written row spell (found ++ x ∷ []) xs (λ before y after e. h before y after (e ∙ append_assoc found (x ∷ []) xs)) in
    let count : length (found ++ x ∷ []) ≡ length found + 1 = length-append found (x ∷ []) in
    rw (h found x xs refl, ← count, more, append_assoc found (x ∷ []) xs) refl

-- an element in the middle
pub middle : {X : Type 0} (P : X → Type 0) (before : List X) (x : X) (after xs : List X) → before ++ x ∷ after ≡ xs → All P xs → P x
middle P before x after xs e h =
    let within : length before < length (before ++ x ∷ after) = simp length-append (omega arith) in
    let there : get_or (before ++ x ∷ after) (length before) x ≡ x = get_or-append_seam before x after x in
    let all : All P (before ++ x ∷ after) = rw e h in
    subst P there (all (length before) x within)

no_gap_name : (e : Entry) → ReadEntry e → (not (e.index == 0) || (e.subindex == 0)) ≡ true
no_gap_name e h = let gap : e.index ≡ 0 → e.subindex ≡ 0 = h.gap in grind (arith, nat_tests, gap)

pub entry_reads : (p : Position) (e : Entry) → ReadEntry e → entry_of p (entry_data e) ≡ Ok e
unfolding entry_of
entry_reads p e h = rw (number_reads p 0 65535 e.index (omega arith) h.index, number_reads p 0 255 e.subindex (omega arith) h.subindex, number_reads p 1 64 e.bits h.least h.most, no_gap_name e h) refl

pub array_reads : {X : Type 0} (row : ℕ → Data → List X → Result X Fault) (spell : X → Data) (P : X → Type 0) (p : Position) (most : ℕ) (xs : List X) → ((n : ℕ) (x : X) (found : List X) → P x → row n (spell x) found ≡ Ok x) → All P xs → length xs ≤ most → array_in row p most (Some (array_of_all spell xs)) ≡ Ok xs
unfolding array_of
array_reads row spell P p most xs one all few =
    let rows : rows_after row [] 0 (items_of (map spell xs)) ≡ Ok xs = rows_written row spell [] xs (λ before x after e. one (length before) x before (middle P before x after xs e all)) in
    rw (rows, test_from_le (length xs) most few) refl

pub pdo_reads : (p : Position) (d : Direction) (q : Pdo) → ReadPdo d q → pdo_row p (first_index d) (last_index d) 0 (pdo_data q) [] ≡ Ok q
unfolding pdo_of
pdo_reads p d q h = rw (number_reads p (first_index d) (last_index d) q.index h.first h.last, array_reads (entry_row p) entry_data ReadEntry p 64 q.entries (λ n e found he. entry_reads p e he) h.entries h.few) refl

pub pdos_read : (p : Position) (d : Direction) (qs : List Pdo) → ReadPdos d qs → pdos_in p (first_index d) (last_index d) (Some (array_of_all pdo_data qs)) ≡ Ok qs
pdos_read p d qs h = array_reads (pdo_row p (first_index d) (last_index d)) pdo_data (ReadPdo d) p 16 qs (λ n q found hq. pdo_reads p d q hq) h.each h.few

pub numbers_read : (p : Position) (low high : ℕ) (xs : List ℕ) → All (λ n. (low ≤ n) × (n ≤ high)) xs → numbers_in p low high (Some (array_of_all number xs)) ≡ Ok (Some xs)
unfolding number_list
numbers_read p low high xs h =
    let rows : rows_after (number_row p low high) [] 0 (items_of (map number xs)) ≡ Ok xs = rows_written (number_row p low high) number [] xs (λ before x after e. let fits : (low ≤ x) × (x ≤ high) = middle (λ n. (low ≤ n) × (n ≤ high)) before x after xs e h in number_reads p low high x fits.0 fits.1) in
    rw rows refl

-- ---- downloads

size_reads : (p : Position) (size : ParameterSize) → size_in p (Some (number (bit_count size))) ≡ Ok size
unfolding size_in number_in
size_reads p sizes.One = refl
size_reads p sizes.Two = refl
size_reads p sizes.Four = refl

test_from_lt : (n m : ℕ) → n < m → nat_lt n m ≡ true
test_from_lt n m h = grind (arith, nat_tests)

value_reads : (p : Position) (size : ParameterSize) (n : ℕ) → n < 2 ^ bit_count size → value_in p size (Some (number n)) ≡ Ok n
unfolding value_in
value_reads p size n h = rw (test_from_lt n (2 ^ bit_count size) h) refl

parameter_reads : (p : Position) (q : Parameter) → IsDownload q → parameter_of p (parameter_data q) ≡ Ok q
unfolding parameter_of
parameter_reads p q h = rw (number_reads p 0 65535 q.index (omega arith) h.index, number_reads p 0 255 q.subindex (omega arith) h.subindex, size_reads p q.size, value_reads p q.size q.value h.value) refl

pub parameters_read : (p : Position) (qs : List Parameter) → All IsDownload qs → length qs ≤ 64 → parameters_in p (Some (array_of_all parameter_data qs)) ≡ Ok qs
parameters_read p qs all few = array_reads (parameter_row p) parameter_data IsDownload p 64 qs (λ n q found hq. parameter_reads p q hq) all few

-- ---- names

pub differ : (s t : List ℕ) → s ≢ t → bytes_eq s t ≡ false
differ s t h = false_from (bytes_eq s t) (λ e. h ((bytes_eq-Decides s t).0 e))

-- a name that stands later is none of those before
pub not_before : {X : Type 0} (name_of : X → List ℕ) (before : List X) (x : X) (after xs : List X) → before ++ x ∷ after ≡ xs → AllPairs (λ a b. name_of a ≢ name_of b) xs → list_any (λ y. bytes_eq (name_of y) (name_of x)) before ≡ false
not_before name_of before x after xs e h =
    list_any_none (λ y. bytes_eq (name_of y) (name_of x)) before (λ k d lt.
    let pairs : AllPairs (λ a b. name_of a ≢ name_of b) (before ++ x ∷ after) = rw e h in
    let within : length before < length (before ++ x ∷ after) = simp length-append (omega arith) in
    let left : get_or (before ++ x ∷ after) k d ≡ get_or before k d = get_or-append before (x ∷ after) d k lt in
    let right : get_or (before ++ x ∷ after) (length before) d ≡ x = get_or-append_seam before x after d in
    let apart : name_of (get_or before k d) ≢ name_of x = λ same. pairs k (length before) d lt within (ap name_of left ∙ same ∙ ap name_of (sym right)) in
    differ (name_of (get_or before k d)) (name_of x) apart)

-- ---- variables

signed_reads : (version : Version) (hardware : Bool) (p : Position) (name : List ℕ) (direction : Direction) (bits : ℕ) (signed : Bool) (found : List VariableRow) → let w : VariableRow = record { name = name; direction = direction; bits = bits; signed = signed } in let f : Format = record { version = version; hardware = hardware } in
    (hardware ≡ false → signed ≡ false) → IsVariable w → is_named (λ (w : VariableRow). w.name) name found ≡ false → variable_at f p (variable_members hardware w) found ≡ Ok w
unfolding variable_at
signed_reads version false p name direction bits signed found none h fresh = rw (none refl, name_reads p name h.name, direction_reads p direction, number_reads p 1 64 bits h.least h.most, fresh) refl
signed_reads version true p name direction bits signed found none h fresh = rw (name_reads p name h.name, direction_reads p direction, number_reads p 1 64 bits h.least h.most, fresh) refl

pub variable_reads : (v : Format) (p : Position) (w : VariableRow) (found : List VariableRow) → (v.hardware ≡ false → w.signed ≡ false) → IsVariable w → is_named (λ (w : VariableRow). w.name) w.name found ≡ false → variable_at v p (variable_members v.hardware w) found ≡ Ok w
variable_reads v p w found none h fresh = signed_reads v.version v.hardware p w.name w.direction w.bits w.signed found none h fresh
