-- A sound table, written out, is read: slaves, links, the document.
use Rattle.std.proofs.Common.{◌≡◌, ◌≢◌, ℕ, ◌+◌, ◌<◌, ◌≤◌, Bool, true, false, ◌&&◌, ◌||◌, ◌==◌, nat_lt, List, [], ◌∷◌, length, get_or, map, Ok, Some, position, All, AllPairs, Contains, slice_get, refl, sym, ◌∙◌, ap, subst, arith, add-one}
use Rattle.std.specs.List.{list_any, position_or_len}
use Rattle.std.specs.Str.{bytes_eq}
use Rattle.std.proofs.lemmas.Bool.{or_from}
use Rattle.std.proofs.lemmas.Bool.Decides.{nat_tests, Decides-eqb}
use Rattle.std.proofs.lemmas.List.Elements.{All-nil, All-cons, All-get_or, All-contains}
use Rattle.std.proofs.lemmas.List.Folds.{list_any_at}
use Rattle.std.proofs.lemmas.List.Sums.{position_or_len_is}
use Rattle.std.proofs.lemmas.Option.{slice_get_within, get_or_from_slice_get, slice_get-get_or}
use Rattle.std.proofs.lemmas.Slice.Eq.{bytes_eq-Decides}
use Rattle.toml.specs.Data.{table, boolean, Members}
use Rattle.toml.specs.View.{items_of}
use Rattle.ec_device.specs.declared.slave_type.Pdo.{Pdo}
use Rattle.ec_device.specs.Hardware.{is_assignable}
use Rattle.ec_table.specs.declared.fault.Position.{Position}
use Rattle.ec_table.specs.declared.rows.Format.{Format}
use Rattle.ec_table.specs.declared.rows.Version.{Version}
use Rattle.ec_table.specs.declared.rows.Version.TheVariants.{One, Two}
use Rattle.ec_table.specs.declared.rows.Direction.{Direction}
use Rattle.ec_table.specs.declared.rows.Direction.TheVariants.{Out, In}
use Rattle.ec_table.specs.declared.rows.TypeRow.{TypeRow}
use Rattle.ec_table.specs.declared.rows.SlaveRow.{SlaveRow}
use Rattle.ec_table.specs.declared.rows.VariableRow.{VariableRow}
use Rattle.ec_table.specs.declared.rows.LinkRow.{LinkRow}
use Rattle.ec_table.specs.Contents.{Contents, format_of, as_stated, pdos_toward, assigned_toward}
use Rattle.ec_table.specs.Fields.{number_in, section_in, are_tables, version_in, format_in}
use Rattle.ec_table.specs.InOrder.{rows_after}
use Rattle.ec_table.specs.Pdos.{indices_of, has_twice}
use Rattle.ec_table.specs.Reading.{all_in, same_list, assigned_in, slave_at, slave_named, slave_of_type, slave_element, link_at, link_element, table_of_document, table_of_sections, top}
use Rattle.ec_table.specs.Names.{is_named}
use Rattle.ec_table.specs.Sound.{IsName, IsType, AreTypes, IsAssignment, AreDownloads, IsSlave, AreSlaves, IsVariable, AreVariables, IsLink, IsSound, first_index}
use Rattle.ec_table.proofs.Ranges.{ReadPdo, last_index, pdos_toward_read}
use Rattle.ec_table.specs.Writing.{number, array_of_all, type_members, slave_members, variable_members, link_members, version_number, document_of}
use Rattle.ec_table.proofs.Written.{number_reads, name_reads, bits_read, rows_written, middle, numbers_read, parameters_read, differ, not_before}
use Rattle.ec_table.proofs.WrittenRows.{test_from_once, taken_from, types_read, variables_read}
use Rattle.ec_table.proofs.SoundRows.{type_at_place}

-- ---- names

there_is : {X : Type 0} (xs : List X) (k : ℕ) → k < length xs → (x : X) × (slice_get xs k ≡ Some x)
there_is [] k h = absurd (omega arith)
there_is (x ∷ xs) k h = (get_or (x ∷ xs) k x, slice_get-get_or (x ∷ xs) k x h)

lt_test : (n m : ℕ) → n < m → nat_lt n m ≡ true
lt_test n m h = grind (arith, nat_tests)

-- the first that passes
position_is : {X : Type 0} (test : X → Bool) (xs : List X) (k : ℕ) (x : X) → slice_get xs k ≡ Some x → test x ≡ true → ((j : ℕ) → j < k → test (get_or xs j x) ≡ false) → position test xs ≡ Some k
position_is test xs k x is pass before =
    let within : k < length xs = slice_get_within xs k x is in
    let here : get_or xs k x ≡ x = get_or_from_slice_get xs k x x is in
    let at : position_or_len test xs ≡ k = position_or_len_is test xs k x (omega arith) before (λ h. rw here pass) in
    rw (at, lt_test k (length xs) within) refl

name_place : {X : Type 0} (name_of : X → List ℕ) (xs : List X) (k : ℕ) (x : X) → AllPairs (λ a b. name_of a ≢ name_of b) xs → slice_get xs k ≡ Some x → position (λ y. bytes_eq (name_of y) (name_of x)) xs ≡ Some k
name_place name_of xs k x once is =
    let within : k < length xs = slice_get_within xs k x is in
    let here : get_or xs k x ≡ x = get_or_from_slice_get xs k x x is in
    position_is (λ y. bytes_eq (name_of y) (name_of x)) xs k x is ((bytes_eq-Decides (name_of x) (name_of x)).1 refl)
    (λ j lt. differ (name_of (get_or xs j x)) (name_of x) (λ same. once j k x lt within (same ∙ ap name_of (sym here))))

-- ---- slaves

next : {X : Type 0} (x : X) (xs : List X) (k : ℕ) (d : X) → get_or (x ∷ xs) (k + 1) d ≡ get_or xs k d
next x xs k d = rw add-one refl

rest_all : {X : Type 0} (P : X → Type 0) (x : X) (xs : List X) → All P (x ∷ xs) → All P xs
rest_all P x xs h k d lt = rw (next x xs k d) at (h (k + 1) d (omega arith))

index_range : (d : Direction) (pdos : List Pdo) → All (ReadPdo d) pdos → All (λ n. (first_index d ≤ n) × (n ≤ last_index d)) (indices_of pdos)
index_range d [] h = All-nil (λ n. (first_index d ≤ n) × (n ≤ last_index d))
index_range d (q ∷ qs) h =
    All-cons (λ n. (first_index d ≤ n) × (n ≤ last_index d)) q.index (indices_of qs)
    (let this : ReadPdo d q = middle (ReadPdo d) [] q qs (q ∷ qs) refl h in (this.first, this.last))
    (index_range d qs (rest_all (ReadPdo d) q qs h))

assigned_range : (d : Direction) (pdos : List Pdo) (xs : List ℕ) → All (ReadPdo d) pdos → All (Contains (indices_of pdos)) xs → All (λ n. (first_index d ≤ n) × (n ≤ last_index d)) xs
assigned_range d pdos xs h known k e lt = All-contains (λ n. (first_index d ≤ n) × (n ≤ last_index d)) (indices_of pdos) (get_or xs k e) (index_range d pdos h) (known k e lt)

any_from_contains : (x : ℕ) (ys : List ℕ) → Contains ys x → list_any (λ y. y == x) ys ≡ true
any_from_contains x ys h = list_any_at (λ y. y == x) ys h.0 x h.1 ((Decides-eqb (get_or ys h.0 x) x).1 h.2)

all_in_from : (xs ys : List ℕ) → All (Contains ys) xs → all_in xs ys ≡ true
all_in_from [] ys h = refl
all_in_from (x ∷ xs) ys h =
    rw (any_from_contains x ys (middle (Contains ys) [] x xs (x ∷ xs) refl h), all_in_from xs ys (rest_all (Contains ys) x xs h)) refl

fixed_or_written : (assignable same : Bool) → (assignable ≡ false → same ≡ true) → (assignable || same) ≡ true
fixed_or_written false same h = h refl
fixed_or_written true same h = refl

both : (a b : Bool) → a ≡ true → b ≡ true → (a && b) ≡ true
both a b h k = rw (h, k) refl

assignment_fits : (p : Position) (t : TypeRow) (s : SlaveRow) → ((d : Direction) → IsAssignment (is_assignable t.mailbox t.hardware) (pdos_toward d t) (assigned_toward d s)) → AreDownloads t.mailbox s.init → assigned_in p t s ≡ Ok s
unfolding assigned_in
assignment_fits p t s h downloads =
    let same : (is_assignable t.mailbox t.hardware ≡ false) → (same_list s.outputs (indices_of t.process.outputs) && same_list s.inputs (indices_of t.process.inputs)) ≡ true =
    λ none. both (same_list s.outputs (indices_of t.process.outputs)) (same_list s.inputs (indices_of t.process.inputs)) ((bytes_eq-Decides s.outputs (indices_of t.process.outputs)).1 ((h Out).fixed none)) ((bytes_eq-Decides s.inputs (indices_of t.process.inputs)).1 ((h In).fixed none)) in
    rw (
      all_in_from s.outputs (indices_of t.process.outputs) (h Out).known,
      all_in_from s.inputs (indices_of t.process.inputs) (h In).known,
      fixed_or_written (is_assignable t.mailbox t.hardware) (same_list s.outputs (indices_of t.process.outputs) && same_list s.inputs (indices_of t.process.inputs)) same,
      taken_from t.mailbox s.init downloads.mailbox,
    ) refl

no_double : (s : SlaveRow) (t : TypeRow) (found : List SlaveRow) → ((d : Direction) → IsAssignment (is_assignable t.mailbox t.hardware) (pdos_toward d t) (assigned_toward d s)) → is_named (λ (s : SlaveRow). s.name) s.name found ≡ false → (is_named (λ (s : SlaveRow). s.name) s.name found || (has_twice s.outputs || has_twice s.inputs)) ≡ false
no_double s t found h fresh = or_from (is_named (λ (s : SlaveRow). s.name) s.name found) (has_twice s.outputs || has_twice s.inputs) fresh (or_from (has_twice s.outputs) (has_twice s.inputs) (test_from_once s.outputs (h Out).once) (test_from_once s.inputs (h In).once))

slave_in : (v : Version) (hardware : Bool) (ts : List TypeRow) (p : Position) (s : SlaveRow) (found : List SlaveRow) (t : TypeRow) → let f : Format = record { version = v; hardware = hardware } in
    AreTypes ts → IsSlave v ts s → (hardware ≡ false → s.init ≡ []) → slice_get ts s.type_index ≡ Some t → is_named (λ (s : SlaveRow). s.name) s.name found ≡ false → slave_at f ts p (slave_members f ts s) found ≡ Ok s
unfolding slave_at slave_named slave_of_type
slave_in One false ts p s found t types h none is fresh =
    let kind : IsType t = type_at_place ts s.type_index t types is in
    let fits : (d : Direction) → IsAssignment (is_assignable t.mailbox t.hardware) (pdos_toward d t) (assigned_toward d s) = λ d. h.assigned t d is in
    let downloads : AreDownloads t.mailbox s.init = h.init t is in
    let unit : s.unit ≡ 0 = h.one_unit refl in
    let plain : s.init ≡ [] = none refl in
    rw (
      is,
      name_reads p s.name h.name,
      name_reads p t.name kind.name,
      numbers_read p 0x1600 0x17FF s.outputs (assigned_range Out t.process.outputs s.outputs (pdos_toward_read t kind Out).each (fits Out).known),
      numbers_read p 0x1A00 0x1BFF s.inputs (assigned_range In t.process.inputs s.inputs (pdos_toward_read t kind In).each (fits In).known),
      number_reads p 0 4294967295 s.serial (omega arith) h.serial,
      no_double s t found fits fresh,
      name_place (λ (t : TypeRow). t.name) ts s.type_index t types.once is,
      is,
      ← unit,
      ← plain,
    )
    (assignment_fits p t s fits downloads)
slave_in One true ts p s found t types h none is fresh =
    let kind : IsType t = type_at_place ts s.type_index t types is in
    let fits : (d : Direction) → IsAssignment (is_assignable t.mailbox t.hardware) (pdos_toward d t) (assigned_toward d s) = λ d. h.assigned t d is in
    let downloads : AreDownloads t.mailbox s.init = h.init t is in
    let unit : s.unit ≡ 0 = h.one_unit refl in
    rw (
      is,
      name_reads p s.name h.name,
      name_reads p t.name kind.name,
      numbers_read p 0x1600 0x17FF s.outputs (assigned_range Out t.process.outputs s.outputs (pdos_toward_read t kind Out).each (fits Out).known),
      numbers_read p 0x1A00 0x1BFF s.inputs (assigned_range In t.process.inputs s.inputs (pdos_toward_read t kind In).each (fits In).known),
      number_reads p 0 4294967295 s.serial (omega arith) h.serial,
      parameters_read p s.init downloads.each downloads.few,
      no_double s t found fits fresh,
      name_place (λ (t : TypeRow). t.name) ts s.type_index t types.once is,
      is,
      ← unit,
    )
    (assignment_fits p t s fits downloads)
slave_in Two false ts p s found t types h none is fresh =
    let kind : IsType t = type_at_place ts s.type_index t types is in
    let fits : (d : Direction) → IsAssignment (is_assignable t.mailbox t.hardware) (pdos_toward d t) (assigned_toward d s) = λ d. h.assigned t d is in
    let downloads : AreDownloads t.mailbox s.init = h.init t is in
    let plain : s.init ≡ [] = none refl in
    rw (
      is,
      name_reads p s.name h.name,
      name_reads p t.name kind.name,
      numbers_read p 0x1600 0x17FF s.outputs (assigned_range Out t.process.outputs s.outputs (pdos_toward_read t kind Out).each (fits Out).known),
      numbers_read p 0x1A00 0x1BFF s.inputs (assigned_range In t.process.inputs s.inputs (pdos_toward_read t kind In).each (fits In).known),
      number_reads p 0 4294967295 s.serial (omega arith) h.serial,
      number_reads p 0 63 s.unit (omega arith) h.unit,
      no_double s t found fits fresh,
      name_place (λ (t : TypeRow). t.name) ts s.type_index t types.once is,
      is,
      ← plain,
    )
    (assignment_fits p t s fits downloads)
slave_in Two true ts p s found t types h none is fresh =
    let kind : IsType t = type_at_place ts s.type_index t types is in
    let fits : (d : Direction) → IsAssignment (is_assignable t.mailbox t.hardware) (pdos_toward d t) (assigned_toward d s) = λ d. h.assigned t d is in
    let downloads : AreDownloads t.mailbox s.init = h.init t is in
    rw (
      is,
      name_reads p s.name h.name,
      name_reads p t.name kind.name,
      numbers_read p 0x1600 0x17FF s.outputs (assigned_range Out t.process.outputs s.outputs (pdos_toward_read t kind Out).each (fits Out).known),
      numbers_read p 0x1A00 0x1BFF s.inputs (assigned_range In t.process.inputs s.inputs (pdos_toward_read t kind In).each (fits In).known),
      number_reads p 0 4294967295 s.serial (omega arith) h.serial,
      number_reads p 0 63 s.unit (omega arith) h.unit,
      parameters_read p s.init downloads.each downloads.few,
      no_double s t found fits fresh,
      name_place (λ (t : TypeRow). t.name) ts s.type_index t types.once is,
      is,
    )
    (assignment_fits p t s fits downloads)

pub slave_reads : (f : Format) (ts : List TypeRow) (p : Position) (s : SlaveRow) (found : List SlaveRow) (t : TypeRow) → AreTypes ts → IsSlave f.version ts s → (f.hardware ≡ false → s.init ≡ []) → slice_get ts s.type_index ≡ Some t → is_named (λ (s : SlaveRow). s.name) s.name found ≡ false → slave_at f ts p (slave_members f ts s) found ≡ Ok s
slave_reads f ts p s found t types h none is fresh = slave_in f.version f.hardware ts p s found t types h none is fresh

pub slaves_read : (f : Format) (ts : List TypeRow) (ss : List SlaveRow) → AreTypes ts → AreSlaves f.version ts ss → All (λ (s : SlaveRow). f.hardware ≡ false → s.init ≡ []) ss → rows_after (slave_element f ts) [] 0 (items_of (map (λ s. table (slave_members f ts s)) ss)) ≡ Ok ss
slaves_read f ts ss types h none = rows_written (slave_element f ts) (λ s. table (slave_members f ts s)) [] ss (λ before s after e.
    let this : IsSlave f.version ts s = middle (IsSlave f.version ts) before s after ss e h.each in
    let kind = there_is ts s.type_index this.known in
    slave_reads f ts _ s before kind.0 types this (middle (λ (s : SlaveRow). f.hardware ≡ false → s.init ≡ []) before s after ss e none) kind.1 (not_before (λ (s : SlaveRow). s.name) before s after ss e h.once))

-- ---- links

slave_at_place : (v : Version) (ts : List TypeRow) (ss : List SlaveRow) (k : ℕ) (s : SlaveRow) → AreSlaves v ts ss → slice_get ss k ≡ Some s → IsSlave v ts s
slave_at_place v ts ss k s h is = subst (IsSlave v ts) (get_or_from_slice_get ss k s s is) (All-get_or (IsSlave v ts) ss k s (slice_get_within ss k s is) h.each)

variable_at_place : (ws : List VariableRow) (k : ℕ) (w : VariableRow) → AreVariables ws → slice_get ws k ≡ Some w → IsVariable w
variable_at_place ws k w h is = subst IsVariable (get_or_from_slice_get ws k w w is) (All-get_or IsVariable ws k w (slice_get_within ws k w is) h.each)

link_reads : (v : Format) (ss : List SlaveRow) (ws : List VariableRow) (p : Position) (l : LinkRow) (s : SlaveRow) (w : VariableRow) → IsName s.name → IsName w.name → AllPairs (λ (s r : SlaveRow). s.name ≢ r.name) ss → AllPairs (λ (w x : VariableRow). w.name ≢ x.name) ws → slice_get ss l.slave ≡ Some s → slice_get ws l.variable ≡ Some w → IsLink ss ws l → link_at v ss ws p (link_members ss ws l) ≡ Ok l
unfolding link_at
link_reads v ss ws p l s w slave_named variable_named slaves variables is iw h =
    rw (
      is,
      iw,
      name_reads p w.name variable_named,
      name_reads p s.name slave_named,
      number_reads p 1 65535 l.index h.least h.most,
      number_reads p 0 255 l.subindex (omega arith) h.subindex,
      bits_read p l.bits h.bits,
      name_place (λ (w : VariableRow). w.name) ws l.variable w variables iw,
      iw,
      name_place (λ (s : SlaveRow). s.name) ss l.slave s slaves is,
    ) refl

pub links_read : (v : Format) (ts : List TypeRow) (ss : List SlaveRow) (ws : List VariableRow) (ls : List LinkRow) → AreSlaves v.version ts ss → AreVariables ws → All (IsLink ss ws) ls → rows_after (link_element v ss ws) [] 0 (items_of (map (λ l. table (link_members ss ws l)) ls)) ≡ Ok ls
links_read v ts ss ws ls slaves variables h = rows_written (link_element v ss ws) (λ l. table (link_members ss ws l)) [] ls (λ before l after e.
    let this : IsLink ss ws l = middle (IsLink ss ws) before l after ls e h in
    let s = there_is ss l.slave this.slave in
    let w = there_is ws l.variable this.variable in
    link_reads v ss ws _ l s.0 w.0 (slave_at_place v.version ts ss l.slave s.0 slaves s.1).name (variable_at_place ws l.variable w.0 variables w.1).name slaves.once variables.once s.1 w.1 this)

-- ---- the document

all_tables : {X : Type 0} (spell : X → Members) (xs : List X) → are_tables (items_of (map (λ x. table (spell x)) xs)) ≡ true
all_tables spell [] = refl
all_tables spell (x ∷ xs) = all_tables spell xs

section_reads : {X : Type 0} (p : Position) (spell : X → Members) (xs : List X) → section_in p (Some (array_of_all (λ x. table (spell x)) xs)) ≡ Ok (items_of (map (λ x. table (spell x)) xs))
unfolding section_in
section_reads p spell xs = rw (all_tables spell xs) refl

version_reads : (p : Position) (v : Version) → version_in p (Some (number (version_number v))) ≡ Ok v
unfolding version_in number_in
version_reads p One = refl
version_reads p Two = refl

format_reads : (p : Position) (f : Format) → format_in p (Some (number (version_number f.version))) (Some (boolean f.hardware)) ≡ Ok f
unfolding format_in
format_reads p f = rw (version_reads p f.version) refl

pub document_reads : (c : Contents) → IsSound c → table_of_document (document_of c) ≡ Ok (as_stated c)
unfolding table_of_document table_of_sections document_of
document_reads c h =
    rw (
      format_reads top (format_of c),
      section_reads top type_members c.types,
      section_reads top (slave_members (format_of c) c.types) c.slaves,
      section_reads top (variable_members c.hardware) c.variables,
      section_reads top (link_members c.slaves c.variables) c.links,
      types_read (format_of c) c.types h.types h.format.types (λ k t lt none. h.format.type_init none k t lt),
      slaves_read (format_of c) c.types c.slaves h.types h.slaves (λ k s lt none. h.format.slave_init none k s lt),
      variables_read (format_of c) c.variables h.variables (λ k w lt none. h.format.variables none k w lt),
      links_read (format_of c) c.types c.slaves c.variables c.links h.slaves h.variables h.links,
    ) refl
