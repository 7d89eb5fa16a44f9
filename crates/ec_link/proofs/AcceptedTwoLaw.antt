-- A table of two sync units, with a mailbox, a slave without LRW, and links both ways: it is sound, and no fault is in it.
use Rattle.std.proofs.Common.{◌≡◌, ◌≢◌, ℕ, zero, suc, ◌<◌, ◌≤◌, Bool, true, false, List, [], ◌∷◌, refl, subst, arith, Option, Some, None, is_some, slice_get}
use Rattle.std.specs.Option.{ForSome}
use Rattle.std.specs.List.{All, AllPairs, Contains}
use Rattle.std.proofs.lemmas.List.Kept.{AllPairs-cons}
use Rattle.ec_device.specs.declared.slave_type.Entry.{Entry}
use Rattle.ec_device.specs.declared.slave_type.Pdo.{Pdo}
use Rattle.ec_device.specs.declared.slave_type.Mailbox.{Mailbox}
use Rattle.ec_device.specs.declared.hardware.Hardware.{Hardware}
use Rattle.ec_device.specs.Hardware.{is_assignable}
use Rattle.ec_device.specs.Types.{IsEntry, IsPdo, ArePdos, IsMailbox, first_output_index, first_input_index}
use Rattle.ec_table.specs.declared.rows.Version.TheVariants.{One, Two}
use Rattle.ec_table.specs.declared.rows.Direction.TheVariants.{Out, In}
use Rattle.ec_table.specs.declared.rows.Direction.{Direction}
use Rattle.ec_table.specs.declared.rows.TypeRow.{TypeRow}
use Rattle.ec_table.specs.declared.rows.SlaveRow.{SlaveRow}
use Rattle.ec_table.specs.declared.rows.VariableRow.{VariableRow}
use Rattle.ec_table.specs.declared.rows.LinkRow.{LinkRow}
use Rattle.ec_table.specs.Sound as table
use Rattle.ec_table.specs.Contents.{pdos_toward, assigned_toward}
use Rattle.ec_table.specs.Objects.{entries_of}
use Rattle.ec_link.specs.LinkRuns.{run_of, link_run_of}
use Rattle.ec_link.specs.SlavePlan.{managers_of}
use Rattle.ec_link.specs.Layout.{layout, units_below, unit_count, seated, joined, opened, with_slave, joins}
use Rattle.ec_link.specs.Faults.{compile_fault, link_fault, slave_fault, part_fault, memory_fault, variable_fault, managers_at}
use Rattle.ec_link.specs.Example.{two_way, box, split_type, boxed_type, slave_in, variable_of, link_to, two_units, AcceptedTwoLaw}

accepted : compile_fault two_units ≡ None
unfolding compile_fault link_fault slave_fault part_fault memory_fault variable_fault managers_at entries_of run_of link_run_of managers_of layout units_below unit_count seated joined opened with_slave joins
accepted = refl

-- ---- lists

first : {X : Type 0} (P : X → Type 0) (x : X) (xs : List X) → P x → All P xs → All P (x ∷ xs)
first P x xs h hs zero d l = h
first P x xs h hs (suc k) d l = hs k d (omega (arith, l))

none : {X : Type 0} (P : X → Type 0) → All P []
none P k d l = absurd (omega (arith, l))

no_pairs : {X : Type 0} (R : X → X → Type 0) → AllPairs R []
no_pairs R i j d a b = absurd (omega (arith, b))

names_apart : (a b : ℕ) → a ≢ b → a ∷ [] ≢ b ∷ []
names_apart a b ne e = ne (cc)

-- ---- types

none_hardware : (h : Hardware) → None ≡ Some h → ⊥
none_hardware h e = cc

entry_sound : (index bits : ℕ) → 1 ≤ index → 1 ≤ bits → bits ≤ 64 → IsEntry (record { index = index; subindex = 1; bits = bits })
entry_sound index bits is some few = record { some = some; few = few; gap = λ e. absurd (omega (arith, e, is)) }

abbrev OtherIndex : Pdo → Pdo → Type 0
OtherIndex p q = p.index ≢ q.index

pdos_sound : (start : ℕ) (e : Entry) → IsEntry e → ArePdos start (record { index = start; entries = e ∷ [] } ∷ [])
pdos_sound start e h = record {
  few = omega arith;
  each = first (IsPdo start) (record { index = start; entries = e ∷ [] }) [] (record { from = omega arith; below = omega arith; few = omega arith; entries = first IsEntry e [] h (none IsEntry) }) (none (IsPdo start));
  apart = AllPairs-cons OtherIndex (record { index = start; entries = e ∷ [] }) [] (none (OtherIndex (record { index = start; entries = e ∷ [] }))) (no_pairs OtherIndex);
}

named : (index bits : ℕ) → index ≤ 65535 → table.HasName (record { index = index; subindex = 1; bits = bits })
named index bits l = record { index = l; subindex = omega arith }

entries_named : (name product : ℕ) (m : Option Mailbox) (lrw : Bool) (a b : Entry) → table.HasName a → table.HasName b → (d : Direction) → All (λ (q : Pdo). All table.HasName q.entries) (pdos_toward d (two_way name product m lrw a b))
entries_named name product m lrw a b x y Out = first (λ (q : Pdo). All table.HasName q.entries) _ [] (first table.HasName a [] x (none table.HasName)) (none (λ (q : Pdo). All table.HasName q.entries))
entries_named name product m lrw a b x y In = first (λ (q : Pdo). All table.HasName q.entries) _ [] (first table.HasName b [] y (none table.HasName)) (none (λ (q : Pdo). All table.HasName q.entries))

-- nothing is downloaded
no_downloads : (m : Option Mailbox) → table.AreDownloads m []
no_downloads m = record { few = omega arith; each = none table.IsDownload; mailbox = λ e. refl }

type_sound : (name product : ℕ) (m : Option Mailbox) (lrw : Bool) (a b : Entry) → table.IsName (name ∷ []) → product ≤ 4294967295 → ForSome m IsMailbox → ForSome m table.HasMailboxStarts
    → IsEntry a → IsEntry b → table.HasName a → table.HasName b → table.IsType (two_way name product m lrw a b)
type_sound name product m lrw a b is few boxes starts x y n k = record {
  name = is;
  device = record { vendor = omega arith; product = few; revision = omega arith };
  limits = record { mailbox = boxes; outputs = pdos_sound first_output_index a x; inputs = pdos_sound first_input_index b y };
  mailbox = starts;
  out_start = omega arith;
  in_start = omega arith;
  entries = entries_named name product m lrw a b n k;
  hardware = λ h e. absurd (none_hardware h e);
  init = no_downloads m;
}

no_box : (m : Mailbox) → None ≡ Some m → ⊥
no_box m e = cc

same_box : (m : Mailbox) → Some box ≡ Some m → box ≡ m
same_box m e = cc

box_sound : IsMailbox box
box_sound = record { receive_some = omega arith; receive_few = omega arith; send_some = omega arith; send_few = omega arith }

split_sound : table.IsType split_type
split_sound = type_sound 100 1 None false _ _ refl (omega arith) (λ m e. absurd (no_box m e)) (λ m e. absurd (no_box m e))
    (entry_sound 0x7000 4 (omega arith) (omega arith) (omega arith)) (entry_sound 0x6000 4 (omega arith) (omega arith) (omega arith)) (named 0x7000 4 (omega arith)) (named 0x6000 4 (omega arith))

boxed_sound : table.IsType boxed_type
boxed_sound = type_sound 101 2 (Some box) true _ _ refl (omega arith) (λ m e. subst IsMailbox (same_box m e) box_sound) (λ m e. subst table.HasMailboxStarts (same_box m e) (record { receive = omega arith; send = omega arith }))
    (entry_sound 0x7010 12 (omega arith) (omega arith) (omega arith)) (entry_sound 0x6010 16 (omega arith) (omega arith) (omega arith)) (named 0x7010 12 (omega arith)) (named 0x6010 16 (omega arith))

-- ---- slaves

same_type : (x y : TypeRow) → Some x ≡ Some y → x ≡ y
same_type x y e = cc

one_known : (index : ℕ) → All (Contains (index ∷ [])) (index ∷ [])
one_known index = first (Contains (index ∷ [])) index [] (0, omega arith, refl) (none (Contains (index ∷ [])))

abbrev Other : ℕ → ℕ → Type 0
Other x y = x ≢ y

alone : (index : ℕ) → AllPairs Other (index ∷ [])
alone index = AllPairs-cons Other index [] (none (Other index)) (no_pairs Other)

assigned : (name product : ℕ) (m : Option Mailbox) (lrw : Bool) (a b : Entry) (own place unit : ℕ) (d : Direction) → table.IsAssignment (is_assignable m None) (pdos_toward d (two_way name product m lrw a b)) (assigned_toward d (slave_in own place unit))
assigned name product m lrw a b own place unit Out = record { known = one_known 0x1600; once = alone 0x1600; fixed = λ e. refl }
assigned name product m lrw a b own place unit In = record { known = one_known 0x1A00; once = alone 0x1A00; fixed = λ e. refl }

slave_sound : (own place unit : ℕ) (type : TypeRow) → table.IsName (own ∷ []) → place < 2 → slice_get (split_type ∷ boxed_type ∷ []) place ≡ Some type → ((d : Direction) → table.IsAssignment (is_assignable type.mailbox type.hardware) (pdos_toward d type) (assigned_toward d (slave_in own place unit)))
    → unit ≤ 63 → table.IsSlave Two (split_type ∷ boxed_type ∷ []) (slave_in own place unit)
slave_sound own place unit type is few at fits low = record {
  name = is;
  known = few;
  assigned = λ u d e. subst (λ (x : TypeRow). table.IsAssignment (is_assignable x.mailbox x.hardware) (pdos_toward d x) (assigned_toward d (slave_in own place unit))) (same_type type u (cc)) (fits d);
  serial = omega arith;
  unit = low;
  one_unit = λ e. absurd (let z : Two ≡ One = e in cc);
  init = λ u e. no_downloads u.mailbox;
}

-- ---- the table

link_sound : (variable slave index count : ℕ) → variable < 4 → slave < 2 → 1 ≤ index → index ≤ 65535 → 1 ≤ count → count ≤ 64 → table.IsLink two_units.slaves two_units.variables (link_to variable slave index count)
link_sound variable slave index count v s least most some few = record {
  variable = v;
  slave = s;
  least = least;
  most = most;
  subindex = omega arith;
  bits = record { variable_bit = omega arith; entry_bit = omega arith; least = some; most = few };
}

variable_sound : (name : ℕ) (d : Direction) (bits : ℕ) → table.IsName (name ∷ []) → 1 ≤ bits → bits ≤ 64 → table.IsVariable (variable_of name d bits)
variable_sound name d bits is least most = record { name = is; least = least; most = most }

abbrev V : VariableRow → Type 0
V = table.IsVariable

abbrev OtherType : TypeRow → TypeRow → Type 0
OtherType t u = t.name ≢ u.name

abbrev OtherSlave : SlaveRow → SlaveRow → Type 0
OtherSlave t u = t.name ≢ u.name

abbrev OtherName : VariableRow → VariableRow → Type 0
OtherName w x = w.name ≢ x.name

abbrev L : LinkRow → Type 0
L = table.IsLink two_units.slaves two_units.variables

abbrev rest1 : List VariableRow
rest1 = variable_of 98 In 4 ∷ variable_of 99 Out 12 ∷ variable_of 100 In 16 ∷ []

abbrev rest2 : List VariableRow
rest2 = variable_of 99 Out 12 ∷ variable_of 100 In 16 ∷ []

abbrev rest3 : List VariableRow
rest3 = variable_of 100 In 16 ∷ []

abbrev more1 : List LinkRow
more1 = link_to 1 0 0x6000 4 ∷ link_to 2 1 0x7010 12 ∷ link_to 3 1 0x6010 16 ∷ []

abbrev more2 : List LinkRow
more2 = link_to 2 1 0x7010 12 ∷ link_to 3 1 0x6010 16 ∷ []

abbrev more3 : List LinkRow
more3 = link_to 3 1 0x6010 16 ∷ []

sound : table.IsSound two_units
sound = record {
  types = record {
    each = first table.IsType split_type (boxed_type ∷ []) split_sound (first table.IsType boxed_type [] boxed_sound (none table.IsType));
    once = AllPairs-cons OtherType split_type (boxed_type ∷ []) (first (OtherType split_type) boxed_type [] (names_apart 100 101 (λ e. omega (arith, e))) (none (OtherType split_type))) (AllPairs-cons OtherType boxed_type [] (none (OtherType boxed_type)) (no_pairs OtherType));
  };
  slaves = record {
    each = first (table.IsSlave Two (split_type ∷ boxed_type ∷ [])) (slave_in 115 0 0) (slave_in 116 1 1 ∷ []) (slave_sound 115 0 0 split_type refl (omega arith) refl (assigned 100 1 None false _ _ 115 0 0) (omega arith))
        (first (table.IsSlave Two (split_type ∷ boxed_type ∷ [])) (slave_in 116 1 1) [] (slave_sound 116 1 1 boxed_type refl (omega arith) refl (assigned 101 2 (Some box) true _ _ 116 1 1) (omega arith)) (none (table.IsSlave Two (split_type ∷ boxed_type ∷ []))));
    once = AllPairs-cons OtherSlave (slave_in 115 0 0) (slave_in 116 1 1 ∷ []) (first (OtherSlave (slave_in 115 0 0)) (slave_in 116 1 1) [] (names_apart 115 116 (λ e. omega (arith, e))) (none (OtherSlave (slave_in 115 0 0)))) (AllPairs-cons OtherSlave (slave_in 116 1 1) [] (none (OtherSlave (slave_in 116 1 1))) (no_pairs OtherSlave));
  };
  variables = record {
    each = first V (variable_of 97 Out 4) rest1 (variable_sound 97 Out 4 refl (omega arith) (omega arith))
        (first V (variable_of 98 In 4) rest2 (variable_sound 98 In 4 refl (omega arith) (omega arith))
        (first V (variable_of 99 Out 12) rest3 (variable_sound 99 Out 12 refl (omega arith) (omega arith))
        (first V (variable_of 100 In 16) [] (variable_sound 100 In 16 refl (omega arith) (omega arith)) (none V))));
    once = AllPairs-cons OtherName (variable_of 97 Out 4) rest1
        (first (OtherName (variable_of 97 Out 4)) (variable_of 98 In 4) rest2 (names_apart 97 98 (λ e. omega (arith, e))) (first (OtherName (variable_of 97 Out 4)) (variable_of 99 Out 12) rest3 (names_apart 97 99 (λ e. omega (arith, e))) (first (OtherName (variable_of 97 Out 4)) (variable_of 100 In 16) [] (names_apart 97 100 (λ e. omega (arith, e))) (none (OtherName (variable_of 97 Out 4))))))
        (AllPairs-cons OtherName (variable_of 98 In 4) rest2 (first (OtherName (variable_of 98 In 4)) (variable_of 99 Out 12) rest3 (names_apart 98 99 (λ e. omega (arith, e))) (first (OtherName (variable_of 98 In 4)) (variable_of 100 In 16) [] (names_apart 98 100 (λ e. omega (arith, e))) (none (OtherName (variable_of 98 In 4)))))
        (AllPairs-cons OtherName (variable_of 99 Out 12) rest3 (first (OtherName (variable_of 99 Out 12)) (variable_of 100 In 16) [] (names_apart 99 100 (λ e. omega (arith, e))) (none (OtherName (variable_of 99 Out 12)))) (AllPairs-cons OtherName (variable_of 100 In 16) [] (none (OtherName (variable_of 100 In 16))) (no_pairs OtherName))));
  };
  links = first L (link_to 0 0 0x7000 4) more1 (link_sound 0 0 0x7000 4 (omega arith) (omega arith) (omega arith) (omega arith) (omega arith) (omega arith))
      (first L (link_to 1 0 0x6000 4) more2 (link_sound 1 0 0x6000 4 (omega arith) (omega arith) (omega arith) (omega arith) (omega arith) (omega arith))
      (first L (link_to 2 1 0x7010 12) more3 (link_sound 2 1 0x7010 12 (omega arith) (omega arith) (omega arith) (omega arith) (omega arith) (omega arith))
      (first L (link_to 3 1 0x6010 16) [] (link_sound 3 1 0x6010 16 (omega arith) (omega arith) (omega arith) (omega arith) (omega arith) (omega arith)) (none L))));
  format = record {
    types = first (λ (t : TypeRow). is_some t.hardware ≡ false) split_type (boxed_type ∷ []) refl (first (λ (t : TypeRow). is_some t.hardware ≡ false) boxed_type [] refl (none (λ (t : TypeRow). is_some t.hardware ≡ false)));
    type_init = λ e. let N : TypeRow → Type 0 = λ t. t.init ≡ [] in first N split_type (boxed_type ∷ []) refl (first N boxed_type [] refl (none N));
    slave_init = λ e. let N : SlaveRow → Type 0 = λ s. s.init ≡ [] in first N (slave_in 115 0 0) (slave_in 116 1 1 ∷ []) refl (first N (slave_in 116 1 1) [] refl (none N));
    variables = λ e. let S : VariableRow → Type 0 = λ w. w.signed ≡ false in first S (variable_of 97 Out 4) rest1 refl (first S (variable_of 98 In 4) rest2 refl (first S (variable_of 99 Out 12) rest3 refl (first S (variable_of 100 In 16) [] refl (none S))));
  };
}

pub accepted_two : AcceptedTwoLaw
accepted_two = (sound, accepted)
