-- In a table with a plan no slave assigns an entry twice.
use Rattle.std.proofs.Common.{ℕ, suc, ◌<◌, ◌≡◌, ◌≢◌, ◌==◌, ◌&&◌, not, List, [], ◌∷◌, true, false, Option, None, Some, option_map, slice_get, refl, sym, ap, subst, ◌∙◌, arith, inl, inr}
use Rattle.std.specs.List.{list_any}
use Rattle.std.proofs.lemmas.Bool.{and_parts, cases_Bool, eqb-false, eqb-true, not-true}
use Rattle.std.proofs.lemmas.Option.{slice_get_within, get_or_from_slice_get}
use Rattle.ec_device.specs.declared.slave_type.Entry.{Entry}
use Rattle.ec_device.specs.declared.slave_type.Mailbox.{Mailbox}
use Rattle.ec_device.specs.declared.hardware.Hardware.{Hardware}
use Rattle.ec_device.specs.Hardware.{is_assignable}
use Rattle.ec_device.specs.Objects.{assigned_entries}
use Rattle.ec_device.specs.Types.{SlaveKind}
use Rattle.ec_table.specs.declared.rows.Direction.{Direction}
use Rattle.ec_table.specs.declared.rows.Direction.TheVariants.{Out, In}
use Rattle.ec_table.specs.declared.rows.SlaveRow.{SlaveRow}
use Rattle.ec_table.specs.declared.rows.TypeRow.{TypeRow}
use Rattle.ec_table.specs.Contents.{Contents, assigned_toward, pdos_toward}
use Rattle.ec_table.specs.Objects.{entries_of, kind_at, type_of}
use Rattle.ec_table.specs.Sound.{IsSlave}
use Rattle.ec_table.proofs.ObjectLemmas.{entries_are_assigned}
use Rattle.ec_link.specs.declared.fault.LinkFault.TheVariants.{EntryTwice}
use Rattle.ec_link.specs.Entries.{is_named, names_twice}
use Rattle.ec_link.specs.FaultLaw.{IsEntryTwice}
use Rattle.ec_link.proofs.FirstFault.{first_link_fault}
use Rattle.ec_found.specs.Founds.{indices}
use Rattle.ec_found.specs.Laws.{IsSlaveOf}

no_truth : {P : Type 0} → false ≡ true → P
no_truth h = cc

no_some : {A P : Type 0} (a : A) → None ≡ Some a → P
no_some a h = cc

from_some : {A : Type 0} (a b : A) → Some a ≡ Some b → a ≡ b
from_some a b h = cc

-- ---- two entries with one name

record NameAt (es : List Entry) (index subindex : ℕ) : Type 0 where
  pub place : ℕ
  pub entry : Entry
  pub there : slice_get es place ≡ Some entry
  pub index_is : entry.index ≡ index
  pub subindex_is : entry.subindex ≡ subindex

name_at : (es : List Entry) (index subindex : ℕ) → list_any (is_named index subindex) es ≡ true → NameAt es index subindex
name_at [] index subindex h = no_truth h
name_at (e ∷ es) index subindex h = elim (cases_Bool (is_named index subindex e)) [
  | inl t ↦
      let both = and_parts (e.index == index) (e.subindex == subindex) t in
      record { place = 0; entry = e; there = refl; index_is = eqb-true e.index index both.0; subindex_is = eqb-true e.subindex subindex both.1 }
  | inr f ↦
      let r = name_at es index subindex (rw f at h) in
      record { place = suc r.place; entry = r.entry; there = r.there; index_is = r.index_is; subindex_is = r.subindex_is }
]

record Twice (es : List Entry) : Type 0 where
  pub first : ℕ
  pub second : ℕ
  pub before : first < second
  pub one : Entry
  pub two : Entry
  pub there : slice_get es first ≡ Some one
  pub there_too : slice_get es second ≡ Some two
  pub no_gap : one.index ≢ 0
  pub index : one.index ≡ two.index
  pub subindex : one.subindex ≡ two.subindex

twice_at : (es : List Entry) → names_twice es ≡ true → Twice es
twice_at [] h = no_truth h
twice_at (e ∷ es) h = elim (cases_Bool (not (e.index == 0) && list_any (is_named e.index e.subindex) es)) [
  | inl t ↦
      let both = and_parts (not (e.index == 0)) (list_any (is_named e.index e.subindex) es) t in
      let r = name_at es e.index e.subindex both.1 in
      record {
        first = 0;
        second = suc r.place;
        before = omega arith;
        one = e;
        two = r.entry;
        there = refl;
        there_too = r.there;
        no_gap = eqb-false e.index 0 (not-true (e.index == 0) both.0);
        index = sym r.index_is;
        subindex = sym r.subindex_is;
      }
  | inr f ↦
      let r = twice_at es (rw f at h) in
      let b = r.before in
      record {
        first = suc r.first;
        second = suc r.second;
        before = omega (arith, b);
        one = r.one;
        two = r.two;
        there = r.there;
        there_too = r.there_too;
        no_gap = r.no_gap;
        index = r.index;
        subindex = r.subindex;
      }
]

-- ---- a slave of a table

record OfType (c : Contents) (place : ℕ) (k : SlaveKind) : Type 0 where
  pub row : TypeRow
  pub there : type_of c place ≡ Some row
  pub is : kind_at c place row ≡ k

of_type : (c : Contents) (place : ℕ) (k : SlaveKind) (o : Option TypeRow) → type_of c place ≡ o → option_map (kind_at c place) o ≡ Some k → OfType c place k
of_type c place k None e h = no_some k h
of_type c place k (Some t) e h = record { row = t; there = e; is = from_some (kind_at c place t) k h }

type_is : (c : Contents) (place : ℕ) (row : SlaveRow) (k : SlaveKind) → IsSlaveOf c place row k → OfType c place k
type_is c place row k h = of_type c place k (type_of c place) refl h.kind

none_twice : (c : Contents) (place : ℕ) (row : SlaveRow) (k : SlaveKind) (d : Direction) → IsSlaveOf c place row k → names_twice (entries_of c place d) ≡ false
none_twice c place row k d h = elim (cases_Bool (names_twice (entries_of c place d))) [
  | inl t ↦
      let w = twice_at (entries_of c place d) t in
      let twice : IsEntryTwice c place = record {
        direction = d;
        first = w.first;
        second = w.second;
        before = w.before;
        one = w.one;
        two = w.two;
        there = w.there;
        there_too = w.there_too;
        no_gap = w.no_gap;
        index = w.index;
        subindex = w.subindex;
      } in
      absurd (first_link_fault.none c (EntryTwice place) h.sound h.planned (record { row = row; there = h.there; has = twice }))
  | inr f ↦ f
]

row_once : (c : Contents) (place : ℕ) (row : SlaveRow) (k : SlaveKind) (d : Direction) (h : IsSlaveOf c place row k)
    → names_twice (assigned_entries (pdos_toward d (type_is c place row k h).row) (assigned_toward d row)) ≡ false
row_once c place row k d h =
    ap names_twice (sym (entries_are_assigned c place d row (type_is c place row k h).row h.there (type_is c place row k h).there)) ∙ none_twice c place row k d h

pub outputs_once : (c : Contents) (place : ℕ) (row : SlaveRow) (k : SlaveKind) → IsSlaveOf c place row k → names_twice (assigned_entries k.outputs row.outputs) ≡ false
outputs_once c place row k h =
    ap (λ (x : SlaveKind). names_twice (assigned_entries x.outputs row.outputs)) (sym (type_is c place row k h).is) ∙ row_once c place row k Out h

pub inputs_once : (c : Contents) (place : ℕ) (row : SlaveRow) (k : SlaveKind) → IsSlaveOf c place row k → names_twice (assigned_entries k.inputs row.inputs) ≡ false
inputs_once c place row k h =
    ap (λ (x : SlaveKind). names_twice (assigned_entries x.inputs row.inputs)) (sym (type_is c place row k h).is) ∙ row_once c place row k In h

-- ---- without a mailbox it assigns all PDOs of its type

not_assignable : (m : Option Mailbox) (hardware : Option Hardware) → m ≡ None → is_assignable m hardware ≡ false
not_assignable None hardware e = refl
not_assignable (Some m) hardware e = no_some m (sym e)

slave_is : (c : Contents) (place : ℕ) (row : SlaveRow) (k : SlaveKind) → IsSlaveOf c place row k → IsSlave c.version c.types row
slave_is c place row k h =
    subst (IsSlave c.version c.types) (get_or_from_slice_get c.slaves place row row h.there) (h.sound.slaves.each place row (slice_get_within c.slaves place row h.there))

all_assigned : (c : Contents) (place : ℕ) (row : SlaveRow) (k : SlaveKind) (d : Direction) (h : IsSlaveOf c place row k) → k.mailbox ≡ None
    → assigned_toward d row ≡ indices (pdos_toward d (type_is c place row k h).row)
all_assigned c place row k d h e =
    let own = type_is c place row k h in
    let at : slice_get c.types row.type_index ≡ Some own.row = rw h.there at own.there in
    let mailbox : own.row.mailbox ≡ None = ap (λ (x : SlaveKind). x.mailbox) own.is ∙ e in
    ((slave_is c place row k h).assigned own.row d at).fixed (not_assignable own.row.mailbox own.row.hardware mailbox)

pub all_outputs_once : (c : Contents) (place : ℕ) (row : SlaveRow) (k : SlaveKind) → IsSlaveOf c place row k → k.mailbox ≡ None → names_twice (assigned_entries k.outputs (indices k.outputs)) ≡ false
all_outputs_once c place row k h e =
    ap (λ (is : List ℕ). names_twice (assigned_entries k.outputs is)) (ap (λ (x : SlaveKind). indices x.outputs) (sym (type_is c place row k h).is) ∙ sym (all_assigned c place row k Out h e))
    ∙ outputs_once c place row k h

pub all_inputs_once : (c : Contents) (place : ℕ) (row : SlaveRow) (k : SlaveKind) → IsSlaveOf c place row k → k.mailbox ≡ None → names_twice (assigned_entries k.inputs (indices k.inputs)) ≡ false
all_inputs_once c place row k h e =
    ap (λ (is : List ℕ). names_twice (assigned_entries k.inputs is)) (ap (λ (x : SlaveKind). indices x.inputs) (sym (type_is c place row k h).is) ∙ sym (all_assigned c place row k In h e))
    ∙ inputs_once c place row k h
