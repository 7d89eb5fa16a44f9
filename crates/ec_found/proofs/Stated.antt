-- A table has the slaves that were found, if each of its rows was looked at.
use Rattle.std.proofs.Common.{ℕ, zero, suc, ◌+◌, ◌<◌, ◌≡◌, List, [], ◌∷◌, length, get_or, true, None, Some, refl, sym, ap, subst, ◌∙◌, arith, inl, inr}
use Rattle.std.specs.Prelude.{slice_get}
use Rattle.std.proofs.lemmas.Bool.{cases_lt}
use Rattle.ec_device.specs.Types.{SlaveKind}
use Rattle.ec_table.specs.Contents.{Contents}
use Rattle.ec_table.specs.Objects.{kind_of}
use Rattle.ec_table.specs.declared.rows.SlaveRow.{SlaveRow}
use Rattle.ec_found.specs.declared.found.Found.{Found}
use Rattle.ec_link.specs.Machine.{StatesMachine}
use Rattle.ec_found.specs.Stating.{HasFound, IsRowOf, StatesFound}

none_there : {A P : Type 0} (a : A) → None ≡ Some a → P
none_there a e = cc

from_some : {A : Type 0} (a b : A) → Some a ≡ Some b → a ≡ b
from_some a b h = cc

within : {A : Type 0} (xs : List A) (i : ℕ) (x : A) → slice_get xs i ≡ Some x → i < length xs
within [] i x e = none_there x e
within (y ∷ ys) zero x e = omega arith
within (y ∷ ys) (suc i) x e = let l = within ys i x e in omega (arith, l)

there_at : {A : Type 0} (xs : List A) (i : ℕ) (d : A) → i < length xs → slice_get xs i ≡ Some (get_or xs i d)
there_at [] i d l = absurd (omega (arith, l))
there_at (y ∷ ys) zero d l = refl
there_at (y ∷ ys) (suc i) d l = there_at ys i d (omega (arith, l))

-- the rows before a place are of the slaves as they were found
pub record AreRows (c : Contents) (fs : List Found) (place : ℕ) : Type 0 where
  pub each : (i : ℕ) (f : Found) → i < place → slice_get fs i ≡ Some f → IsRowOf c i f

pub no_rows : (c : Contents) (fs : List Found) → AreRows c fs 0
no_rows c fs = record { each = λ i f l e. absurd (omega (arith, l)) }

pub rows_more : (c : Contents) (fs : List Found) (place : ℕ) (one : Found) → AreRows c fs place → place < length fs → one ≡ get_or fs place one → IsRowOf c place one → AreRows c fs (place + 1)
rows_more c fs place one h l is row = record {
  each = λ i f b e. elim (cases_lt i place) [
    | inl before ↦ h.each i f before e
    | inr behind ↦
        let here : i ≡ place = omega (arith, b, behind) in
        let at : Some f ≡ Some one = sym e ∙ ap (slice_get fs) here ∙ there_at fs place one l ∙ ap (λ (x : Found). Some x) (sym is) in
        subst (λ (k : ℕ). IsRowOf c k f) (sym here) (subst (λ (x : Found). IsRowOf c place x) (sym (from_some f one at)) row)
  ];
}

pub all_rows : (c : Contents) (fs : List Found) → c.hardware ≡ true → length c.slaves ≡ length fs → AreRows c fs (length fs) → HasFound fs c
all_rows c fs hardware many h = record { hardware = hardware; as_many = many; each = λ i f e. h.each i f (within fs i f e) e }

pub a_row : (c : Contents) (place : ℕ) (f : Found) (k : SlaveKind) (row : SlaveRow) → kind_of c place ≡ Some k → k ≡ f.kind → place < length c.slaves → row ≡ get_or c.slaves place row
    → (row.serial ≡ f.serial) × (row.outputs ≡ f.outputs) × (row.inputs ≡ f.inputs) → IsRowOf c place f
a_row c place f k row kind same l is rest = record {
  row = row;
  there = there_at c.slaves place row l ∙ ap (λ (x : SlaveRow). Some x) (sym is);
  kind = kind ∙ ap (λ (x : SlaveKind). Some x) same;
  serial = rest.0;
  outputs = rest.1;
  inputs = rest.2;
}

-- and so it is if it has the row
pub of_row : (c : Contents) (place : ℕ) (f : Found) (k : SlaveKind) (row : SlaveRow) → kind_of c place ≡ Some k → place < length c.slaves → row ≡ get_or c.slaves place row → IsRowOf c place f
    → (k ≡ f.kind) × (row.serial ≡ f.serial) × (row.outputs ≡ f.outputs) × (row.inputs ≡ f.inputs)
of_row c place f k row kind l is r =
    let same : row ≡ r.row = from_some row r.row (ap (λ (x : SlaveRow). Some x) is ∙ sym (there_at c.slaves place row l) ∙ r.there) in (
      from_some k f.kind (sym kind ∙ r.kind),
      ap (λ (x : SlaveRow). x.serial) same ∙ r.serial,
      ap (λ (x : SlaveRow). x.outputs) same ∙ r.outputs,
      ap (λ (x : SlaveRow). x.inputs) same ∙ r.inputs,
    )

pub stated_found : (text : List ℕ) (fs : List Found) (c : Contents) → StatesMachine text c → HasFound fs c → StatesFound text fs
stated_found text fs c stated found = record { table = c; stated = stated; found = found }
