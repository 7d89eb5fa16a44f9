-- A table is compared slave by slave.
use Rattle.std.proofs.Common.{◌≡◌, ◌∙◌, ℕ, suc, ◌+◌, ◌<◌, List, ◌∷◌, ◌&&◌, Option, Some, length, drop, get_or, ap, sym, arith, drop-cons}
use Rattle.std.specs.Prelude.{slice_get}
use Rattle.std.proofs.lemmas.Option.{slice_get-get_or}
use Rattle.ec_device.specs.Types.{SlaveKind}
use Rattle.ec_table.specs.Objects.{kind_of}
use Rattle.ec_table.specs.declared.rows.SlaveRow.{SlaveRow}
use Rattle.ec_table.specs.Contents.{Contents}
use Rattle.ec_found.specs.declared.found.Found.{Found}
use Rattle.ec_found.specs.Differing.{are_same_from, differs, is_none, is_same, is_same_as}

-- the slaves from a place on: the one at the place, and those behind it
pub same_next : (c : Contents) (fs : List Found) (k : ℕ) (f : Found) → k < length fs → f ≡ get_or fs k f
    → are_same_from c k (drop k fs) ≡ is_same c k f && are_same_from c (k + 1) (drop (k + 1) fs)
same_next c fs k f lt is =
    let on : suc k ≡ k + 1 = omega arith in
    ap (are_same_from c k) (drop-cons fs k f lt ∙ (ap (λ (g : Found). g ∷ drop (suc k) fs) (sym is) ∙ ap (λ (n : ℕ). f ∷ drop n fs) on))

-- the slave at a place, by its row and its type
pub same_there : (c : Contents) (place : ℕ) (f : Found) (row : SlaveRow) (k : SlaveKind) (rows : List SlaveRow) → rows ≡ c.slaves → place < length rows → row ≡ get_or rows place row
    → kind_of c place ≡ Some k → is_none (differs k row f) ≡ is_same c place f
same_there c place f row k rows same lt at typed =
    let there : slice_get c.slaves place ≡ Some row = ap (λ (xs : List SlaveRow). slice_get xs place) (sym same) ∙ (slice_get-get_or rows place row lt ∙ ap Some (sym at)) in
    sym (ap (λ (o : Option SlaveRow). is_same_as o (kind_of c place) f) there ∙ ap (λ (o : Option SlaveKind). is_same_as (Some row) o f) typed)
