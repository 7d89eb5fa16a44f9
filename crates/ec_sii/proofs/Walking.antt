-- A reader finds each category behind those that stand before it.
use Rattle.std.proofs.Common.{ℕ, zero, ◌≡◌, ◌==◌, List, [], ◌∷◌, ◌++◌, length, true, false, Option, Some, None, refl, ap, ◌∙◌, append_assoc}
use Rattle.std.proofs.Math.Seq.{take-append_seam}
use Rattle.std.specs.List.{flat_map}
use Rattle.ec_device.specs.declared.slave_type.Pdo.{Pdo}
use Rattle.ec_device.specs.Types.{SlaveKind}
use Rattle.ec_sii.specs.Categories.{category, pdo_words, pdos_category, strings_words, general_words, fmmus_words, managers_words, categories_of}
use Rattle.ec_sii.specs.Reading.{found_behind, category_found}

passed : (wanted : ℕ) (xs ys : List ℕ) → found_behind (length xs) wanted (xs ++ ys) ≡ found_behind zero wanted ys
unfolding found_behind
passed wanted [] ys = refl
passed wanted (x ∷ xs) ys = passed wanted xs ys

-- a category of another type is passed over
other : (wanted number : ℕ) (xs ys : List ℕ) → (number == 0xFFFF) ≡ false → (number == wanted) ≡ false → found_behind zero wanted (category number xs ++ ys) ≡ found_behind zero wanted ys
unfolding found_behind
other wanted number xs ys e f = rw (e, f) (passed wanted xs ys)

here : (wanted : ℕ) (xs ys : List ℕ) → (wanted == 0xFFFF) ≡ false → (wanted == wanted) ≡ true → found_behind zero wanted (category wanted xs ++ ys) ≡ Some xs
unfolding found_behind
here wanted xs ys e f = rw (e, f) (ap (λ (l : List ℕ). Some l) (take-append_seam xs ys))

ended : (wanted : ℕ) (ys : List ℕ) → found_behind zero wanted (0xFFFF ∷ ys) ≡ None
unfolding found_behind
ended wanted [] = refl
ended wanted (y ∷ ys) = refl

-- the words of the PDOs of a direction, where it has any
abbrev pub some_words : ℕ → List Pdo → Option (List ℕ)
some_words manager [] = None
some_words manager (p ∷ ps) = Some (flat_map (pdo_words manager) (p ∷ ps))

other-pdos : (wanted number manager : ℕ) (ps : List Pdo) (ys : List ℕ) → (number == 0xFFFF) ≡ false → (number == wanted) ≡ false → found_behind zero wanted (pdos_category number manager ps ++ ys) ≡ found_behind zero wanted ys
other-pdos wanted number manager [] ys e f = refl
other-pdos wanted number manager (p ∷ ps) ys e f = other wanted number (flat_map (pdo_words manager) (p ∷ ps)) ys e f

here-pdos : (wanted manager : ℕ) (ps : List Pdo) (ys : List ℕ) → (wanted == 0xFFFF) ≡ false → (wanted == wanted) ≡ true → found_behind zero wanted ys ≡ None → found_behind zero wanted (pdos_category wanted manager ps ++ ys) ≡ some_words manager ps
here-pdos wanted manager [] ys e f none = none
here-pdos wanted manager (p ∷ ps) ys e f none = here wanted (flat_map (pdo_words manager) (p ∷ ps)) ys e f

-- ---- the categories of a slave, with the end mark behind them

-- what stands behind the sync managers
abbrev tail : SlaveKind → List ℕ → List ℕ
tail kind ys = pdos_category 50 3 kind.inputs ++ (pdos_category 51 2 kind.outputs ++ (0xFFFF ∷ ys))

shaped : (kind : SlaveKind) (name ys : List ℕ) → categories_of kind name ++ 0xFFFF ∷ ys
    ≡ category 10 (strings_words name) ++ (category 30 (general_words kind) ++ (category 40 (fmmus_words kind) ++ (category 41 (managers_words kind) ++ tail kind ys)))
unfolding categories_of
shaped kind name ys = simp append_assoc

pub record Found (kind : SlaveKind) (name words : List ℕ) : Type 0 where
  pub strings : category_found 10 words ≡ Some (strings_words name)
  pub general : category_found 30 words ≡ Some (general_words kind)
  pub fmmus : category_found 40 words ≡ Some (fmmus_words kind)
  pub managers : category_found 41 words ≡ Some (managers_words kind)
  pub inputs : category_found 50 words ≡ some_words 3 kind.inputs
  pub outputs : category_found 51 words ≡ some_words 2 kind.outputs

-- the categories before those of the PDOs are passed over
behind : (wanted : ℕ) (kind : SlaveKind) (name ys : List ℕ) → (10 == wanted) ≡ false → (30 == wanted) ≡ false → (40 == wanted) ≡ false → (41 == wanted) ≡ false
    → found_behind zero wanted (category 10 (strings_words name) ++ (category 30 (general_words kind) ++ (category 40 (fmmus_words kind) ++ (category 41 (managers_words kind) ++ ys)))) ≡ found_behind zero wanted ys
behind wanted kind name ys a b c d =
    other wanted 10 (strings_words name) _ refl a
    ∙ other wanted 30 (general_words kind) _ refl b
    ∙ other wanted 40 (fmmus_words kind) _ refl c
    ∙ other wanted 41 (managers_words kind) ys refl d

pub found : (kind : SlaveKind) (name ys : List ℕ) → Found kind name (categories_of kind name ++ 0xFFFF ∷ ys)
found kind name ys = rw (shaped kind name ys) (record {
  strings = here 10 (strings_words name) _ refl refl;
  general = other 30 10 (strings_words name) _ refl refl ∙ here 30 (general_words kind) _ refl refl;
  fmmus = other 40 10 (strings_words name) _ refl refl ∙ other 40 30 (general_words kind) _ refl refl ∙ here 40 (fmmus_words kind) _ refl refl;
  managers = other 41 10 (strings_words name) _ refl refl ∙ other 41 30 (general_words kind) _ refl refl
      ∙ other 41 40 (fmmus_words kind) _ refl refl ∙ here 41 (managers_words kind) _ refl refl;
  inputs = behind 50 kind name (tail kind ys) refl refl refl refl
      ∙ here-pdos 50 3 kind.inputs _ refl refl (other-pdos 50 51 2 kind.outputs _ refl refl ∙ ended 50 ys);
  outputs = behind 51 kind name (tail kind ys) refl refl refl refl
      ∙ other-pdos 51 50 3 kind.inputs _ refl refl ∙ here-pdos 51 2 kind.outputs _ refl refl (ended 51 ys);
})
