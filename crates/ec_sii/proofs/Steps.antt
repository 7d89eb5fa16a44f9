-- The reader, step by step: its definitions say so.
use Rattle.std.proofs.Common.{ℕ, zero, suc, ◌≡◌, [], ◌∷◌, refl}
use Rattle.ec_sii.specs.Laws.{CategoriesAreRead, ManagersAreRead, PdosAreRead}
use Rattle.ec_sii.specs.Reading.{found_behind, managers_read, entries_read}

pub categories_law : CategoriesAreRead
unfolding found_behind
categories_law = record {
  none_left = λ wanted. refl;
  one_left = λ wanted word. refl;
  passed_end = λ more wanted. refl;
  passed_word = λ more wanted word words. refl;
  at_category = λ wanted number count words. refl;
}

pub managers_law : ManagersAreRead
unfolding managers_read
managers_law = record {
  no_manager = refl;
  one_of_four = λ a. refl;
  two_of_four = λ a b. refl;
  three_of_four = λ a b c. refl;
  a_manager = λ start long control last words. refl;
}

cut_none : (more : ℕ) → entries_read more [] ≡ record { entries = []; pdos = [] }
unfolding entries_read
cut_none zero = refl
cut_none (suc more) = refl

cut_one : (more a : ℕ) → entries_read more (a ∷ []) ≡ record { entries = []; pdos = [] }
unfolding entries_read
cut_one zero a = refl
cut_one (suc more) a = refl

cut_two : (more a b : ℕ) → entries_read more (a ∷ b ∷ []) ≡ record { entries = []; pdos = [] }
unfolding entries_read
cut_two zero a b = refl
cut_two (suc more) a b = refl

cut_three : (more a b c : ℕ) → entries_read more (a ∷ b ∷ c ∷ []) ≡ record { entries = []; pdos = [] }
unfolding entries_read
cut_three zero a b c = refl
cut_three (suc more) a b c = refl

pub pdos_law : PdosAreRead
unfolding entries_read
pdos_law = record {
  cut_none = cut_none;
  cut_one = cut_one;
  cut_two = cut_two;
  cut_three = cut_three;
  a_pdo = λ index number names flags words. refl;
  an_entry = λ more index subindex bits flags words. refl;
}
