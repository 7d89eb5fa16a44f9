-- A name's place, and one more name.
use Rattle.std.proofs.Common.{◌≡◌, ℕ, ◌+◌, ◌<◌, ◌≤◌, Bool, true, false, ◌&&◌, ◌||◌, ◌==◌, not, List, [], ◌∷◌, ◌++◌, length, get_or, Option, Some, None, is_some, ap, refl, sym, ◌∙◌, subst, arith, length-append}
use Rattle.std.specs.Prelude.{nat_le, nat_lt}
use mathlib.Core.Bool.{cond}
use Rattle.std.specs.List.{list_all, list_any, position, position_or_len}
use Rattle.std.specs.Str.{bytes_eq}
use Rattle.std.proofs.lemmas.Bool.{and_parts}
use Rattle.std.proofs.lemmas.Bool.Decides.{nat_tests}
use Rattle.std.proofs.lemmas.Slice.Eq.{bytes_eq-Decides}
use Rattle.std.proofs.lemmas.List.Sums.{prefix_len-le-length}
use Rattle.std.proofs.lemmas.List.Folds.{position_or_len_push}
use Rattle.std.proofs.lemmas.List.{get_or_append_left}
use Rattle.std.proofs.Math.Seq.{get_or-append_seam}
use Rattle.ec_table.specs.Fields.{is_name, is_name_byte}
use Rattle.ec_table.specs.Names.{is_named, index_named}
use Rattle.ec_table.specs.Unique.{AreApart}

-- ---- the first place at which a test passes

after_one : (b : Bool) (n l m : ℕ) (rest : Bool) → m ≡ l + 1 → nat_lt n l ≡ rest → nat_lt (cond (not b) (1 + n) 0) m ≡ (b || rest)
after_one true n l m rest e h = grind (arith, nat_tests)
after_one false n l m rest e h = grind (arith, nat_tests)

is_before_end : {X : Type 0} (p : X → Bool) (xs : List X) → nat_lt (position_or_len p xs) (length xs) ≡ list_any p xs
is_before_end p [] = refl
is_before_end p (x ∷ xs) = after_one (p x) (position_or_len p xs) (length xs) (length (x ∷ xs)) (list_any p xs) (omega arith) (is_before_end p xs)

some_from_test : (b : Bool) (n : ℕ) → is_some (cond b (Some n) None) ≡ b
some_from_test true n = refl
some_from_test false n = refl

pub has_place : {X : Type 0} (p : X → Bool) (xs : List X) → is_some (position p xs) ≡ list_any p xs
has_place p xs = some_from_test (nat_lt (position_or_len p xs) (length xs)) (position_or_len p xs) ∙ is_before_end p xs

-- where n of l elements fail, one more, and whether it passes
one_more_place : (n l : ℕ) (passes : Bool) → n ≤ l → cond (nat_lt (cond (n == l) (l + cond passes 0 1) n) (l + 1)) (Some (cond (n == l) (l + cond passes 0 1) n)) None ≡ cond (nat_lt n l) (Some n) (cond passes (Some l) None)
one_more_place n l true h = grind (arith, nat_tests)
one_more_place n l false h = grind (arith, nat_tests)

position_push : {X : Type 0} (p : X → Bool) (xs : List X) (y : X) → position p (xs ++ y ∷ []) ≡ cond (nat_lt (position_or_len p xs) (length xs)) (Some (position_or_len p xs)) (cond (p y) (Some (length xs)) None)
position_push p xs y =
    let count : length (xs ++ y ∷ []) ≡ length xs + 1 = length-append xs (y ∷ []) in
    rw (position_or_len_push p xs y, count) (one_more_place (position_or_len p xs) (length xs) (p y) (prefix_len-le-length (λ x. not (p x)) xs))

pub before_end : {X : Type 0} (p : X → Bool) (xs : List X) (i : ℕ) (b : Bool) → nat_lt (position_or_len p xs) (length xs) ≡ b → cond b (Some (position_or_len p xs)) None ≡ Some i → i < length xs
before_end p xs i true lt is = let e : position_or_len p xs ≡ i = cc in grind (arith, nat_tests)
before_end p xs i false lt is = absurd (cc)

-- ---- names

pub name_fits : (s : List ℕ) → is_name s ≡ true → length s ≤ 32
name_fits s h =
    let (long, _) = and_parts (nat_le 1 (length s) && nat_le (length s) 32) (list_all is_name_byte s) h in
    let (_, fits) = and_parts (nat_le 1 (length s)) (nat_le (length s) 32) long in
    grind (arith, nat_tests)

pub named_at : {X : Type 0} (name_of : X → List ℕ) (name : List ℕ) (rows : List X) → is_some (index_named name_of name rows) ≡ is_named name_of name rows
named_at name_of name rows = has_place (λ x. bytes_eq (name_of x) name) rows

-- the place of a name is that of a row
pub place_within : {X : Type 0} (name_of : X → List ℕ) (name : List ℕ) (rows : List X) (i : ℕ) → Some i ≡ index_named name_of name rows → i < length rows
place_within name_of name rows i is = before_end (λ x. bytes_eq (name_of x) name) rows i (nat_lt (position_or_len (λ x. bytes_eq (name_of x) name) rows) (length rows)) refl (sym is)

one_of_two : (first second : Bool) (n l : ℕ) → (second ≡ true → first ≡ false) → cond first (Some n) (cond second (Some l) None) ≡ cond second (Some l) (cond first (Some n) None)
one_of_two true true n l h = absurd (grind (arith, h refl))
one_of_two true false n l h = refl
one_of_two false second n l h = refl

placed_by : {X : Type 0} (p : X → Bool) (rows : List X) (row : X) → (p row ≡ true → list_any p rows ≡ false) → position p (rows ++ row ∷ []) ≡ cond (p row) (Some (length rows)) (position p rows)
placed_by p rows row h = position_push p rows row ∙ one_of_two (nat_lt (position_or_len p rows) (length rows)) (p row) (position_or_len p rows) (length rows) (λ same. is_before_end p rows ∙ h same)

-- a row whose name no other has
placed_more : {X : Type 0} (name_of : X → List ℕ) (rows : List X) (row : X) (q : List ℕ) → is_named name_of (name_of row) rows ≡ false → index_named name_of q (rows ++ row ∷ []) ≡ cond (bytes_eq (name_of row) q) (Some (length rows)) (index_named name_of q rows)
placed_more name_of rows row q fresh = placed_by (λ x. bytes_eq (name_of x) q) rows row (λ same.
    let e : name_of row ≡ q = (bytes_eq-Decides (name_of row) q).0 same in
    subst (λ (n : List ℕ). list_any (λ x. bytes_eq (name_of x) n) rows ≡ false) e fresh)

-- the map with one more name, beside the rows with one more row
pub place_more : {X : Type 0} (name_of : X → List ℕ) (rows more : List X) (row : X) (name q : List ℕ) (before after : Option ℕ) (n : ℕ) → name_of row ≡ name → is_named name_of name rows ≡ false → more ≡ rows ++ row ∷ [] → n ≡ length rows → before ≡ index_named name_of q rows → after ≡ cond (bytes_eq name q) (Some n) before → after ≡ index_named name_of q more
place_more name_of rows more row name q before after n named fresh is count old new =
    let here : is_named name_of (name_of row) rows ≡ false = subst (λ (m : List ℕ). is_named name_of m rows ≡ false) (sym named) fresh in
    new ∙ rw (is, count, old, ← named) (sym (placed_more name_of rows row q here))

-- ---- rows whose names are apart

other_name : {X : Type 0} (name_of : X → List ℕ) (rows : List X) (row one : X) (i : ℕ) (b : Bool) → is_named name_of (name_of row) rows ≡ false → index_named name_of (name_of one) rows ≡ Some i → bytes_eq (name_of row) (name_of one) ≡ b → cond b (Some (length rows)) (index_named name_of (name_of one) rows) ≡ Some i
other_name name_of rows row one i false fresh own same = own
other_name name_of rows row one i true fresh own same =
    let e : name_of row ≡ name_of one = (bytes_eq-Decides (name_of row) (name_of one)).0 same in
    let there : index_named name_of (name_of row) rows ≡ Some i = subst (λ (n : List ℕ). index_named name_of n rows ≡ Some i) (sym e) own in
    let is : is_named name_of (name_of row) rows ≡ true = sym (named_at name_of (name_of row) rows) ∙ ap is_some there in
    absurd (cc)

own_place : {X : Type 0} (name_of : X → List ℕ) (rows : List X) (row none : X) (place : ℕ) (b : Bool) → nat_lt place (length rows) ≡ b → place < length rows + 1 → is_named name_of (name_of row) rows ≡ false → AreApart name_of rows
    → index_named name_of (name_of (get_or (rows ++ row ∷ []) place none)) (rows ++ row ∷ []) ≡ Some place
own_place name_of rows row none place true before lt fresh apart =
    let inside : place < length rows = grind (arith, nat_tests) in
    rw (get_or_append_left rows (row ∷ []) none place inside, placed_more name_of rows row (name_of (get_or rows place none)) fresh)
    (other_name name_of rows row (get_or rows place none) place (bytes_eq (name_of row) (name_of (get_or rows place none))) fresh (apart place none inside) refl)
own_place name_of rows row none place false before lt fresh apart =
    let last : place ≡ length rows = grind (arith, nat_tests) in
    rw (last, get_or-append_seam rows row [] none, placed_more name_of rows row (name_of row) fresh, (bytes_eq-Decides (name_of row) (name_of row)).1 refl) refl

-- with one more row, whose name no other has, names are still apart
pub apart_more : {X : Type 0} (name_of : X → List ℕ) (rows more : List X) (row : X) (name : List ℕ) → name_of row ≡ name → is_named name_of name rows ≡ false → more ≡ rows ++ row ∷ [] → AreApart name_of rows → AreApart name_of more
apart_more name_of rows more row name named fresh is apart place none lt =
    let here : is_named name_of (name_of row) rows ≡ false = subst (λ (m : List ℕ). is_named name_of m rows ≡ false) (sym named) fresh in
    let long : length more ≡ length rows + 1 = ap length is ∙ length-append rows (row ∷ []) in
    rw is (own_place name_of rows row none place (nat_lt place (length rows)) refl (omega (arith, lt, long)) here apart)
