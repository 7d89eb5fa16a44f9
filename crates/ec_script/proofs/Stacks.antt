-- Blocks around a line, and pieces, whose vectors have the earliest first.
use Rattle.std.proofs.Common.{◌≡◌, ◌∙◌, ℕ, suc, ◌+◌, ◌-◌, List, [], ◌∷◌, ◌++◌, length, reverse, slice_get, Some, length-append, refl, sym, ap, arith}
use Rattle.std.proofs.lemmas.List.{reverse-append, reverse-reverse}
use Rattle.ec_script.specs.declared.script.Piece.{Piece}
use Rattle.ec_script.specs.declared.script.Piece.TheVariants as piece
use Rattle.ec_script.specs.Drafts.{closed}

pub pushed : {X : Type 0} (old new : List X) (x : X) → new ≡ old ++ (x ∷ []) → reverse new ≡ x ∷ reverse old
pushed old new x e = ap reverse e ∙ reverse-append old (x ∷ [])

at_end : {X : Type 0} (xs : List X) (x : X) → slice_get (xs ++ (x ∷ [])) (length xs) ≡ Some x
at_end [] x = refl
at_end (y ∷ ys) x = let long : length (y ∷ ys) ≡ suc (length ys) = omega arith in ap (slice_get (y ∷ (ys ++ (x ∷ [])))) long ∙ at_end ys x

-- the last of a vector is the first of its stack
pub last_first : {X : Type 0} (xs : List X) → slice_get xs (length xs - 1) ≡ slice_get (reverse xs) 0
last_first {X} xs = by (reverse xs) refl
  where
    by : (r : List X) → reverse xs ≡ r → slice_get xs (length xs - 1) ≡ slice_get r 0
    by [] e = let none : xs ≡ [] = sym (reverse-reverse xs) ∙ ap reverse e in ap (λ (ys : List X). slice_get ys (length ys - 1)) none
    by (x ∷ r) e =
        let same : xs ≡ reverse r ++ (x ∷ []) = sym (reverse-reverse xs) ∙ (ap reverse e ∙ reverse-append (x ∷ []) r) in
        let both : length (reverse r ++ (x ∷ [])) ≡ length (reverse r) + length (x ∷ []) = length-append (reverse r) (x ∷ []) in
        let last : length (reverse r ++ (x ∷ [])) - 1 ≡ length (reverse r) = omega arith in
        ap (λ (ys : List X). slice_get ys (length ys - 1)) same ∙ (ap (slice_get (reverse r ++ (x ∷ []))) last ∙ at_end (reverse r) x)

-- ---- a `}` more

-- behind a `repeat N {`
pub closed_open : (old new : List Piece) (n : ℕ) → old ≡ new ++ (piece.Open n ∷ []) → reverse new ≡ closed (reverse old)
closed_open old new n is = sym (ap closed (pushed new old (piece.Open n) is))

-- and behind another piece
pub closed_other : (old new : List Piece) → ((n : ℕ) → slice_get (reverse old) 0 ≡ Some (piece.Open n) → ⊥) → new ≡ old ++ (piece.Close ∷ []) → reverse new ≡ closed (reverse old)
closed_other old new none is = pushed old new piece.Close is ∙ sym (other (reverse old) none)
  where
    other : (r : List Piece) → ((n : ℕ) → slice_get r 0 ≡ Some (piece.Open n) → ⊥) → closed r ≡ piece.Close ∷ r
    other [] h = refl
    other (piece.Line line ∷ r) h = refl
    other (piece.Open n ∷ r) h = absurd (h n refl)
    other (piece.Close ∷ r) h = refl
