-- Interfaces of a list of names, written one after the other.
use Rattle.std.proofs.Common.{ℕ, zero, suc, ◌+◌, ◌<◌, ◌≡◌, refl, sym, ap, ◌∙◌, arith, List, [], ◌∷◌, ◌++◌, append_assoc, length, map, take, drop, get_or, All}
use Rattle.std.proofs.lemmas.List.{append-nil}
use Rattle.ec_capture.specs.Blocks.{block_bytes, blocks_bytes}
use Rattle.ec_capture.specs.Captures.{IsText, interface_block}

abbrev pub named : {X : Type 0} → (X → List ℕ) → List X → List ℕ
named f xs = blocks_bytes (map interface_block (map f xs))

pub names_split : {X : Type 0} (f : X → List ℕ) (xs : List X) (k : ℕ) (d : X) → k < length xs
    → named f xs ≡ named f (take k xs) ++ (block_bytes (interface_block (f (get_or xs k d))) ++ named f (drop (suc k) xs))
names_split f [] k d below = absurd (omega arith)
names_split f (x ∷ xs) zero d below = refl
names_split f (x ∷ xs) (suc k) d below =
    let less : k < length xs = omega arith in
    ap (λ (bs : List ℕ). block_bytes (interface_block (f x)) ++ bs) (names_split f xs k d less) ∙ sym (append_assoc (block_bytes (interface_block (f x))) _ _)

pub names_more : {X : Type 0} (f : X → List ℕ) (xs : List X) (k : ℕ) (d : X) → k < length xs
    → named f (take k xs) ++ block_bytes (interface_block (f (get_or xs k d))) ≡ named f (take (k + 1) xs)
names_more f [] k d below = absurd (omega arith)
names_more f (x ∷ xs) zero d below = sym (append-nil (block_bytes (interface_block (f x))))
names_more f (x ∷ xs) (suc k) d below =
    let less : k < length xs = omega arith in
    let e : suc k + 1 ≡ suc (k + 1) = omega arith in
    rw e (append_assoc (block_bytes (interface_block (f x))) _ _ ∙ ap (λ (bs : List ℕ). block_bytes (interface_block (f x)) ++ bs) (names_more f xs k d less))

pub text_at : {X : Type 0} (f : X → List ℕ) (xs : List X) (k : ℕ) (d : X) → k < length xs → All IsText (map f xs) → IsText (f (get_or xs k d))
text_at f [] k d below all = absurd (omega arith)
text_at f (x ∷ xs) zero d below all = all 0 (f x) (omega arith)
text_at f (x ∷ xs) (suc k) d below all =
    let less : k < length xs = omega arith in text_at f xs k d less (λ i e l. all (suc i) e (omega (arith, l)))
