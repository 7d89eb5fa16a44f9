-- A list that grows by what belongs to its next place, or of which one element is replaced.
use Rattle.std.proofs.Common.{ℕ, zero, suc, ◌+◌, ◌<◌, ◌≡◌, ◌≢◌, refl, sym, ◌∙◌, ap, subst, inl, inr, arith, List, [], ◌∷◌, ◌++◌, length, map, take, get_or, set, get_or-set_same, get_or-set_other}
use Rattle.std.proofs.lemmas.Bool.{cases_eq}
use Rattle.std.proofs.lemmas.List.{length-append, map-append, take_more}

last_at : {X : Type 0} (xs : List X) (x d : X) → get_or (xs ++ x ∷ []) (length xs) d ≡ x
last_at [] x d = refl
last_at (y ∷ xs) x d = last_at xs x d

front_at : {X : Type 0} (xs : List X) (x d : X) (k : ℕ) → k < length xs → get_or (xs ++ x ∷ []) k d ≡ get_or xs k d
front_at [] x d k l = absurd (omega arith)
front_at (y ∷ xs) x d zero l = refl
front_at (y ∷ xs) x d (suc k) l = front_at xs x d k (omega arith)

pub pushed_count : {X : Type 0} (xs ys : List X) (x : X) (n : ℕ) → length xs ≡ n → ys ≡ xs ++ x ∷ [] → length ys ≡ n + 1
pushed_count xs ys x n s e = ap length e ∙ (length-append xs (x ∷ []) ∙ ap (λ (m : ℕ). m + 1) s)

pub pushed_each : {X : Type 0} (f : ℕ → X) (xs ys : List X) (x : X) (n : ℕ) → length xs ≡ n → ((k : ℕ) (d : X) → k < n → get_or xs k d ≡ f k) → ys ≡ xs ++ x ∷ [] → x ≡ f n
    → (k : ℕ) (d : X) → k < n + 1 → get_or ys k d ≡ f k
pushed_each f xs ys x n s each e is k d l = elim (cases_eq k n) [
  | inl same ↦ ap (λ zs. get_or zs k d) e ∙ (ap (λ (j : ℕ). get_or (xs ++ x ∷ []) j d) (same ∙ sym s) ∙ (last_at xs x d ∙ (is ∙ ap f (sym same))))
  | inr ne ↦ ap (λ zs. get_or zs k d) e ∙ (front_at xs x d k (omega arith) ∙ each k d (omega arith))
]

pub put_at : {X : Type 0} (P : ℕ → X → Type 0) (xs : List X) (i : ℕ) (x d : X) → i < length xs → P i x → (k : ℕ) → (k ≢ i → P k (get_or xs k d)) → P k (get_or (set xs i x) k d)
put_at P xs i x d l own k others = elim (cases_eq k i) [
  | inl e ↦ subst (λ (n : ℕ). P n (get_or (set xs i x) n d)) (sym e) (subst (P i) (sym (get_or-set_same xs i x d l)) own)
  | inr ne ↦ subst (P k) (sym (get_or-set_other xs i k x d ne)) (others ne)
]

pub pushed_at : {X : Type 0} (P : ℕ → X → Type 0) (xs ys : List X) (x d : X) (n : ℕ) → length xs ≡ n → ((k : ℕ) → k < n → P k (get_or xs k d)) → ys ≡ xs ++ x ∷ [] → P n x
    → (k : ℕ) → k < n + 1 → P k (get_or ys k d)
pushed_at {X} P xs ys x d n s each e own k l =
    let last : get_or (xs ++ x ∷ []) n d ≡ x = ap (λ (j : ℕ). get_or (xs ++ x ∷ []) j d) (sym s) ∙ last_at xs x d in
    subst (λ (zs : List X). P k (get_or zs k d)) (sym e) (elim (cases_eq k n) [
      | inl same ↦ subst (λ (j : ℕ). P j (get_or (xs ++ x ∷ []) j d)) (sym same) (subst (P n) (sym last) own)
      | inr ne ↦ subst (P k) (sym (front_at xs x d k (omega arith))) (each k (omega arith))
    ])

pub pushed_map : {X Y : Type 0} (f : X → Y) (ls : List X) (i : ℕ) (l : X) (old new : List Y) (y : Y) → i < length ls → l ≡ get_or ls i l → old ≡ map f (take i ls) → y ≡ f l → new ≡ old ++ y ∷ [] → new ≡ map f (take (i + 1) ls)
pushed_map {X} {Y} f ls i l old new y b at h e n =
    let more : take (i + 1) ls ≡ take i ls ++ l ∷ [] = take_more ls i l b ∙ ap (λ (x : X). take i ls ++ x ∷ []) (sym at) in
    n ∙ (ap (λ (xs : List Y). xs ++ y ∷ []) h ∙ (ap (λ (x : Y). map f (take i ls) ++ x ∷ []) e ∙ sym (ap (map f) more ∙ map-append f (take i ls) (l ∷ []))))
