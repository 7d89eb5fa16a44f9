-- The events of a script's `ready` are turns.
use Rattle.ec_world.proofs.Words.{ℕ, zero, suc, ◌+◌, ◌≡◌, Bool, true, false, refl, sym, ◌∙◌, ap, subst, arith, List, [], ◌∷◌, ◌++◌, get_or, set, replicate, length-replicate, append-nil, Event, Pass, Return, IsRest, NewWorldPasses as Passes, NewWorldReturns as Returns, Serves, Ends, servings, TurnLaw}

-- marks: some slaves have served, the others were passed
push_mark : (b : Bool) (j : ℕ) (xs : List Bool) → replicate j b ++ (b ∷ xs) ≡ replicate (suc j) b ++ xs
push_mark b zero xs = refl
push_mark b (suc j) xs = ap (λ (bs : List Bool). b ∷ bs) (push_mark b j xs)

mark_at : (j : ℕ) (xs : List Bool) → get_or (replicate j true ++ (false ∷ xs)) j true ≡ false
mark_at zero xs = refl
mark_at (suc j) xs = mark_at j xs

mark_set : (j : ℕ) (xs : List Bool) → set (replicate j true ++ (false ∷ xs)) j true ≡ replicate j true ++ (true ∷ xs)
mark_set zero xs = refl
mark_set (suc j) xs = ap (λ (bs : List Bool). true ∷ bs) (mark_set j xs)

passes_rest : (n k j : ℕ) (es : List Event) → j + k ≡ n → IsRest n (replicate n false) false es → IsRest n (replicate j false) false (replicate k (Pass 0) ++ es)
passes_rest n zero j es e h = let z : n ≡ j = omega (arith, e) in subst (λ (i : ℕ). IsRest n (replicate i false) false es) z h
passes_rest n (suc k) j es e h =
    Passes (replicate j false) (replicate k (Pass 0) ++ es) (omega (arith, length-replicate {A = Bool} j false, e))
    (subst (λ (bs : List Bool). IsRest n bs false (replicate k (Pass 0) ++ es)) (sym (push_mark false j [] ∙ append-nil (replicate (suc j) false))) (passes_rest n k (suc j) es (omega (arith, e)) h))

serves_rest : (n k j : ℕ) (es : List Event) → j + k ≡ n → IsRest n (replicate n true) false es → IsRest n (replicate j true ++ replicate k false) false (servings j k ++ es)
serves_rest n zero j es e h =
    let z : n ≡ j = omega (arith, e) in
    subst (λ (bs : List Bool). IsRest n bs false es) (sym (append-nil (replicate j true))) (subst (λ (i : ℕ). IsRest n (replicate i true) false es) z h)
serves_rest n (suc k) j es e h =
    let one : suc j ≡ j + 1 = omega arith in
    Serves (replicate j true ++ (false ∷ replicate k false)) false j (servings (j + 1) k ++ es) (mark_at j (replicate k false))
    (subst (λ (bs : List Bool). IsRest n bs false (servings (j + 1) k ++ es)) (sym (mark_set j (replicate k false) ∙ push_mark true j (replicate k false)))
    (subst (λ (i : ℕ). IsRest n (replicate (suc j) true ++ replicate k false) false (servings i k ++ es)) one (serves_rest n k (suc j) es (omega (arith, e)) h)))

pub turn_law : TurnLaw
turn_law n = record {
  rest = replicate n (Pass 0) ++ (servings 0 n ++ (Return 0 ∷ []));
  sends = refl;
  goes =
      let z : 0 + n ≡ n = omega arith in
      passes_rest n n 0 (servings 0 n ++ (Return 0 ∷ [])) z
      (serves_rest n n 0 (Return 0 ∷ []) z (Returns (replicate n true) [] (length-replicate {A = Bool} n true) (Ends (replicate n true) refl)));
}
