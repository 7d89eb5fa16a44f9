-- PDOs that CoE says are exchanged, if they are some of those that are there anyhow, change nothing.
use Rattle.std.proofs.Common.{ℕ, zero, suc, ◌<◌, ◌≤◌, ◌≡◌, ◌==◌, ◌&&◌, not, List, [], ◌∷◌, ◌++◌, length, map, Bool, true, false, All, Option, None, Some, unwrap_or, nat_le, if◌then◌else◌, slice_index_or, refl, sym, ap, ◌∙◌, arith, inl, inr, append-nil}
use Rattle.std.specs.List.{Contains}
use Rattle.std.specs.Option.{ForSome}
use Rattle.std.proofs.lemmas.Bool.{and_right, cases_Bool, cases_lt, eq-eqb, eqb-true, le-leb, not_from_true}
use Rattle.std.proofs.lemmas.List.{get_or_default}
use Rattle.ec_device.specs.declared.slave_type.Pdo.{Pdo}
use Rattle.ec_device.specs.Objects.{pdo_at}
use Rattle.ec_found.specs.Founds.{exchanged_first, has_index, joined, merged, others}
use Rattle.ec_found.proofs.KeptPdos.{Apart, first_of_all, rest_of_all}

map_same : (f : Pdo → Pdo) (ps : List Pdo) → All (λ (p : Pdo). f p ≡ p) ps → map f ps ≡ ps
map_same f [] h = refl
map_same f (p ∷ ps) h =
    ap (λ (x : Pdo). x ∷ map f ps) (first_of_all (λ (x : Pdo). f x ≡ x) p ps h)
    ∙ ap (λ (xs : List Pdo). p ∷ xs) (map_same f ps (rest_of_all (λ (x : Pdo). f x ≡ x) p ps h))

-- ---- those that are there have their index there

has_at : (ps : List Pdo) (k : ℕ) (q : Pdo) → k < length ps → slice_index_or ps k q ≡ q → has_index ps q.index ≡ true
has_at [] k q l e = absurd (omega (arith, l))
has_at (p ∷ ps) zero q l e =
    let t : (p.index == q.index) ≡ true = eq-eqb p.index q.index (ap (λ (x : Pdo). x.index) e) in
    rw t refl
has_at (p ∷ ps) (suc k) q l e = elim (cases_Bool (p.index == q.index)) [
  | inl t ↦ rw t refl
  | inr f ↦ rw f (has_at ps k q (omega (arith, l)) e)
]

none_besides : (ps qs : List Pdo) → All (Contains ps) qs → others qs ps ≡ []
none_besides ps [] h = refl
none_besides ps (q ∷ qs) h =
    let there = first_of_all (Contains ps) q qs h in
    let t : (not (q.index == 0) && not (has_index ps q.index)) ≡ false =
    and_right (not (q.index == 0)) (not (has_index ps q.index)) (not_from_true (has_index ps q.index) (has_at ps there.0 q there.1 there.2)) in
    rw t (none_besides ps qs (rest_of_all (Contains ps) q qs h))

-- ---- each has the mapping that it has there

one_of : (ps : List Pdo) (k j : ℕ) (d : Pdo) → Apart ps → k < length ps → j < length ps → (slice_index_or ps j d).index ≡ (slice_index_or ps k d).index → slice_index_or ps j d ≡ slice_index_or ps k d
one_of ps k j d apart l g e = elim (cases_lt j k) [
  | inl b ↦ absurd (apart j k d b l e)
  | inr n ↦ elim (cases_lt k j) [
    | inl b ↦ absurd (apart k j d b g (sym e))
    | inr m ↦ let same : j ≡ k = omega (arith, n, m) in ap (λ (i : ℕ). slice_index_or ps i d) same
  ]
]

own_mapping : (p : Pdo) (qs : List Pdo) → All (λ (q : Pdo). q.index ≡ p.index → q ≡ p) qs → unwrap_or (pdo_at qs p.index) p ≡ p
own_mapping p [] h = refl
own_mapping p (q ∷ qs) h = elim (cases_Bool (q.index == p.index)) [
  | inl t ↦ rw t (first_of_all (λ (x : Pdo). x.index ≡ p.index → x ≡ p) q qs h (eqb-true q.index p.index t))
  | inr f ↦ rw f (own_mapping p qs (rest_of_all (λ (x : Pdo). x.index ≡ p.index → x ≡ p) q qs h))
]

same_mappings : (ps qs : List Pdo) → Apart ps → All (Contains ps) qs → All (λ (p : Pdo). unwrap_or (pdo_at qs p.index) p ≡ p) ps
same_mappings ps qs apart h k d l = own_mapping (slice_index_or ps k d) qs others
  where
    others : All (λ (q : Pdo). q.index ≡ (slice_index_or ps k d).index → q ≡ slice_index_or ps k d) qs
    others i c b e =
        let there : Contains ps (slice_index_or qs i c) = h i c b in
        let at : slice_index_or ps there.0 d ≡ slice_index_or qs i c = get_or_default ps there.0 d (slice_index_or qs i c) there.1 ∙ there.2 in
        sym at ∙ one_of ps k there.0 d apart l there.1 (ap (λ (x : Pdo). x.index) at ∙ e)

joined_same : (ps qs : List Pdo) → Apart ps → All (Contains ps) qs → joined ps qs ≡ ps
joined_same ps qs apart h =
    ap (λ (xs : List Pdo). xs ++ others qs ps) (map_same (λ (p : Pdo). unwrap_or (pdo_at qs p.index) p) ps (same_mappings ps qs apart h))
    ∙ ap (λ (xs : List Pdo). ps ++ xs) (none_besides ps qs h)
    ∙ append-nil ps

pub merged_same : (ps : List Pdo) (o : Option (List Pdo)) → Apart ps → length ps ≤ 16 → ForSome o (All (Contains ps)) → merged false ps o ≡ ps
merged_same ps None apart few h = refl
merged_same ps (Some qs) apart few h =
    ap (λ (xs : List Pdo). if nat_le (length xs) 16 then xs else exchanged_first ps qs) (joined_same ps qs apart (h qs refl))
    ∙ ap (λ (b : Bool). if b then ps else exchanged_first ps qs) (le-leb (length ps) 16 few)
