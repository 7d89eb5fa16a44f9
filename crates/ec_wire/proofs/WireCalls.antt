-- Calls of a wire one after the other.
use Rattle.std.proofs.Common.{◌≡◌, ◌≤◌, ◌++◌, ◌||◌, ◌==◌, ℕ, List, [], Bool, true, false, sym, ◌∙◌, ap, append_assoc, arith, nat_lt, not, refl, subst}
use Rattle.std.proofs.lemmas.List.{append-nil, length-append}
use Rattle.std.proofs.lemmas.Bool.Decides.{nat_tests}
use Rattle.ec_wire.specs.Wires.{Carries, Nothing, Number, Payloads, Trace, WireState, grown, is_fault, max_failed}

grown-none : (a : Trace) → a ≡ grown a []
grown-none Nothing = refl
grown-none (Number n) = ap Number (omega arith)
grown-none (Payloads xs) = ap Payloads (sym (append-nil xs))

grown-twice : (a : Trace) (ps qs : List (List ℕ)) → grown (grown a ps) qs ≡ grown a (ps ++ qs)
grown-twice Nothing ps qs = refl
grown-twice (Number n) ps qs = ap Number (let l = length-append ps qs in omega (arith, l))
grown-twice (Payloads xs) ps qs = ap Payloads (append_assoc xs ps qs)

grown-then : (a b c : Trace) (ps qs : List (List ℕ)) → b ≡ grown a ps → c ≡ grown b qs → c ≡ grown a (ps ++ qs)
grown-then a b c ps qs g h = h ∙ (ap (λ (x : Trace). grown x qs) g ∙ grown-twice a ps qs)

-- before any call
pub carries-none : (a : WireState) → Carries a a [] []
carries-none a = record { sends = grown-none a.sent; receives = grown-none a.received; faults = omega arith }

pub carries-then : (a b c : WireState) (xs ys zs ws : List (List ℕ)) → Carries a b xs ys → Carries b c zs ws → Carries a c (xs ++ zs) (ys ++ ws)
carries-then a b c xs ys zs ws g h = record {
  sends = grown-then a.sent b.sent c.sent xs zs g.sends h.sends;
  receives = grown-then a.received b.received c.received ys ws g.receives h.receives;
  faults = let p = g.faults in let q = h.faults in omega arith;
}

same_by_tests : (m n most : ℕ) → (nat_lt m n || (m == most)) ≡ false → m ≤ n → n ≡ m
same_by_tests m n most e l = grind (arith, nat_tests)

-- a call that was no fault leaves the count
pub fine-same : (a b : WireState) → is_fault a b ≡ false → a.failed ≤ b.failed → b.failed ≡ a.failed
fine-same a b e l = same_by_tests a.failed b.failed max_failed e l

-- only the count before matters
pub fault-from : (a b c : WireState) → b.failed ≡ a.failed → is_fault b c ≡ is_fault a c
fault-from a b c e = ap (λ (n : ℕ). nat_lt n c.failed || (n == max_failed)) e

-- only the count after matters
pub fault-to : (a b c : WireState) → c.failed ≡ b.failed → is_fault a c ≡ is_fault a b
fault-to a b c e = ap (λ (n : ℕ). nat_lt a.failed n || (a.failed == max_failed)) e

-- a result that says there was no fault
pub no_fault : (b : Bool) → true ≡ not b → b ≡ false
no_fault true e = e
no_fault false e = refl

-- or that there was one
pub one_fault : (b : Bool) → false ≡ not b → b ≡ true
one_fault true e = refl
one_fault false e = absurd (let f : false ≡ true = e in cc)

-- a call that carried nothing
pub carries-lost : (a b c : WireState) (xs ys : List (List ℕ)) → Carries a b xs ys → Carries b c [] [] → Carries a c xs ys
carries-lost a b c xs ys g h =
    subst (λ (zs : List (List ℕ)). Carries a c zs ys) (append-nil xs) (subst (λ (zs : List (List ℕ)). Carries a c (xs ++ []) zs) (append-nil ys) (carries-then a b c xs ys [] [] g h))
