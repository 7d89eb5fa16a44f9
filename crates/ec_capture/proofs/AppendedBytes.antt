-- Files that grow by bytes in steps.
use Rattle.std.proofs.Common.{◌≡◌, ◌∙◌, ℕ, zero, suc, ◌+◌, ◌-◌, ◌≤◌, List, [], ◌∷◌, ◌++◌, length, take, drop, Option, None, Some, refl, sym, ap, subst, append_assoc, arith, Result, Ok, Err}
use Rattle.std.specs.Io.KnownBytes.{Appends, Keeps}
use Rattle.std.proofs.lemmas.List.{append-nil, length-drop}
use Rattle.std.proofs.Math.Seq.{take-append-add, take-length}
use Rattle.ec_capture.specs.Blocks.{zeros}
use Rattle.std.specs.Prelude.{IsErr}
use Rattle.ec_capture.specs.Writing.{AppendsPart, Writes}
use Rattle.ec_capture.specs.declared.writing.WriteFault.{WriteFault}

pub few_zeros : (count : ℕ) → count ≤ 4 → take count (0 ∷ 0 ∷ 0 ∷ 0 ∷ []) ≡ zeros count
few_zeros zero few = refl
few_zeros (suc zero) few = refl
few_zeros (suc (suc zero)) few = refl
few_zeros (suc (suc (suc zero))) few = refl
few_zeros (suc (suc (suc (suc zero)))) few = refl
few_zeros (suc (suc (suc (suc (suc n))))) few = absurd (omega arith)

pub appends_nothing : (known : Option (List ℕ)) → Appends known known []
appends_nothing None = tt
appends_nothing (Some xs) = sym (append-nil xs)

pub appends_more : (old mid new : Option (List ℕ)) (a b : List ℕ) → Appends old mid a → Appends mid new b → Appends old new (a ++ b)
appends_more None mid new a b first then = tt
appends_more (Some xs) None new a b first then = absurd first
appends_more (Some xs) (Some ys) None a b first then = absurd then
appends_more (Some xs) (Some ys) (Some zs) a b first then = then ∙ (ap (λ s. s ++ b) first ∙ append_assoc xs a b)

pub appends_kept : (old mid new : Option (List ℕ)) (bytes : List ℕ) → Appends old mid bytes → Keeps mid new → Appends old new bytes
appends_kept None mid new bytes first kept = tt
appends_kept (Some xs) None new bytes first kept = absurd first
appends_kept (Some xs) (Some ys) None bytes first kept = absurd kept
appends_kept (Some xs) (Some ys) (Some zs) bytes first kept = kept ∙ first

-- all of the bytes are a first part of them, also where they aren't handed on
pub kept_part : (old mid new : Option (List ℕ)) (bytes : List ℕ) → Appends old mid bytes → Keeps mid new → AppendsPart old new bytes
kept_part old mid new bytes all kept =
    (length bytes, subst (λ (xs : List ℕ). Appends old new xs) (sym (take-length bytes)) (appends_kept old mid new bytes all kept))

-- a first part of bytes is one of more bytes
take-longer : (n : ℕ) (a b : List ℕ) → (m : ℕ) × (take n a ≡ take m (a ++ b))
take-longer zero a b = (0, refl)
take-longer (suc n) [] b = (0, refl)
take-longer (suc n) (x ∷ a) b = let rest = take-longer n a b in (suc rest.0, ap (λ (xs : List ℕ). x ∷ xs) rest.1)

pub part_first : (a b : List ℕ) (old new : Option (List ℕ)) → AppendsPart old new a → AppendsPart old new (a ++ b)
part_first a b old new part =
    let longer = take-longer part.0 a b in
    (longer.0, subst (λ (xs : List ℕ). Appends old new xs) longer.1 part.1)

pub part_then : (a b : List ℕ) (old mid new : Option (List ℕ)) → Appends old mid a → AppendsPart mid new b → AppendsPart old new (a ++ b)
part_then a b old mid new first then =
    (length a + then.0, subst (λ (xs : List ℕ). Appends old new xs) (sym (take-append-add a b then.0)) (appends_more old mid new a (take then.0 b) first then.1))

-- nothing is a first part
pub no_part : (known : Option (List ℕ)) (bytes : List ℕ) → AppendsPart known known bytes
no_part known bytes = (0, appends_nothing known)

-- a write is refused, and that ends it
pub refused : (bytes : List ℕ) (old new : Option (List ℕ)) (r : Result Unit WriteFault) → IsErr r → AppendsPart old new bytes → Writes bytes old new r
refused bytes old new (Ok done) failed part = cc
refused bytes old new (Err e) failed part = record { all = tt; part = part }

-- a write of x, the first of the bytes, is refused
pub refused_first : (x a b : List ℕ) (old new : Option (List ℕ)) (r : Result Unit WriteFault) → x ≡ a → IsErr r → AppendsPart old new x → Writes (a ++ b) old new r
refused_first x a b old new r same failed part =
    refused (a ++ b) old new r failed (part_first a b old new (subst (λ (xs : List ℕ). AppendsPart old new xs) same part))

-- x was written, the first of the bytes, and then what is behind it
pub writes_then : (x a b : List ℕ) (old mid new : Option (List ℕ)) (r : Result Unit WriteFault) → x ≡ a → Appends old mid x → Writes b mid new r → Writes (a ++ b) old new r
writes_then x a b old mid new (Ok done) same first then =
    record { all = appends_more old mid new a b (subst (λ (xs : List ℕ). Appends old mid xs) same first) then.all; part = tt }
writes_then x a b old mid new (Err e) same first then =
    record { all = tt; part = part_then a b old mid new (subst (λ (xs : List ℕ). Appends old mid xs) same first) then.part }

-- the same bytes in other words
pub writes_same : (x a : List ℕ) (old new : Option (List ℕ)) (r : Result Unit WriteFault) → x ≡ a → Writes x old new r → Writes a old new r
writes_same x a old new r same wrote = subst (λ (xs : List ℕ). Writes xs old new r) same wrote

-- ---- a write of some of the bytes

take-more : (k n : ℕ) (xs : List ℕ) → take k xs ++ take n (drop k xs) ≡ take (k + n) xs
take-more zero n xs = let e : 0 + n ≡ n = omega arith in rw e refl
take-more (suc k) zero [] = let e : suc k + 0 ≡ suc k = omega arith in rw e refl
take-more (suc k) (suc n) [] = let e : suc k + suc n ≡ suc (k + suc n) = omega arith in rw e refl
take-more (suc k) n (x ∷ xs) = let e : suc k + n ≡ suc (k + n) = omega arith in rw e (ap (λ rest. x ∷ rest) (take-more k n xs))

drop-rest : (k : ℕ) (xs : List ℕ) → take (length xs - k) (drop k xs) ≡ drop k xs
drop-rest k xs = ap (λ (n : ℕ). take n (drop k xs)) (sym (length-drop k xs)) ∙ take-length (drop k xs)

-- so many bytes more were taken of the rest
pub part_after : (old mid new : Option (List ℕ)) (bytes : List ℕ) (k n : ℕ) → Appends old mid (take k bytes) → k ≤ length bytes
    → n ≤ length (take (length bytes - k) (drop k bytes)) → Appends mid new (take n (take (length bytes - k) (drop k bytes)))
    → Appends old new (take (k + n) bytes) × (k + n ≤ length bytes)
part_after old mid new bytes k n first within bound then =
    let rest = drop-rest k bytes in
    let below : n ≤ length (drop k bytes) = subst (λ (r : List ℕ). n ≤ length r) rest bound in (
      subst (λ (xs : List ℕ). Appends old new xs) (take-more k n bytes)
          (appends_more old mid new (take k bytes) (take n (drop k bytes)) first (subst (λ (r : List ℕ). Appends mid new (take n r)) rest then)),
      omega (arith, below, length-drop k bytes),
    )
