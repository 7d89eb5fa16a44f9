-- Streams that grow in steps.
use Rattle.std.proofs.Common.{◌≡◌, ◌∙◌, inl, inr, ℕ, zero, suc, ◌+◌, ◌-◌, ◌≤◌, List, [], ◌∷◌, ◌++◌, length, take, drop, Option, None, Some, refl, sym, ap, subst, append_assoc, zero-add, arith, Result, Ok, Err, IfErr, OnOk, OnErr, Bool, true, false, not, ◌||◌}
use Rattle.std.specs.Io.KnownBytes.{Appends, Keeps}
use Rattle.std.proofs.lemmas.List.{append-nil}
use denote.Enum.Bare.{sameb}
use Rattle.std.specs.contracts.io.ErrorKind.{the_type}
use Rattle.std.specs.declared.io.ErrorKind.{ErrorKind}
use Rattle.std.specs.declared.io.ErrorKind.TheVariants.{Interrupted}
use Rattle.ec_console.specs.Laws.{TextsLaw}
use Rattle.ec_console.specs.Printing.{is_refusal, IsCutOff, IsPartPrinted, IsPrinted, IsEprinted, OutputState, PrintsText}
use Rattle.ec_console.specs.declared.refusal.Refusal.{Refusal}
use Rattle.ec_console.specs.declared.refusal.Refusal.TheVariants.{Output}

pub appends_nothing : (known : Option (List ℕ)) → Appends known known []
appends_nothing None = tt
appends_nothing (Some xs) = sym (append-nil xs)

pub appends_more : (old mid new : Option (List ℕ)) (a b : List ℕ) → Appends old mid a → Appends mid new b → Appends old new (a ++ b)
appends_more None mid new a b first then = tt
appends_more (Some xs) None new a b first then = absurd first
appends_more (Some xs) (Some ys) None a b first then = absurd then
appends_more (Some xs) (Some ys) (Some zs) a b first then = then ∙ (ap (λ s. s ++ b) first ∙ append_assoc xs a b)

pub appends_kept : (old mid new : Option (List ℕ)) (bytes : List ℕ) → Appends old mid bytes → Keeps mid new → Appends old new bytes
appends_kept None mid new bytes first kept = tt
appends_kept (Some xs) None new bytes first kept = absurd first
appends_kept (Some xs) (Some ys) None bytes first kept = absurd kept
appends_kept (Some xs) (Some ys) (Some zs) bytes first kept = kept ∙ first

-- a first part, and some first part of the rest
pub take-more : (k n : ℕ) (xs : List ℕ) → take k xs ++ take n (drop k xs) ≡ take (k + n) xs
take-more zero n xs = ap (λ m. take m xs) (sym (zero-add n))
take-more (suc k) zero [] = let e : suc k + 0 ≡ suc k = omega arith in rw e refl
take-more (suc k) (suc n) [] = let e : suc k + suc n ≡ suc (k + suc n) = omega arith in rw e refl
take-more (suc k) n (x ∷ xs) = let e : suc k + n ≡ suc (k + n) = omega arith in rw e (ap (λ rest. x ∷ rest) (take-more k n xs))

pub take-all : (xs : List ℕ) → take (length xs) xs ≡ xs
take-all [] = refl
take-all (x ∷ xs) = ap (λ rest. x ∷ rest) (take-all xs)

pub drop-rest : (k : ℕ) (xs : List ℕ) → take (length xs - k) (drop k xs) ≡ drop k xs
drop-rest zero xs = let e : length xs - 0 ≡ length xs = omega arith in rw e (take-all xs)
drop-rest (suc k) [] = let e : 0 - suc k ≡ 0 = omega arith in rw e refl
drop-rest (suc k) (x ∷ xs) = let e : suc (length xs) - suc k ≡ length xs - k = omega arith in rw e (drop-rest k xs)

pub length-rest : (k : ℕ) (xs : List ℕ) → k ≤ length xs → length (drop k xs) + k ≡ length xs
length-rest zero xs le = omega arith
length-rest (suc k) [] le = absurd (omega arith)
length-rest (suc k) (x ∷ xs) le =
    let below : k ≤ length xs = omega arith in
    let rest = length-rest k xs below in
    omega (arith, rest)

-- what stands after a further write of the rest took some bytes
pub appends_part : (old mid new : Option (List ℕ)) (k n : ℕ) (text : List ℕ) → Appends old mid (take k text) → Appends mid new (take n (drop k text))
    → Appends old new (take (k + n) text)
appends_part old mid new k n text first then =
    subst (Appends old new) (take-more k n text) (appends_more old mid new (take k text) (take n (drop k text)) first then)

pub part_after : (old mid new : Option (List ℕ)) (text : List ℕ) (k n : ℕ) → Appends old mid (take k text) → k ≤ length text
    → n ≤ length (take (length text - k) (drop k text)) → Appends mid new (take n (take (length text - k) (drop k text)))
    → Appends old new (take (k + n) text) × (k + n ≤ length text)
part_after old mid new text k n first within bound then =
    let rest = drop-rest k text in
    let below : n ≤ length (drop k text) = subst (λ (r : List ℕ). n ≤ length r) rest bound in (
      appends_part old mid new k n text first (subst (λ (r : List ℕ). Appends mid new (take n r)) rest then),
      omega (arith, below, length-rest k text within),
    )

-- ---- whether a write was refused

pub not_refused : (before now said : Bool) → now ≡ before || said → said ≡ false → now ≡ before
not_refused true now said is none = is
not_refused false now said is none = is ∙ none

pub now_refused : (before now said : Bool) → now ≡ before || said → said ≡ true → now ≡ true
now_refused true now said is one = is
now_refused false now said is one = is ∙ one

-- an error is a refusal, but for an interruption
pub interrupted_only : (kind : ErrorKind) → false ≡ not (sameb the_type kind Interrupted) → is_refusal kind ≡ false
interrupted_only Interrupted h = refl
interrupted_only _ h = let bad : false ≡ true = h in cc

pub refused_else : (kind : ErrorKind) → true ≡ not (sameb the_type kind Interrupted) → is_refusal kind ≡ true
refused_else Interrupted h = let bad : true ≡ false = h in cc
refused_else _ h = refl

-- ---- texts on an output

printed_nothing : (old : OutputState) → IsPrinted old old []
printed_nothing old = record { bytes = appends_nothing old.holds; refused = refl; flushed = λ is. is }

printed_more : (old mid new : OutputState) (a b : List ℕ) → IsPrinted old mid a → IsPrinted mid new b → IsPrinted old new (a ++ b)
printed_more old mid new a b first then = record {
  bytes = appends_more old.holds mid.holds new.holds a b first.bytes then.bytes;
  refused = then.refused ∙ first.refused;
  flushed = λ is. then.flushed (first.flushed is);
}

-- the whole of a text is a first part of it
pub whole_part : (old new : OutputState) (text : List ℕ) → Appends old.holds new.holds text → IsPartPrinted old new text
whole_part old new text whole = (length text, subst (Appends old.holds new.holds) (sym (take-all text)) whole)

-- and nothing is one
pub part_none : (output : OutputState) (text : List ℕ) → IsPartPrinted output output text
part_none output text = (0, appends_nothing output.holds)

-- and what is behind a text that is printed is behind it in both
part_behind : (text more : List ℕ) (n : ℕ) → text ++ take n more ≡ take (length text + n) (text ++ more)
part_behind [] more n = ap (λ k. take k more) (sym (zero-add n))
part_behind (x ∷ xs) more n =
    let e : suc (length xs) + n ≡ suc (length xs + n) = omega arith in
    rw e (ap (λ l. x ∷ l) (part_behind xs more n))

part_more : (old mid new : OutputState) (text more : List ℕ) → IsPrinted old mid text → IsPartPrinted mid new more → IsPartPrinted old new (text ++ more)
part_more old mid new text more first (count, then) =
    (length text + count, subst (Appends old.holds new.holds) (part_behind text more count) (appends_more old.holds mid.holds new.holds text (take count more) first.bytes then))

cut_more : (old mid new : OutputState) (text more : List ℕ) → IsPrinted old mid text → IsCutOff mid new more → IsCutOff old new (text ++ more)
cut_more old mid new text more first then = record { refused = then.refused; part = part_more old mid new text more first then.part }

pub texts : TextsLaw
texts = record {
  none = printed_nothing;
  both = printed_more;
  cut = cut_more;
  part = part_more;
  whole = λ old new text all. whole_part old new text all.bytes;
}

-- what a write says of it, as one fact
pub shown : (r : Result Unit Refusal) (old new : OutputState) (text : List ℕ) → OnOk r (IsPrinted old new text) → OnErr r (IsCutOff old new text)
    → IfErr r (λ e. e ≡ Output) → PrintsText text old new r
shown (Ok done) old new text all part fault = all
shown (Err refusal) old new text all part fault = (fault, part)

pub if_err : {T E P : Type 0} (r : Result T E) → P → OnErr r P
if_err (Ok x) p = tt
if_err (Err e) p = p

-- a text with more behind it: where a first part of it is written, that is a first part of both
part_of_both : (count : ℕ) (text more : List ℕ) → (k : ℕ) × (take k (text ++ more) ≡ take count text)
part_of_both zero text more = (0, refl)
part_of_both (suc n) [] more = (0, refl)
part_of_both (suc n) (x ∷ xs) more =
    let rest = part_of_both n xs more in
    (suc rest.0, ap (λ l. x ∷ l) rest.1)

pub part_of_more : (old new : OutputState) (text more : List ℕ) → IsCutOff old new text → IsEprinted (text ++ more) old new
part_of_more old new text more cut =
    let part = part_of_both cut.part.0 text more in
    inr (record { refused = cut.refused; part = (part.0, subst (Appends old.holds new.holds) (sym part.1) cut.part.1) })

-- and where all of it is written, what becomes of the rest becomes of both
pub told_both : (old mid new : OutputState) (text more : List ℕ) → IsPrinted old mid text → IsEprinted more mid new → IsEprinted (text ++ more) old new
told_both old mid new text more first (inl then) = inl (printed_more old mid new text more first then)
told_both old mid new text more first (inr then) = inr (cut_more old mid new text more first then)
