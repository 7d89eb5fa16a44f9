-- Bad lines, and why they are bad.
use Rattle.std.proofs.Common.{◌≡◌, ◌∙◌, ℕ, Bool, true, false, List, ◌++◌, refl, sym, subst, Result, Ok, Err, OnOk, OnErr}
use Rattle.ec_script.specs.declared.draft.Due.{Due}
use Rattle.ec_script.specs.declared.draft.Due.TheVariants as due
use Rattle.ec_script.specs.declared.line.Step.{Step}
use Rattle.ec_console.specs.declared.wanted.Manner.{Manner}
use Rattle.ec_console.specs.Coming.{IsBadText, PartOf, SaysDue, bad_text}
use Rattle.ec_console.specs.Printing.{IsCutOff, IsPartPrinted, IsPrinted, OutputState}
use Rattle.ec_console.specs.Unmet.{counted, unmet_of}
use Rattle.ec_console.proofs.PrintLemmas.{appends_nothing}
use Rattle.ec_console.proofs.ReasonLemmas.{some_why}

-- ---- its text

-- it is printed
pub bad_printed : {E : Type 0} (r : Result Unit E) (manner : Manner) (n : ℕ) (text written : List ℕ) (old new : OutputState) → IsBadText manner n text → written ≡ text → OnOk r (IsPrinted old new written)
    → OnOk r ((printed : List ℕ) × IsBadText manner n printed × IsPrinted old new printed)
bad_printed (Ok done) manner n text written old new bad is all = (text, bad, subst (IsPrinted old new) is all)
bad_printed (Err e) manner n text written old new bad is all = tt

-- or a part of it is
pub bad_cut : {E : Type 0} (r : Result Unit E) (manner : Manner) (n : ℕ) (text written : List ℕ) (old new : OutputState) → IsBadText manner n text → written ≡ text → OnErr r (IsCutOff old new written)
    → OnErr r ((printed : List ℕ) × IsBadText manner n printed × IsPartPrinted old new printed)
bad_cut (Ok done) manner n text written old new bad is cut = tt
bad_cut (Err e) manner n text written old new bad is cut = (text, bad, subst (IsPartPrinted old new) is cut.part)

-- or nothing, without memory for it
pub bad_unsaid : {E : Type 0} (r : Result Unit E) (manner : Manner) (n : ℕ) (output : OutputState) → OnErr r ((printed : List ℕ) × IsBadText manner n printed × IsPartPrinted output output printed)
bad_unsaid (Ok done) manner n output = tt
bad_unsaid (Err e) manner n output =
    let why = some_why manner.explained in
    (bad_text n ++ why.0, (why.0, why.1, refl), (0, appends_nothing output.holds))

-- ---- what it does

module _ {S : Type 0} (one : S → Step → S → List ℕ → ℕ → Type 0) (manner : Manner) where
  pub says_bad : (s : S) (n : ℕ) (d : Due) (count : ℕ) (old new : OutputState) → d ≡ due.Bad n → count ≡ unmet_of manner.strict → (text : List ℕ) × IsBadText manner n text × IsPrinted old new text
      → (unmet : ℕ) × (count ≡ counted unmet) × (printed : List ℕ) × SaysDue one manner s d s printed unmet × IsPrinted old new printed
  says_bad s n d count old new is counts (text, bad, prints) =
      (unmet_of manner.strict, counts ∙ few manner.strict, text, subst (λ (x : Due). SaysDue one manner s x s text (unmet_of manner.strict)) (sym is) (refl, bad, refl), prints)
    where
      few : (b : Bool) → unmet_of b ≡ counted (unmet_of b)
      few true = refl
      few false = refl

  pub stops_bad : {T E : Type 0} (result : Result T E) (s : S) (n : ℕ) (d : Due) (old new : OutputState) → d ≡ due.Bad n → (text : List ℕ) × IsBadText manner n text × IsPartPrinted old new text
      → OnErr result (PartOf one manner s d s old new)
  stops_bad (Ok v) s n d old new is part = tt
  stops_bad (Err e) s n d old new is (text, bad, part) = subst (λ (x : Due). PartOf one manner s x s old new) (sym is) (refl, text, bad, part)
