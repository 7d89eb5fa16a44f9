-- How a run of lines ends.
use Rattle.std.proofs.Common.{◌≡◌, inl, inr, ℕ, ◌<◌, ◌==◌, Bool, true, false, refl, sym, ap, subst, arith, if◌then◌else◌, Result, Ok, Err, IfErr, OnErr}
use Rattle.std.specs.Result.{IsErrAnd}
use Rattle.std.proofs.lemmas.Bool.Decides.{nat_tests}
use Rattle.ec_console.specs.declared.refusal.Refusal.{Refusal}
use Rattle.ec_console.specs.declared.refusal.Refusal.TheVariants.{Memory, Unmet}
use Rattle.ec_console.specs.Printing.{OutputState}
use Rattle.ec_console.specs.Saying.{EndsRun, IsLate}
use Rattle.ec_console.specs.Unmet.{counted, ended_by}

counted_none : (count unmet : ℕ) → count ≡ counted unmet → count ≡ 0 → unmet ≡ 0
counted_none count unmet is none = omega arith

counted_some : (count unmet : ℕ) → count ≡ counted unmet → (count == 0) ≡ false → 0 < unmet
counted_some count unmet is some = let more : 0 < count = grind (arith, nat_tests) in omega arith

zero_of : (count : ℕ) → (count == 0) ≡ true → count ≡ 0
zero_of count is = grind (arith, nat_tests)

by_count : (b : Bool) (All : ℕ → Type 0) (Part : Type 0) (is_unread : Bool) (old new : OutputState) (count unmet : ℕ) → (count == 0) ≡ b → count ≡ counted unmet → All unmet
    → EndsRun All Part is_unread old new (if b then Ok tt else Err (Unmet count))
by_count true All Part is_unread old new count unmet is counts all = subst All (counted_none count unmet counts (zero_of count is)) all
by_count false All Part is_unread old new count unmet is counts all = inr (inr (unmet, counted_some count unmet counts is, ap Unmet counts, all))

-- all lines are done
pub run_ended : (r : Result Unit Refusal) (All : ℕ → Type 0) (Part : Type 0) (is_unread : Bool) (old new : OutputState) (count : ℕ) → r ≡ ended_by count → (unmet : ℕ) × (count ≡ counted unmet) × All unmet
    → EndsRun All Part is_unread old new r
run_ended r All Part is_unread old new count is (unmet, counts, all) =
    subst (EndsRun All Part is_unread old new) (sym is) (by_count (count == 0) All Part is_unread old new count unmet refl counts all)

-- they are cut short, and a call passes that on
pub run_cut : {T : Type 0} (r : Result Unit Refusal) (printed : Result T Refusal) (e : Refusal) (All : ℕ → Type 0) (Part Got : Type 0) (is_unread : Bool) (old new : OutputState) → printed ≡ Err e → OnErr printed Got
    → IfErr printed (IsLate is_unread new) → (Got → Part) → IsErrAnd r (λ x. x ≡ e) → EndsRun All Part is_unread old new r
run_cut (Ok done) printed e All Part Got is_unread old new is some late part same = absurd same
run_cut {T} (Err x) printed e All Part Got is_unread old new is some late part same =
    let got : Got = subst (λ (p : Result T Refusal). OnErr p Got) is some in
    let is_late : IsLate is_unread new e = subst (λ (p : Result T Refusal). IfErr p (IsLate is_unread new)) is late in
    inr (inl (subst (IsLate is_unread new) (sym same) is_late, part got))

-- no memory before the first line
pub run_refused : (r : Result Unit Refusal) (All : ℕ → Type 0) (Part : Type 0) (is_unread : Bool) (known : OutputState) → IsErrAnd r (λ e. e ≡ Memory) → EndsRun All Part is_unread known known r
run_refused (Ok done) All Part is_unread known is = absurd is
run_refused (Err e) All Part is_unread known is = inl (is, refl)
