-- How a scan ends.
use Rattle.std.proofs.Common.{◌≡◌, ◌∙◌, ℕ, Bool, List, [], Result, Ok, Err, inl, inr, refl, sym, ap, subst}
use Rattle.std.specs.Prelude.{IsErrAnd}
use Rattle.ec_table.specs.Contents.{Contents}
use Rattle.ec_console.specs.declared.refusal.Refusal.{Refusal}
use Rattle.ec_console.specs.declared.refusal.Refusal.TheVariants.{Output}
use Rattle.ec_console.specs.Explaining.{Behind, IsLeft}
use Rattle.ec_console.specs.Printing.{IsCutOff, IsPrinted, OutputState}
use Rattle.ec_wire.specs.Taps.{IsTraceOf}
use Rattle.ec_wire.specs.Wires.{Nothing, Number, Payloads, Trace}
use Rattle.ec_scan.specs.Lines.{IsFresh}
use Rattle.ec_scan.specs.declared.shown.Shown.{Shown}
use Rattle.ec_found.specs.declared.found.Found.{Found}
use Rattle.ec_found.specs.Differing.{agrees}
use Rattle.cmd_scan.specs.Scans.{AreFound, IsScanOf, IsScanRefusal, IsUnscanned, RunsAgainst, RunsScan, against_end, unsaid_end}

-- nothing is printed
pub none_printed : (r : Result Unit Refusal) (x : Refusal) (known : OutputState) → IsErrAnd r (λ e. e ≡ x) → IsScanRefusal x → RunsScan known known r
none_printed (Ok done) x known is h = absurd is
none_printed (Err e) x known is h = inl (e, refl, subst IsScanRefusal (sym is) h, refl)

pub none_compared : (c : Contents) (r : Result Unit Refusal) (x : Refusal) (known : OutputState) → IsErrAnd r (λ e. e ≡ x) → IsUnscanned x → RunsAgainst c known known r
none_compared c (Ok done) x known is h = absurd is
none_compared c (Err e) x known is h = inl (e, refl, subst IsUnscanned (sym is) h, refl)

-- a text is cut off
pub cut_off : (r : Result Unit Refusal) (x : Refusal) (text : List ℕ) (fs : List Found) (old new : OutputState) → IsErrAnd r (λ e. e ≡ x) → x ≡ Output → IsScanOf text fs → IsCutOff old new text
    → RunsScan old new r
cut_off (Ok done) x text fs old new is out of cut = absurd is
cut_off (Err e) x text fs old new is out of cut = inr (inl (text, (fs, of), ap Err (is ∙ out), cut))

pub cut_compared : (c : Contents) (r : Result Unit Refusal) (x : Refusal) (text : List ℕ) (old new : OutputState) → IsErrAnd r (λ e. e ≡ x) → x ≡ Output → IsCutOff old new text
    → RunsAgainst c old new r
cut_compared c (Ok done) x text old new is out cut = absurd is
cut_compared c (Err e) x text old new is out cut = inr (inl (text, ap Err (is ∙ out), cut))

-- all of it is printed
pub all_printed : (r : Result Unit Refusal) (text : List ℕ) (fs gs : List Found) (old new : OutputState) → IsScanOf text fs → gs ≡ fs → r ≡ unsaid_end gs → IsPrinted old new text → RunsScan old new r
all_printed r text fs gs old new of same is printed = inr (inr (text, fs, of, is ∙ ap unsaid_end same, printed))

pub all_compared : (c : Contents) (r : Result Unit Refusal) (shown : List Shown) (fs gs : List Found) (agreed : Bool) (text said : List ℕ) (old new : OutputState) → AreFound shown fs → gs ≡ fs → agreed ≡ agrees c gs
    → said ≡ text → r ≡ against_end agreed said → IsPrinted old new text → RunsAgainst c old new r
all_compared c r shown fs gs agreed text said old new found same agree whole is printed =
    inr (inr (shown, fs, text, found, is ∙ ap (against_end agreed) whole ∙ ap (λ (b : Bool). against_end b text) (agree ∙ ap (agrees c) same), printed))

-- an explanation that is left twice
pub left_twice : (first middle last : Behind) → IsLeft first middle → IsLeft middle last → IsLeft first last
left_twice first middle last one two unwanted = two (ap (λ (b : Behind). b.is_wanted) (one unwanted) ∙ unwanted) ∙ one unwanted

-- a wire that has sent nothing can be noted from now on
pub fresh_trace : (t : Trace) → IsFresh t → IsTraceOf t []
fresh_trace Nothing fresh = tt
fresh_trace (Number told) fresh = tt
fresh_trace (Payloads told) fresh = fresh
