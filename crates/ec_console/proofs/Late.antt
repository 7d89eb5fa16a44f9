-- What cuts lines short, by what cut one of them.
use Rattle.std.proofs.Common.{◌≡◌, Bool, true, false, List, ℕ, sym, subst, Result, Ok, Err, IfErr, OnErr}
use Rattle.ec_lines.specs.declared.error.LinesError.{LinesError}
use Rattle.ec_lines.specs.declared.error.LinesError.TheVariants as lines
use Rattle.ec_lines.specs.Taking.{IsReadFault}
use Rattle.ec_console.specs.declared.refusal.Refusal.{Refusal}
use Rattle.ec_console.specs.declared.refusal.Refusal.TheVariants as refusal
use Rattle.ec_console.specs.Given.{lines_refusal}
use Rattle.ec_console.specs.Printing.{IsCutOff, IsPartPrinted, OutputState}
use Rattle.ec_console.specs.Saying.{IsLate}

-- a write that was refused
pub refused_late : (output : OutputState) (x : Refusal) → output.is_refused ≡ true → x ≡ refusal.Output → IsLate false output x
refused_late output x refused is = subst (IsLate false output) (sym is) refused

-- a line
pub line_late : (is_unread : Bool) (output : OutputState) (x : Refusal) → IsLate false output x → IsLate is_unread output x
line_late is_unread output refusal.Memory late = tt
line_late is_unread output refusal.Output late = late
line_late is_unread output refusal.Input late = let bad : false ≡ true = late in cc
line_late is_unread output (refusal.Frame e) late = absurd late
line_late is_unread output (refusal.Table e) late = absurd late
line_late is_unread output (refusal.Link e) late = absurd late
line_late is_unread output (refusal.Start e) late = absurd late
line_late is_unread output (refusal.Run e) late = absurd late
line_late is_unread output (refusal.Socket trouble) late = absurd late
line_late is_unread output (refusal.Script e) late = absurd late
line_late is_unread output refusal.BadHex late = absurd late
line_late is_unread output (refusal.Unmet n) late = absurd late
line_late is_unread output (refusal.Unsaid n) late = absurd late

-- a line that isn't taken
pub unread_late : (is_unread : Bool) (output : OutputState) (error : LinesError) → IsReadFault is_unread error → IsLate is_unread output (lines_refusal error)
unread_late is_unread output lines.Memory fault = tt
unread_late is_unread output lines.Unread fault = fault
unread_late is_unread output lines.TooLong fault = absurd fault
unread_late is_unread output lines.NoText fault = absurd fault

-- a text that can't be printed
pub write_late : (r : Result Unit Refusal) (old new : OutputState) (text : List ℕ) → OnErr r (IsCutOff old new text) → IfErr r (λ x. x ≡ refusal.Output) → IfErr r (IsLate false new)
write_late (Ok done) old new text cut is = tt
write_late (Err x) old new text cut is = subst (IsLate false new) (sym is) cut.refused

pub cut_part : (r : Result Unit Refusal) (old new : OutputState) (text : List ℕ) → OnErr r (IsCutOff old new text) → OnErr r (IsPartPrinted old new text)
cut_part (Ok done) old new text cut = tt
cut_part (Err x) old new text cut = cut.part
