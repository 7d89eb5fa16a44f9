use Rattle.std.proofs.Common.{◌∙◌, ◌++◌, ℕ, List, OnErr, OnOk, ap, subst}
use Rattle.ec_text.specs.PlanText.{newline}
use Rattle.ec_console.specs.Printing.{IsCutOff, IsPrinted}
use Rattle.ec_console.proofs.Late.{cut_part}
use Rattle.ec_console.proofs.PrintLemmas.{if_err, part_none}
use Rattle.ec_console.proofs.running.print_echo.Goals as goal

pub returns-in_err-line-clause-part : goal.returns-in_err-line-clause-part
returns-in_err-line-clause-part g c = if_err _ (part_none c.args.output.now (c.args.text.now ++ newline))

pub returns-in_err-push-clause-part : goal.returns-in_err-push-clause-part
returns-in_err-push-clause-part g c = if_err _ (part_none c.args.output.now (c.args.text.now ++ newline))

pub returns-clause-all : goal.returns-clause-all
returns-clause-all g c =
    subst (λ (xs : List ℕ). OnOk c.print_text.result (IsPrinted c.args.output.now c.print_text.new.output xs))
    (c.as_slice.ensures ∙ (c.in_ok-push.ensures.ok ∙ ap (λ (xs : List ℕ). xs ++ newline) c.in_ok-line.ensures)) c.print_text.ensures.all

pub returns-clause-part : goal.returns-clause-part
returns-clause-part g c =
    cut_part c.print_text.result _ _ _ (subst (λ (xs : List ℕ). OnErr c.print_text.result (IsCutOff c.args.output.now c.print_text.new.output xs))
    (c.as_slice.ensures ∙ (c.in_ok-push.ensures.ok ∙ ap (λ (xs : List ℕ). xs ++ newline) c.in_ok-line.ensures)) c.print_text.ensures.part)
