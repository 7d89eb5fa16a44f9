use Rattle.std.proofs.Common.{◌++◌, ℕ, List, subst}
use Rattle.ec_text.specs.PlanText.{newline}
use Rattle.ec_console.specs.Printing.{IsPartPrinted, IsPrinted}
use Rattle.ec_console.proofs.PrintLemmas.{if_err}
use Rattle.ec_console.proofs.SayLemmas.{echo_all, echo_part}
use Rattle.ec_console.proofs.running.obey_task.Goals as goal

pub returns-in_err-print_echo-in-Echo-clause-part : goal.returns-in_err-print_echo-in-Echo-clause-part
returns-in_err-print_echo-in-Echo-clause-part g c =
    if_err _ (echo_part g.T.Target.says c.args.target.now c.args.task.now c.in-Echo.text c.args.output.now c.print_echo.new.output c.in-Echo.is
    (subst (λ (xs : List ℕ). IsPartPrinted c.args.output.now c.print_echo.new.output (xs ++ newline)) c.as_slice.ensures c.in_err-print_echo-in-Echo.ensures.part))

pub returns-in_ok-print_echo-in-Echo-clause-all : goal.returns-in_ok-print_echo-in-Echo-clause-all
returns-in_ok-print_echo-in-Echo-clause-all g c =
    echo_all g.T.Target.says c.args.target.now c.args.task.now c.in-Echo.text c.args.output.now c.print_echo.new.output c.in-Echo.is
    (subst (λ (xs : List ℕ). IsPrinted c.args.output.now c.print_echo.new.output (xs ++ newline)) c.as_slice.ensures c.in_ok-print_echo-in-Echo.ensures.all)
