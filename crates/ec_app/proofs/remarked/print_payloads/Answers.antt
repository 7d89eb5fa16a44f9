use Rattle.std.proofs.Common.{Bor, List, ℕ, Option, sym, subst}
use Rattle.std.specs.Prelude.{option_map}
use Rattle.ec_annotate.specs.declared.names.Names.{Names}
use Rattle.ec_annotate.specs.declared.names.Names.TheVariants.{Omitted}
use Rattle.ec_console.specs.Given.{given_by}
use Rattle.ec_app.specs.Remarking.{RunsDecodeWith}
use Rattle.ec_app.proofs.remarked.print_payloads.Goals as goal

pub returns-in-None-Omitted-clause-runs : goal.returns-in-None-Omitted-clause-runs
returns-in-None-Omitted-clause-runs g c =
    let given = given_by g.R.Read.remaining c.args.input.now c.print_decode.new.input in
    let done = c.print_decode in
    subst (λ (names : Names). RunsDecodeWith (option_map (λ x. x.now) c.args.table) names given c.args.output.now done.new.output done.result) (sym c.in-None-Omitted.is-1)
    (subst (λ (table : Option (Bor (List ℕ))). RunsDecodeWith (option_map (λ x. x.now) table) Omitted given c.args.output.now done.new.output done.result) (sym c.in-None-Omitted.is-0) done.ensures)
