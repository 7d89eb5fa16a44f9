use Rattle.std.proofs.Common.{rules, ◌+◌, ◌≡◌, ◌&&◌, true, is_none, sym, ◌∙◌, ap, arith}
use Rattle.std.proofs.lemmas.Bool.{and_from}
use Rattle.ec_bits.proofs.AnyLaws.{any_below_from}
use Rattle.ec_exchange.specs.Access.{is_ungoverned}
use Rattle.ec_exchange.proofs.reach.has_own.Goals as goal

pub returns-then-is_none : goal.returns-then-is_none
returns-then-is_none g c =
    let touched = g.T.Touching.touched c.args.access.now in
    let own = is_ungoverned c.args.lower.now in
    let here : c.args.start + 0 ≡ c.args.start = omega arith in
    let free : own c.args.start ≡ true = ap is_none (sym c.governor.ensures.value) ∙ search rules in
    sym (any_below_from c.args.len (λ k. touched (c.args.start + k) && own (c.args.start + k)) 0 (omega arith)
    (and_from _ _ (ap touched here ∙ c.requires.first) (ap own here ∙ free)))
