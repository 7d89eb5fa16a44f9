use Rattle.std.proofs.Common.{rules, arith}
use Rattle.std.proofs.lemmas.Bool.{false≢true}
use Rattle.ec_card.proofs.PayloadsComeThrough.{not_handed_on, handed_on}
use Rattle.ec_card.proofs.ethernet.payload_of.Goals as goal

pub returns-else-is_handed_on-clause-none : goal.returns-else-is_handed_on-clause-none
returns-else-is_handed_on-clause-none c =
    not_handed_on c.args.own c.args.frame.now c.in_ok-heading.heading.now (search rules) (λ handed. false≢true ((c.if-is_handed_on.ensures {u = tt}).1 handed))

pub returns-then-is_handed_on-clause-some : goal.returns-then-is_handed_on-clause-some
returns-then-is_handed_on-clause-some c = grind (arith, handed_on, not_handed_on)

pub returns-then-is_handed_on-clause-none : goal.returns-then-is_handed_on-clause-none
returns-then-is_handed_on-clause-none c = search rules
