use Rattle.std.proofs.Common.{◌+◌, ◌∙◌, ◌∷◌, ◌++◌, ap, drop, sym}
use Rattle.std.proofs.lemmas.List.{drop_all, drop_more}
use Rattle.ec_cycle.specs.Copies.{merged_from}
use Rattle.ec_cycle.proofs.run.merged.Goals as goal

pub loop-next-preserved : goal.loop-next-preserved
loop-next-preserved g c =
    let i = c.loop-next.next-index in
    let rest = c.in-Some.rest.now in
    let next = c.next-item.result in
    let cut = drop_more rest i next c.loop-next-test.true ∙ ap (λ x. x ∷ drop (i + 1) rest) (sym c.next-item.is) in
    c.in_ok-last.ensures (drop (i + 1) rest)
    ∙ (ap (λ xs. c.loop-next.done ++ merged_from g.R.Adjoining.adjoins g.R.Adjoining.joined c.loop-next.last xs) (sym cut) ∙ c.loop-next.invariant)

pub returns : goal.returns
returns g c =
    c.in_ok-push.ensures.ok
    ∙ (ap (λ xs. c.loop-next.done ++ merged_from g.R.Adjoining.adjoins g.R.Adjoining.joined c.loop-next.last xs) (sym (drop_all c.loop-next.next-index c.in-Some.rest.now c.loop-next-test.false)) ∙ c.loop-next.invariant)
