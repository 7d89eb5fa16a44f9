use Rattle.std.proofs.Common.{◌≡◌, ℕ, List, ◌++◌, ap, take, replicate, ◌∙◌}
use Rattle.std.proofs.lemmas.List.{take-replicate}
use Rattle.ec_card.proofs.ethernet.append_zeros.Goals as goal

pub returns : goal.returns
returns c =
    let few : take c.args.count (replicate 46 0) ≡ replicate c.args.count 0 = take-replicate c.args.count 46 0 c.requires.few in
    c.append.ensures ∙ ap (λ (xs : List ℕ). c.args.frame.now.items ++ xs) few
