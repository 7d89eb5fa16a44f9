use Rattle.std.proofs.Common.{◌++◌, ◌∙◌, List, ℕ, ap, take}
use Rattle.std.proofs.lemmas.List.{take_min}
use Rattle.ec_lines.proofs.lines.Block.take_first.Goals as goal

pub returns-clause-bytes : goal.returns-clause-bytes
returns-clause-bytes c =
    let ahead = c.as_slice-ahead.result.now in
    c.in_ok-extend_from_slice.ensures.items
    ∙ ap (λ (l : List ℕ). c.args.bytes.now.items ++ l) (ap (λ (k : ℕ). take k ahead) c.min-count.ensures ∙ take_min c.args.most ahead ∙ ap (λ (l : List ℕ). take c.args.most l) c.as_slice-ahead.ensures)
