use Rattle.std.proofs.Common.{List, ℕ, Bor, ◌++◌, map, string_bytes, ap, ◌∙◌}
use Rattle.ec_decode.proofs.Cutting.{indented_all}
use Rattle.ec_decode.proofs.weaving.push_indented.Goals as goal

pub returns : goal.returns
returns c =
    c.loop-line.invariant
    ∙ ap (λ (t : List ℕ). string_bytes c.args.text.now ++ t) (indented_all c.args.remarks.now c.as_slice-line-items.result.now c.loop-line.line-index (ap (λ (xs : List (Bor (List ℕ))). map (λ x. x.now) xs) c.as_slice-line-items.ensures.value ∙ c.in_ok-lines.ensures) c.loop-line-test.false)
