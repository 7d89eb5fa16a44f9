use Rattle.std.proofs.Common.{◌∙◌, List, ℕ, ap, length, subst, take}
use Rattle.ec_lines.specs.Kept.{IsPart, kept_more}
use Rattle.ec_lines.proofs.BlockLemmas.{front_taken}
use Rattle.ec_lines.proofs.lines.Block.take_part.Goals as goal

pub returns-clause-taken : goal.returns-clause-taken
returns-clause-taken c =
    front_taken c.args.self.now c.consume.new.self c.line_part-count.result.0 c.args.most c.args.line.now.items c.keep.new.line.items c.line_part-count.result.1 c.consume.ensures
    (λ more. c.line_part-count.ensures.whole more ∙ ap (λ (l : List ℕ). length l) c.as_slice-ahead.ensures)
    (subst (λ (l : List ℕ). IsPart c.line_part-count.result.1 (take c.line_part-count.result.0 l)) c.as_slice-ahead.ensures c.line_part-count.ensures.is_part)
    (c.in_ok-keep.ensures ∙ ap (λ (l : List ℕ). kept_more c.args.most c.args.line.now.items (take c.line_part-count.result.0 l)) c.as_slice-ahead.ensures)
