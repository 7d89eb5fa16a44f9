use Rattle.std.proofs.Common.{◌≤◌, ◌∙◌, List, ℕ, ap, arith, drop, length, subst, sym}
use Rattle.ec_lines.proofs.BlockLemmas.{window_behind, window_fits}
use Rattle.ec_lines.proofs.lines.Block.consume.Goals as goal

pub overflow_add-self : goal.overflow_add-self
overflow_add-self c = omega (arith, c.self.invariant.0, c.self.invariant.1, window_fits c.self.inside.room c.self.inside.start c.self.inside.end c.args.count (subst (λ (l : List ℕ). c.args.count ≤ length l) (sym c.self.view_is) c.requires))

pub invariant_of-self : goal.invariant_of-self
invariant_of-self c = (omega (arith, c.self.invariant.0, window_fits c.self.inside.room c.self.inside.start c.self.inside.end c.args.count (subst (λ (l : List ℕ). c.args.count ≤ length l) (sym c.self.view_is) c.requires)), c.self.invariant.1)

pub returns : goal.returns
returns c =
    window_behind c.self.inside.room c.self.inside.start c.self.inside.end c.args.count (subst (λ (l : List ℕ). c.args.count ≤ length l) (sym c.self.view_is) c.requires) ∙ ap (λ (l : List ℕ). drop c.args.count l) c.self.view_is
