use Rattle.std.proofs.Common.{length, ◌∙◌, ap, arith}
use Rattle.ec_sync.specs.Buffer.{Buffer}
use Rattle.ec_sync.proofs.Lengths.{front-length}
use Rattle.ec_sync.proofs.buffer.Buffer.is_sound.Goals as goal

pub returns-clause-draft : goal.returns-clause-draft
returns-clause-draft c = λ d e.
    let i = c.self.invariant in
    front-length c.self.inside.len c.self.inside.is_drafting c.self.inside.draft.items c.self.inside.published.items d (omega (arith, i)) (omega (arith, i))
    (ap (λ (b : Buffer). b.draft) c.self.view_is ∙ e) ∙ ap (λ (b : Buffer). length b.published) c.self.view_is

pub returns-clause-view : goal.returns-clause-view
returns-clause-view c = λ v e.
    let i = c.self.invariant in
    front-length c.self.inside.len c.self.inside.is_viewing c.self.inside.open_view.items c.self.inside.published.items v (omega (arith, i)) (omega (arith, i))
    (ap (λ (b : Buffer). b.view) c.self.view_is ∙ e) ∙ ap (λ (b : Buffer). length b.published) c.self.view_is
