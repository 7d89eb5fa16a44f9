use Rattle.std.proofs.Common.{◌∙◌, ◌-◌, length, slice_get, ap}
use Rattle.ec_script.proofs.Stacks.{last_first}
use Rattle.ec_script.proofs.draft.Draft.open_line.Goals as goal

pub returns : goal.returns
returns c =
    c.copied.ensures
    ∙ (c.last.ensures.value
    ∙ (ap (λ xs. slice_get xs (length xs - 1)) c.as_slice.ensures.value ∙ (last_first c.self.inside.around.items ∙ ap (λ d. slice_get d.around 0) c.self.view_is)))
