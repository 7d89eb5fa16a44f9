use Rattle.std.proofs.Common.{◌∙◌, ap}
use Rattle.ec_coe.specs.Objects.{Dictionary, all_assigned}
use Rattle.ec_coe.specs.SwitchedOn.{new_dictionary}
use Rattle.ec_coe.proofs.Resetting.{fresh}
use Rattle.ec_coe.proofs.dictionary.Dictionary.reset.Goals as goal

pub returns : goal.returns
returns c =
    let d : Dictionary = record {
      kind = c.self.inside.kind;
      identity = c.self.inside.identity;
      outs = c.reset.new.self;
      ins = c.reset-2.new.self;
      values = c.self.inside.values.items;
    } in
    c.reset_values.ensures
    ∙ (fresh d (c.reset.ensures ∙ ap all_assigned c.outputs.ensures.value) (c.reset-2.ensures ∙ ap all_assigned c.inputs.ensures.value)
    ∙ ap (λ (x : Dictionary). new_dictionary x.kind x.identity) c.self.view_is)
