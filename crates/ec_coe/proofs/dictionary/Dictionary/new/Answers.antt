use Rattle.std.proofs.Common.{◌∙◌, ap}
use Rattle.ec_coe.specs.Objects.{Dictionary, all_assigned}
use Rattle.ec_coe.proofs.Resetting.{fresh}
use Rattle.ec_coe.proofs.dictionary.Dictionary.new.Goals as goal

pub returns : goal.returns
returns c =
    let d : Dictionary = record {
      kind = c.args.kind;
      identity = c.args.identity;
      outs = c.in_ok-outs.outs;
      ins = c.in_ok-ins.ins;
      values = c.in_ok-values.values.items;
    } in
    c.reset_values.ensures
    ∙ fresh d (c.in_ok-outs.ensures ∙ ap all_assigned c.outputs.ensures.value) (c.in_ok-ins.ensures ∙ ap all_assigned c.inputs.ensures.value)
