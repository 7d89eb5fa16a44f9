use Rattle.std.proofs.Common.{◌∙◌, ap, Some, List}
use Rattle.ec_device.specs.declared.slave_type.Pdo.{Pdo}
use Rattle.ec_device.specs.Types.{first_output_index, first_input_index}
use Rattle.ec_device.specs.Objects.{pdo_at}
use Rattle.ec_coe.specs.Objects.{Dictionary}
use Rattle.ec_coe.proofs.Finding.{few-found, found-first, found-second}
use Rattle.ec_coe.proofs.dictionary.Dictionary.pdo.Goals as goal

pub returns-in-Some-clause-value : goal.returns-in-Some-clause-value
returns-in-Some-clause-value c =
    found-first _ c.args.self.now.kind.inputs c.args.index c.in-Some.pdo.now (c.in-Some.ensures ∙ ap (λ (ps : List Pdo). pdo_at ps c.args.index) (c.outputs.ensures.value ∙ ap (λ (d : Dictionary). d.kind.outputs) c.self.view_is))

pub returns-in-Some-clause-few : goal.returns-in-Some-clause-few
returns-in-Some-clause-few c = few-found first_output_index c.outputs.result.now c.args.index (Some c.in-Some.pdo) c.outputs.ensures.limits c.in-Some.ensures

pub returns-in-None-clause-value : goal.returns-in-None-clause-value
returns-in-None-clause-value c =
    found-second c.args.self.now.kind.outputs c.args.self.now.kind.inputs c.args.index _
    (c.in-None.ensures ∙ ap (λ (ps : List Pdo). pdo_at ps c.args.index) (c.outputs.ensures.value ∙ ap (λ (d : Dictionary). d.kind.outputs) c.self.view_is))
    (c.find_pdo-in-None.ensures ∙ ap (λ (ps : List Pdo). pdo_at ps c.args.index) (c.inputs.ensures.value ∙ ap (λ (d : Dictionary). d.kind.inputs) c.self.view_is))

pub returns-in-None-clause-few : goal.returns-in-None-clause-few
returns-in-None-clause-few c = few-found first_input_index c.inputs.result.now c.args.index _ c.inputs.ensures.limits c.find_pdo-in-None.ensures
