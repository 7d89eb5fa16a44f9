use Rattle.ec_start.proofs.RequestRuns.{first_assigned, second_assigned}
use Rattle.ec_start.proofs.requests.assignment_in.Goals as goal

pub returns-in-Found : goal.returns-in-Found
returns-in-Found c =
    first_assigned c.args.settings.now c.is_fixed-fixed.result c.outputs.result.now c.as_slice-outputs.result.now c.args.place c.in-Found.request c.is_fixed-fixed.ensures c.outputs.ensures.value c.as_slice-outputs.ensures
    (rw c.is_empty-has_outputs.ensures at c.in-Found.ensures)

pub returns-in-Past : goal.returns-in-Past
returns-in-Past c =
    second_assigned c.args.settings.now c.is_fixed-fixed.result c.outputs.result.now c.inputs.result.now c.as_slice-outputs.result.now c.as_slice-inputs.result.now c.args.place c.in-Past.past _
    c.is_fixed-fixed.ensures c.outputs.ensures.value c.as_slice-outputs.ensures c.inputs.ensures.value c.as_slice-inputs.ensures
    (rw c.is_empty-has_outputs.ensures at c.in-Past.ensures) (rw c.is_empty-has_inputs.ensures at c.assigned_at-in-Past.ensures)
