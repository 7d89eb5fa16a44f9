use Rattle.ec_device.specs.Types.{first_output_index, first_input_index}
use Rattle.ec_device.proofs.Limits.{few_bits}
use Rattle.ec_start.proofs.RequestRuns.{first_upload, second_upload}
use Rattle.ec_start.proofs.requests.mapping_in.Goals as goal

pub uploads_at-requires : goal.uploads_at-requires
uploads_at-requires c = few_bits first_output_index c.outputs.result.now c.outputs.ensures.limits

pub uploads_at-requires-in-Past : goal.uploads_at-requires-in-Past
uploads_at-requires-in-Past c = few_bits first_input_index c.inputs.result.now c.inputs.ensures.limits

pub returns-in-Found : goal.returns-in-Found
returns-in-Found c =
    first_upload c.args.settings.now c.outputs.result.now c.as_slice.result.now c.args.place c.in-Found.request c.outputs.ensures.value c.as_slice.ensures c.in-Found.ensures

pub returns-in-Past : goal.returns-in-Past
returns-in-Past c =
    second_upload c.args.settings.now c.outputs.result.now c.inputs.result.now c.as_slice.result.now c.as_slice-in-Past.result.now c.args.place c.in-Past.past _
    c.outputs.ensures.value c.as_slice.ensures c.inputs.ensures.value c.as_slice-in-Past.ensures c.in-Past.ensures c.uploads_at-in-Past.ensures
