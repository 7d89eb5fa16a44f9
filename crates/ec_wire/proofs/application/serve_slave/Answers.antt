use Rattle.std.proofs.Common.{◌∙◌, arith, sym}
use Rattle.std.proofs.lemmas.List.{length-take-le}
use Rattle.ec_slave.proofs.AppAccess.ApplicationsGoWhole.{few_inputs}
use Rattle.ec_wire.proofs.application.serve_slave.Goals as goal

-- there is room for all bytes
pub slice_bounds-step_application-end-2 : goal.slice_bounds-step_application-end-2
slice_bounds-step_application-end-2 g c =
    let few = few_inputs c.serve.new.self in
    let size = c.app_sizes-output_count.ensures.put in
    let room = c.requires in
    sym (length-take-le c.app_sizes-output_count.result.1 c.args.inputs.now (omega (arith, few, size, room)))

pub step_application-requires-clause-inputs : goal.step_application-requires-clause-inputs
step_application-requires-clause-inputs g c =
    let few = few_inputs c.serve.new.self in
    let size = c.app_sizes-output_count.ensures.put in
    let room = c.requires in
    length-take-le c.app_sizes-output_count.result.1 c.args.inputs.now (omega (arith, few, size, room)) ∙ size
