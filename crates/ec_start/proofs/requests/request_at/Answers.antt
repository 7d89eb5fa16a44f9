use Rattle.std.proofs.Common.{List, ap, ◌∙◌}
use Rattle.ec_device.specs.declared.parameter.Parameter.{Parameter}
use Rattle.ec_start.specs.Scripts.{parameters_written}
use Rattle.ec_start.specs.Seeking.{seek}
use Rattle.ec_start.proofs.RequestRuns.{parameter_request, behind_parameters}
use Rattle.ec_start.proofs.requests.request_at.Goals as goal

pub returns-in-Found : goal.returns-in-Found
returns-in-Found c =
    parameter_request c.args.settings.now c.args.place c.in-Found.request (c.in-Found.ensures ∙ ap (λ (qs : List Parameter). seek (parameters_written qs) c.args.place) c.init.ensures.value)

pub returns-in-Past : goal.returns-in-Past
returns-in-Past c =
    behind_parameters c.args.settings.now c.args.place c.in-Past.past _ (c.in-Past.ensures ∙ ap (λ (qs : List Parameter). seek (parameters_written qs) c.args.place) c.init.ensures.value) c.pdo_request_at.ensures
