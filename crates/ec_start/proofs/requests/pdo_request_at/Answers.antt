use Rattle.ec_start.specs.declared.requests.Seek.TheVariants.{Found, Past}
use Rattle.ec_start.proofs.RequestRuns.{first_request, second_request}
use Rattle.ec_start.proofs.requests.pdo_request_at.Goals as goal

pub returns-in-Found : goal.returns-in-Found
returns-in-Found c = first_request c.args.settings.now c.args.place c.in-Found.request c.in-Found.ensures

pub returns-in-Found-assignment_in : goal.returns-in-Found-assignment_in
returns-in-Found-assignment_in c = second_request c.args.settings.now c.args.place c.in-Past.past (Found c.in-Found-assignment_in.request) c.in-Past.ensures c.in-Found-assignment_in.ensures

pub returns-in-Past-assignment_in : goal.returns-in-Past-assignment_in
returns-in-Past-assignment_in c = second_request c.args.settings.now c.args.place c.in-Past.past (Past _) c.in-Past.ensures c.in-Past-assignment_in.ensures
