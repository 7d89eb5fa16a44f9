use Rattle.std.proofs.Common.{subst}
use Rattle.ec_start.specs.Doable.{IsDoable}
use Rattle.ec_start.proofs.Datagrams.{filled_length}
use Rattle.ec_start.proofs.action.Action.data_length.Goals as goal

pub returns-in-SendRequest-clause-value : goal.returns-in-SendRequest-clause-value
returns-in-SendRequest-clause-value c = rw c.in-SendRequest.is (filled_length c.in-SendRequest.mailbox.receive_size c.in-SendRequest.before c.in-SendRequest.request (subst IsDoable c.in-SendRequest.is c.requires).1.receive_some)
