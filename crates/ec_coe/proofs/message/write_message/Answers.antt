use Rattle.std.proofs.Common.{rules}
use Rattle.ec_coe.proofs.message.write_message.Goals as goal

pub returns : goal.returns
returns c = search rules

pub returns-in_err-test_room : goal.returns-in_err-test_room
returns-in_err-test_room c = search rules
