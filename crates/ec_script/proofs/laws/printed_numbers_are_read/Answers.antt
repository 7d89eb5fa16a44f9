use Rattle.ec_script.proofs.PrintedNumbers.{printed_is_read}
use Rattle.ec_script.proofs.laws.printed_numbers_are_read.Goals as goal

-- src/laws.rt:13:1
pub returns : goal.returns
returns c = printed_is_read
