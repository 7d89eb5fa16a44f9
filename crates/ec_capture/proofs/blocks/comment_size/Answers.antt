use Rattle.std.proofs.Common.{sym, ◌∙◌}
use Rattle.ec_capture.proofs.BlockBytes.{options-length}
use Rattle.ec_capture.proofs.blocks.comment_size.Goals as goal

pub returns-in-Some-clause-size : goal.returns-in-Some-clause-size
returns-in-Some-clause-size c = rw c.in-Some.is (c.options_size.ensures.value ∙ sym (options-length 1 c.in-Some.text.now))
