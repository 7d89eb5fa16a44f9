use Rattle.std.proofs.Common.{◌∙◌}
use Rattle.ec_script.proofs.Comments.{comment, no_comment}
use Rattle.ec_script.proofs.read.uncommented.Goals as goal

pub returns-in-Some : goal.returns-in-Some
returns-in-Some c =
    c.without_end_blanks.ensures ∙ comment c.args.line.now c.split_once.result (c.in-Some.before, c.in-Some.field-0-1) c.split_once.ensures.cases c.in-Some.is

pub returns-in-None : goal.returns-in-None
returns-in-None c = no_comment c.args.line.now c.split_once.result c.split_once.ensures.cases c.in-None.is
