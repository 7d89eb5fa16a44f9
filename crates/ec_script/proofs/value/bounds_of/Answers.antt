use Rattle.ec_script.proofs.Ranges.{no_dot, one_dot, two_dots}
use Rattle.ec_script.proofs.value.bounds_of.Goals as goal

pub returns-in-Some-strip_prefix : goal.returns-in-Some-strip_prefix
returns-in-Some-strip_prefix c =
    two_dots c.args.word.now c.split_once.result (c.in-Some.low, c.in-Some.rest) c.split_once.ensures.cases c.in-Some.is
    c.strip_prefix.result c.in-Some-strip_prefix.high c.strip_prefix.ensures.cases c.in-Some-strip_prefix.is

pub returns-in-None-strip_prefix : goal.returns-in-None-strip_prefix
returns-in-None-strip_prefix c =
    one_dot c.args.word.now c.split_once.result (c.in-Some.low, c.in-Some.rest) c.split_once.ensures.cases c.in-Some.is
    c.strip_prefix.result c.strip_prefix.ensures.cases c.in-None-strip_prefix.is

pub returns-in-None : goal.returns-in-None
returns-in-None c = no_dot c.args.word.now c.split_once.result c.split_once.ensures.cases c.in-None.is
