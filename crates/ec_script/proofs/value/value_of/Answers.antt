use Rattle.std.proofs.Common.{refl}
use Rattle.ec_script.specs.Words.{value_of}
use Rattle.ec_script.proofs.Values.{negative_word, plain_word}
use Rattle.ec_script.proofs.value.value_of.Goals as goal

pub returns-in_err-number_of-in-Some : goal.returns-in_err-number_of-in-Some
unfolding value_of
returns-in_err-number_of-in-Some c =
    let w = negative_word c.args.word.now c.strip_prefix.result c.in-Some.digits c.strip_prefix.ensures.cases c.in-Some.is in
    rw (w.0, ← w.1, ← c.number_of.ensures, c.in_err-number_of-in-Some.was) c.from_residual.ensures

pub returns-in_ok-number_of-in-Some : goal.returns-in_ok-number_of-in-Some
unfolding value_of
returns-in_ok-number_of-in-Some c =
    let w = negative_word c.args.word.now c.strip_prefix.result c.in-Some.digits c.strip_prefix.ensures.cases c.in-Some.is in
    rw (w.0, ← w.1, ← c.number_of.ensures, c.in_ok-number_of-in-Some.was, c.negative_of.ensures) refl

pub returns-in-None : goal.returns-in-None
unfolding value_of
returns-in-None c = rw (plain_word c.args.word.now c.strip_prefix.result c.strip_prefix.ensures.cases c.in-None.is) c.plain_of.ensures
