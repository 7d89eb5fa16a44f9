use Rattle.std.proofs.Common.{refl}
use Rattle.ec_script.specs.Words.{plain_of}
use Rattle.ec_script.proofs.Values.{plain_hex, plain_number}
use Rattle.ec_script.proofs.value.plain_of.Goals as goal

pub returns-in_err-hex_of-in-Some : goal.returns-in_err-hex_of-in-Some
unfolding plain_of
returns-in_err-hex_of-in-Some c =
    let w = plain_hex c.args.word.now c.strip_prefix.result c.in-Some.digits c.strip_prefix.ensures.cases c.in-Some.is in
    rw (w.0, ← w.1, ← c.hex_of.ensures, c.in_err-hex_of-in-Some.was) c.from_residual.ensures

pub returns-in_ok-hex_of-in-Some : goal.returns-in_ok-hex_of-in-Some
unfolding plain_of
returns-in_ok-hex_of-in-Some c =
    let w = plain_hex c.args.word.now c.strip_prefix.result c.in-Some.digits c.strip_prefix.ensures.cases c.in-Some.is in
    rw (w.0, ← w.1, ← c.hex_of.ensures, c.in_ok-hex_of-in-Some.was) refl

pub returns-in_err-number_of-in-None : goal.returns-in_err-number_of-in-None
unfolding plain_of
returns-in_err-number_of-in-None c =
    let w = plain_number c.args.word.now c.strip_prefix.result c.strip_prefix.ensures.cases c.in-None.is in
    rw (w, ← c.number_of.ensures, c.in_err-number_of-in-None.was) c.from_residual-in_err-number_of-in-None.ensures

pub returns-in_ok-number_of-in-None : goal.returns-in_ok-number_of-in-None
unfolding plain_of
returns-in_ok-number_of-in-None c =
    let w = plain_number c.args.word.now c.strip_prefix.result c.strip_prefix.ensures.cases c.in-None.is in
    rw (w, ← c.number_of.ensures, c.in_ok-number_of-in-None.was, c.positive_of.ensures) refl
