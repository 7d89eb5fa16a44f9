use Rattle.std.proofs.Common.{◌≡◌, ◌∙◌, ◌==◌, ◌^◌, length, true, false, refl, arith}
use Rattle.std.proofs.lemmas.Bool.Decides.{nat_tests}
use Rattle.ec_script.specs.Words.{code_of}
use Rattle.ec_script.proofs.Numbers.{short_told}
use Rattle.ec_script.proofs.words.code_of.Goals as goal

pub returns-then-word-ne4 : goal.returns-then-word-ne4
unfolding code_of
returns-then-word-ne4 c = let no : (length c.args.word.now == 4) ≡ false = grind (arith, nat_tests) in rw no refl

pub returns-in_err-hex_of : goal.returns-in_err-hex_of
unfolding code_of
returns-in_err-hex_of c =
    let yes : (length c.args.word.now == 4) ≡ true = grind (arith, nat_tests) in
    rw (yes, ← c.hex_of.ensures, c.in_err-hex_of.was) c.from_residual.ensures

pub returns : goal.returns
unfolding code_of
returns c =
    let yes : (length c.args.word.now == 4) ≡ true = grind (arith, nat_tests) in
    rw (yes, ← c.hex_of.ensures, c.in_ok-hex_of.was) (c.ok.ensures.value ∙ short_told (2 ^ 16) _ c.try_from.result c.try_from.ensures)
