use Rattle.std.proofs.Common.{◌∙◌, ap, arith, length, List, ℕ}
use Rattle.ec_coe.proofs.ReadBack.{length-message}
use Rattle.ec_coe.proofs.Names.{length-with}
use Rattle.ec_coe.proofs.dictionary.Dictionary.reply_bytes.Goals as goal

pub returns-in-Some-clause-fits : goal.returns-in-Some-clause-fits
returns-in-Some-clause-fits c = λ l.
    let fits = c.in-Some.ensures.fits in
    let same = ap (λ (xs : List ℕ). length xs) c.message_with.ensures ∙ length-with c.args.reply.now c.in-Some.letters.now in
    omega (arith, fits, same)

pub returns-in-None-clause-fits : goal.returns-in-None-clause-fits
returns-in-None-clause-fits c = λ l.
    let same = ap (λ (xs : List ℕ). length xs) (c.gathered.ensures ∙ c.bytes.ensures) ∙ length-message c.args.reply.now in
    omega (arith, same)
