use Rattle.std.proofs.Common.{◌<◌, length, sym, ◌∙◌, arith}
use Rattle.ec_found.proofs.FirstWords.{second_none}
use Rattle.ec_found.proofs.reading.has_second.Goals as goal

-- no words are left
pub returns : goal.returns
returns c =
    let few = c.loop.invariant.few in
    let l : length c.loop.rest.now < 4 = omega (arith, few) in
    sym (second_none c.loop.is_behind c.args.usage c.loop.rest.now l) ∙ c.loop.invariant.same
