use Rattle.std.proofs.Common.{◌<◌, length, sym, ◌∙◌, arith}
use Rattle.ec_found.proofs.EntryWords.{no_pdos}
use Rattle.ec_found.proofs.FirstWords.{stray_end}
use Rattle.ec_found.proofs.reading.has_stray.Goals as goal

-- no words are left
pub returns : goal.returns
returns c =
    let few = c.loop.invariant.few in
    let l : length c.loop.rest.now < 4 = omega (arith, few) in
    sym (stray_end c.args.manager c.loop.rest.now (no_pdos c.loop.rest.now l)) ∙ c.loop.invariant.same
