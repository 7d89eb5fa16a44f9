use Rattle.std.proofs.Common.{◌<◌, List, ◌++◌, length, append-nil, sym, ap, ◌∙◌, arith}
use Rattle.ec_device.specs.declared.slave_type.Pdo.{Pdo}
use Rattle.ec_found.proofs.EntryWords.{no_pdos}
use Rattle.ec_found.proofs.FirstWords.{pdos_end}
use Rattle.ec_found.proofs.reading.pdos_in.Goals as goal

-- no words are left
pub returns : goal.returns
returns c =
    let few = c.loop.invariant.few in
    let l : length c.loop.rest.now < 4 = omega (arith, few) in
    sym (append-nil c.loop.found)
    ∙ ap (λ (ps : List Pdo). c.loop.found ++ ps) (sym (pdos_end c.args.all c.args.manager c.loop.rest.now (no_pdos c.loop.rest.now l)))
    ∙ c.loop.invariant.same
