use Rattle.std.proofs.Common.{◌≤◌, length, arith}
use Rattle.ec_found.proofs.FirstWords.{pdo_first}
use Rattle.ec_found.proofs.reading.PdoWords.first.Goals as goal

pub returns-clause-some : goal.returns-clause-some
returns-clause-some c =
    let l : 4 ≤ length c.args.words.now = omega arith in
    let e = pdo_first c.args.words.now l in
    cc
