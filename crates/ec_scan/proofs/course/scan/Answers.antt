use Rattle.std.proofs.Common.{length}
use Rattle.ec_scan.proofs.KeptLemmas.{if_still_counted}
use Rattle.ec_scan.proofs.course.scan.Goals as goal

pub returns-clause-counted : goal.returns-clause-counted
returns-clause-counted g c =
    if_still_counted _ _ c.scan_all-found.result (λ found. length found.items) c.scan_all-found.ensures.counted
    c.dismiss.ensures.forward c.dismiss.ensures.one c.dismiss.ensures.kept
