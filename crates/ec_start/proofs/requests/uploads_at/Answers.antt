use Rattle.std.proofs.Common.{arith}
use Rattle.ec_device.specs.Objects.{pdo_at}
use Rattle.ec_start.specs.Scripts.{pdo_read}
use Rattle.ec_start.proofs.RequestRuns.{seek_here, seek_more}
use Rattle.ec_start.proofs.requests.uploads_at.Goals as goal

pub returns-in-Found : goal.returns-in-Found
returns-in-Found c =
    seek_here (λ index. pdo_read (pdo_at c.args.pdos.now index)) c.args.indices.now c.loop-index.index-index c.loop-index.left c.in-Found.request _
    (omega (arith, c.loop-index-test.true, c.loop-index.auto.index-index-end)) c.in-Found.ensures c.loop-index.invariant

pub loop-index-preserved : goal.loop-index-preserved
loop-index-preserved c =
    seek_more (λ index. pdo_read (pdo_at c.args.pdos.now index)) c.args.indices.now c.loop-index.index-index c.loop-index.left c.in-Past.past _
    (omega (arith, c.loop-index-test.true, c.loop-index.auto.index-index-end)) c.in-Past.ensures c.loop-index.invariant
