use Rattle.std.proofs.Common.{refl}
use Rattle.ec_capture.proofs.AppendedBytes.{kept_part}
use Rattle.ec_capture.proofs.recorder.write_through.Goals as goal

pub returns-then-write_fitting-clause-part : goal.returns-then-write_fitting-clause-part
returns-then-write_fitting-clause-part g c =
    λ refused. kept_part c.args.file.now.holds c.write_fitting.new.file.holds c.flush.new.self.holds _ (c.if-write_fitting.ensures.all refl) c.flush.ensures.bytes
