use Rattle.std.proofs.Common.{refl, ap}
use Rattle.ec_capture.specs.Blocks.{zeros}
use Rattle.ec_capture.proofs.AppendedBytes.{refused_first, writes_same, writes_then}
use Rattle.ec_capture.proofs.blocks.write_frame.Goals as goal

pub returns-in_err-write_bytes : goal.returns-in_err-write_bytes
returns-in_err-write_bytes g c = refused_first _ _ _ _ _ _ c.ethernet_head.ensures c.from_residual.ensures.0 c.in_err-write_bytes.ensures.part

pub returns-in_err-write_bytes-2 : goal.returns-in_err-write_bytes-2
returns-in_err-write_bytes-2 g c =
    writes_then _ _ _ _ _ _ _ c.ethernet_head.ensures c.in_ok-write_bytes.ensures.all
    (refused_first _ _ _ _ _ _ refl c.from_residual-in_err-write_bytes-2.ensures.0 c.in_err-write_bytes-2.ensures.part)

pub returns : goal.returns
returns g c =
    writes_then _ _ _ _ _ _ _ c.ethernet_head.ensures c.in_ok-write_bytes.ensures.all
    (writes_then _ _ _ _ _ _ _ refl c.in_ok-write_bytes-2.ensures.all
    (writes_same _ _ _ _ _ (ap zeros c.padding.ensures.value) c.write_zeros.ensures))
