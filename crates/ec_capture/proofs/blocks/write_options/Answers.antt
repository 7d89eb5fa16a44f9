use Rattle.std.proofs.Common.{◌∙◌, ap}
use Rattle.ec_capture.specs.Blocks.{zeros}
use Rattle.ec_capture.proofs.AppendedBytes.{refused_first, writes_then}
use Rattle.ec_capture.proofs.BlockBytes.{code_spelled, half_spelled}
use Rattle.ec_capture.proofs.blocks.write_options.Goals as goal

pub returns-in_err-write_bytes : goal.returns-in_err-write_bytes
returns-in_err-write_bytes g c = refused_first _ _ _ _ _ _ (code_spelled _ c.ranges.code.fits) c.from_residual.ensures.0 c.in_err-write_bytes.ensures.part

pub returns-in_err-write_bytes-2 : goal.returns-in_err-write_bytes-2
returns-in_err-write_bytes-2 g c =
    writes_then _ _ _ _ _ _ _ (code_spelled _ c.ranges.code.fits) c.in_ok-write_bytes.ensures.all
    (refused_first _ _ _ _ _ _ (c.to_le_bytes.ensures ∙ half_spelled _) c.from_residual-in_err-write_bytes-2.ensures.0 c.in_err-write_bytes-2.ensures.part)

pub returns-in_err-write_bytes-3 : goal.returns-in_err-write_bytes-3
returns-in_err-write_bytes-3 g c =
    writes_then _ _ _ _ _ _ _ (code_spelled _ c.ranges.code.fits) c.in_ok-write_bytes.ensures.all
    (writes_then _ _ _ _ _ _ _ (c.to_le_bytes.ensures ∙ half_spelled _) c.in_ok-write_bytes-2.ensures.all
    (refused_first _ _ _ _ _ _ c.as_bytes.ensures.value c.from_residual-in_err-write_bytes-3.ensures.0 c.in_err-write_bytes-3.ensures.part))

pub returns-in_err-write_zeros : goal.returns-in_err-write_zeros
returns-in_err-write_zeros g c =
    writes_then _ _ _ _ _ _ _ (code_spelled _ c.ranges.code.fits) c.in_ok-write_bytes.ensures.all
    (writes_then _ _ _ _ _ _ _ (c.to_le_bytes.ensures ∙ half_spelled _) c.in_ok-write_bytes-2.ensures.all
    (writes_then _ _ _ _ _ _ _ c.as_bytes.ensures.value c.in_ok-write_bytes-3.ensures.all
    (refused_first _ _ _ _ _ _ (ap zeros c.padding.ensures.value) c.from_residual-in_err-write_zeros.ensures.0 c.in_err-write_zeros.ensures.part)))

pub returns : goal.returns
returns g c =
    writes_then _ _ _ _ _ _ _ (code_spelled _ c.ranges.code.fits) c.in_ok-write_bytes.ensures.all
    (writes_then _ _ _ _ _ _ _ (c.to_le_bytes.ensures ∙ half_spelled _) c.in_ok-write_bytes-2.ensures.all
    (writes_then _ _ _ _ _ _ _ c.as_bytes.ensures.value c.in_ok-write_bytes-3.ensures.all
    (writes_then _ _ _ _ _ _ _ (ap zeros c.padding.ensures.value) c.in_ok-write_zeros.ensures.all c.write_zeros-2.ensures)))
