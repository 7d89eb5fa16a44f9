use Rattle.std.proofs.Common.{◌+◌, ◌≡◌, refl, arith, length}
use Rattle.ec_capture.specs.Blocks.{block_size}
use Rattle.ec_capture.specs.Captures.{packet_block, captured_as}
use Rattle.ec_capture.proofs.AppendedBytes.{refused_first, writes_same, writes_then}
use Rattle.ec_capture.proofs.BlockBytes.{packet-length, packet_spelled}
use Rattle.ec_capture.proofs.blocks.write_packet.Goals as goal

pub returns-in_err-write_numbers : goal.returns-in_err-write_numbers
returns-in_err-write_numbers g c =
    let s = captured_as c.args.packet.now in let size = 32 + (14 + length s.payload + c.padding.result) + c.comment_size.result in
    let is : size ≡ block_size (packet_block s).body = omega (arith, packet-length s) in
    writes_same _ _ _ _ _ (packet_spelled s size is)
    (refused_first _ _ _ _ _ _ refl c.from_residual.ensures.0 c.in_err-write_numbers.ensures.part)

pub returns-in_err-write_frame : goal.returns-in_err-write_frame
returns-in_err-write_frame g c =
    let s = captured_as c.args.packet.now in let size = 32 + (14 + length s.payload + c.padding.result) + c.comment_size.result in
    let is : size ≡ block_size (packet_block s).body = omega (arith, packet-length s) in
    writes_same _ _ _ _ _ (packet_spelled s size is)
    (writes_then _ _ _ _ _ _ _ refl c.in_ok-write_numbers.ensures.all
    (refused_first _ _ _ _ _ _ refl c.from_residual-in_err-write_frame.ensures.0 c.in_err-write_frame.ensures.part))

pub returns-in_err-write_comment : goal.returns-in_err-write_comment
returns-in_err-write_comment g c =
    let s = captured_as c.args.packet.now in let size = 32 + (14 + length s.payload + c.padding.result) + c.comment_size.result in
    let is : size ≡ block_size (packet_block s).body = omega (arith, packet-length s) in
    writes_same _ _ _ _ _ (packet_spelled s size is)
    (writes_then _ _ _ _ _ _ _ refl c.in_ok-write_numbers.ensures.all (writes_then _ _ _ _ _ _ _ refl c.in_ok-write_frame.ensures.all
    (refused_first _ _ _ _ _ _ refl c.from_residual-in_err-write_comment.ensures.0 c.in_err-write_comment.ensures.part)))

pub returns : goal.returns
returns g c =
    let s = captured_as c.args.packet.now in let size = 32 + (14 + length s.payload + c.padding.result) + c.comment_size.result in
    let is : size ≡ block_size (packet_block s).body = omega (arith, packet-length s) in
    writes_same _ _ _ _ _ (packet_spelled s size is)
    (writes_then _ _ _ _ _ _ _ refl c.in_ok-write_numbers.ensures.all (writes_then _ _ _ _ _ _ _ refl c.in_ok-write_frame.ensures.all
    (writes_then _ _ _ _ _ _ _ refl c.in_ok-write_comment.ensures.all c.write_numbers-2.ensures)))
