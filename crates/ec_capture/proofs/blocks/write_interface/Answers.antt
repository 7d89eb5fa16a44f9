use Rattle.std.proofs.Common.{◌+◌, ◌≡◌, refl, arith}
use Rattle.ec_capture.specs.Blocks.{block_size}
use Rattle.ec_capture.specs.Captures.{interface_block}
use Rattle.ec_capture.proofs.AppendedBytes.{refused_first, writes_same, writes_then}
use Rattle.ec_capture.proofs.BlockBytes.{interface-length, interface_spelled}
use Rattle.ec_capture.proofs.blocks.write_interface.Goals as goal

pub returns-in_err-write_numbers : goal.returns-in_err-write_numbers
returns-in_err-write_numbers g c =
    let name = c.args.name.now in let size = 20 + c.options_size-size.result in
    let is : size ≡ block_size (interface_block name).body = omega (arith, interface-length name) in
    writes_same _ _ _ _ _ (interface_spelled name size is) (refused_first _ _ _ _ _ _ refl c.from_residual.ensures.0 c.in_err-write_numbers.ensures.part)

pub returns-in_err-write_options : goal.returns-in_err-write_options
returns-in_err-write_options g c =
    let name = c.args.name.now in let size = 20 + c.options_size-size.result in
    let is : size ≡ block_size (interface_block name).body = omega (arith, interface-length name) in
    writes_same _ _ _ _ _ (interface_spelled name size is)
    (writes_then _ _ _ _ _ _ _ refl c.in_ok-write_numbers.ensures.all
    (refused_first _ _ _ _ _ _ refl c.from_residual-in_err-write_options.ensures.0 c.in_err-write_options.ensures.part))

pub returns : goal.returns
returns g c =
    let name = c.args.name.now in let size = 20 + c.options_size-size.result in
    let is : size ≡ block_size (interface_block name).body = omega (arith, interface-length name) in
    writes_same _ _ _ _ _ (interface_spelled name size is)
    (writes_then _ _ _ _ _ _ _ refl c.in_ok-write_numbers.ensures.all (writes_then _ _ _ _ _ _ _ refl c.in_ok-write_options.ensures.all c.write_numbers-2.ensures))
