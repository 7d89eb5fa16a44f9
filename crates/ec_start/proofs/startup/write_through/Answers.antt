use Rattle.std.proofs.Common.{List, length, ap, subst, arith}
use Rattle.ec_frame.specs.Building.{bare_payload}
use Rattle.ec_frame.specs.Datagram.{Datagram}
use Rattle.ec_frame.specs.Frame.{IsFrame}
use Rattle.ec_start.proofs.ActionFrames.{framed}
use Rattle.ec_start.proofs.startup.write_through.Goals as goal

pub write_pair-requires : goal.write_pair-requires
write_pair-requires c =
    let few = c.data_length.ensures.few in
    let long = c.data_length.ensures.value in
    omega (arith, few, long, ap length c.write_data.ensures, ap length c.bytes-name.ensures)

pub returns : goal.returns
returns c =
    subst (λ (ds : List Datagram). IsFrame c.write_pair.new.frame.items (bare_payload ds))
    (framed c.args.action.now c.args.number c.index_of-index.result c.bytes-name.result c.write_data.new.bytes c.command.result c.address.result c.index_of-index.ensures c.bytes-name.ensures c.command.ensures c.address.ensures c.write_data.ensures)
    c.write_pair.ensures
