use Rattle.std.proofs.Common.{arith, length, List, ap, subst}
use Rattle.ec_frame.specs.Building.{bare_payload}
use Rattle.ec_frame.specs.Datagram.{Datagram}
use Rattle.ec_frame.specs.Frame.{IsFrame}
use Rattle.ec_frame.proofs.BuilderCalls.{added_built, added_view, pair_built}
use Rattle.ec_frame.proofs.builder.write_pair.Goals as goal

pub close-requires : goal.close-requires
close-requires c =
    let one = c.append_datagram.ensures.fits in
    let two = c.append_datagram-2.ensures.fits in
    let built = pair_built c.append.new.frame.items c.append_datagram.new.frame.items c.append_datagram-2.new.frame.items c.len-last.result c.args.first.command c.args.second.command
    c.args.first.index c.args.second.index c.args.first.address c.args.second.address c.args.first.content.now c.args.second.content.now
    one.0 one.1 one.2 two.0 two.1 two.2 c.requires (cc (c.append.ensures, c.clear.ensures)) c.append_datagram.ensures.bytes c.len-last.ensures.value c.append_datagram-2.ensures.bytes in
    let e = added_view _ _ _ built in
    record { built = added_built _ _ _ built; some = omega (arith, ap length e) }

pub returns : goal.returns
returns c =
    let one = c.append_datagram.ensures.fits in
    let two = c.append_datagram-2.ensures.fits in
    let built = pair_built c.append.new.frame.items c.append_datagram.new.frame.items c.append_datagram-2.new.frame.items c.len-last.result c.args.first.command c.args.second.command
    c.args.first.index c.args.second.index c.args.first.address c.args.second.address c.args.first.content.now c.args.second.content.now
    one.0 one.1 one.2 two.0 two.1 two.2 c.requires (cc (c.append.ensures, c.clear.ensures)) c.append_datagram.ensures.bytes c.len-last.ensures.value c.append_datagram-2.ensures.bytes in
    subst (λ (ds : List Datagram). IsFrame c.close.new.frame.items (bare_payload ds)) (added_view _ _ _ built) c.close.ensures
