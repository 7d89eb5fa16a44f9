use Rattle.std.proofs.Common.{List, subst}
use Rattle.ec_frame.specs.Building.{bare_payload}
use Rattle.ec_frame.specs.Datagram.{Datagram}
use Rattle.ec_frame.specs.Frame.{IsFrame}
use Rattle.ec_asking.proofs.Answering.{framed}
use Rattle.ec_asking.proofs.question.write_question.Goals as goal

pub returns : goal.returns
returns c =
    subst (λ (ds : List Datagram). IsFrame c.write_pair.new.frame.items (bare_payload ds))
    (framed c.args.question c.args.count c.index_of-index.result c.address.result c.bytes-name.result c.content.result.now c.command.result c.index_of-index.ensures c.bytes-name.ensures c.command.ensures c.address.ensures c.content.ensures)
    c.write_pair.ensures
