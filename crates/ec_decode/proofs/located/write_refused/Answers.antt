use Rattle.std.proofs.Common.{◌++◌, ap, ◌∙◌, append_assoc, List, ℕ}
use Rattle.std.proofs.lemmas.Result.{on_ok_weaker}
use Rattle.ec_decode.specs.Faults.{refused_line}
use Rattle.ec_decode.specs.FrameText.{datagram_lines}
use Rattle.ec_decode.proofs.Places.{placed_begins}
use Rattle.ec_decode.proofs.located.write_refused.Goals as goal

pub write_datagrams-requires : goal.write_datagrams-requires
write_datagrams-requires c =
    let p = c.requires.1 in
    (c.requires.0, rw (c.area_of.ensures) (placed_begins c.args.payload.now c.args.refused.error c.requires.0 c.args.refused.at p.placed), p.whole)

pub returns : goal.returns
returns c =
    on_ok_weaker c.write_line.result
    (λ line. λ ds r.
    let lines = c.in_ok-write_datagrams.ensures ds (rw (c.area_of.ensures) (placed_begins c.args.payload.now c.args.refused.error ds c.args.refused.at r.placed)) r.whole in
    line ∙ (ap (λ (t : List ℕ). t ++ refused_line c.args.refused) lines ∙ append_assoc _ (datagram_lines 0 ds) (refused_line c.args.refused)))
    c.write_line.ensures
