use Rattle.std.proofs.Common.{◌∙◌, arith}
use Rattle.ec_decode.proofs.Walking.{left_step, next_in, room, spelled, within}
use Rattle.ec_decode.proofs.datagram.write_datagrams.Goals as goal

pub length_at-requires : goal.length_at-requires
length_at-requires c =
    let ds = c.requires.0 in
    let left = c.loop-number.invariant ds c.requires.1 c.requires.2 in
    let long = room c.loop-number.rest.now (next_in ds _ c.loop-number.number _ _ left (omega arith)) in
    omega arith

pub split_at-requires : goal.split_at-requires
split_at-requires c =
    let ds = c.requires.0 in
    let left = c.loop-number.invariant ds c.requires.1 c.requires.2 in
    within c.loop-number.rest.now c.length_at.result (next_in ds _ c.loop-number.number _ _ left (omega arith)) c.length_at.ensures

pub write_datagram-requires : goal.write_datagram-requires
write_datagram-requires c =
    let ds = c.requires.0 in
    let left = c.loop-number.invariant ds c.requires.1 c.requires.2 in
    let spells = spelled c.loop-number.rest.now c.length_at.result (next_in ds _ c.loop-number.number _ _ left (omega arith)) c.length_at.ensures in
    (spells.0, spells.1, spells.2, c.split_at.ensures.front ∙ spells.3)

pub loop-number-preserved : goal.loop-number-preserved
loop-number-preserved c = λ ds begins counted.
    left_step ds c.loop-number.rest.now c.split_at.result.0.now c.split_at.result.1.now c.loop-number.number c.length_at.result _ _ _
    (c.loop-number.invariant ds begins counted) (omega arith) c.length_at.ensures c.split_at.ensures.front c.split_at.ensures.back c.in_ok-write_datagram.ensures
