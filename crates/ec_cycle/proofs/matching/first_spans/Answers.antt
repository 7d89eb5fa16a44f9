use Rattle.std.proofs.Common.{◌<◌, ◌∙◌, length, arith}
use Rattle.std.proofs.Math.ListN.{length-set}
use Rattle.ec_cycle.proofs.CursorSteps.{stood}
use Rattle.ec_cycle.proofs.matching.first_spans.Goals as goal

pub next_place-requires : goal.next_place-requires
next_place-requires c = let u = c.loop-n.invariant.stand c.requires.0 c.requires.1 in (_, u.0)

pub loop-n-preserved : goal.loop-n-preserved
loop-n-preserved c =
    let size = c.loop-n.invariant.size in
    let l : c.loop-n.n < length c.loop-n.spans = omega arith in
    record {
      size = length-set c.loop-n.spans c.loop-n.n c.next_place.result ∙ size;
      stand = λ p h. let u = c.loop-n.invariant.stand p h in stood c.args.payload.now c.next_place.new.places c.next_place.result c.loop-n.spans c.loop-n.n p.datagrams l (c.next_place.ensures _ u.0) u.1;
    }

pub returns : goal.returns
returns c = λ p h. λ n l. (c.loop-n.invariant.stand p h).1 n (omega (arith, l))
