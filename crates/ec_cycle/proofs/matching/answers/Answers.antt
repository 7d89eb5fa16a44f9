use Rattle.std.proofs.Common.{◌<◌, Bool, arith, ap, drop, length, subst}
use Rattle.ec_frame.specs.Frame.{Payload}
use Rattle.ec_frame.proofs.FrameOrFault.{one_payload}
use Rattle.ec_cycle.specs.Matching.{NextAre}
use Rattle.ec_cycle.proofs.CursorSteps.{comparing, compared, differs, all_compared}
use Rattle.ec_cycle.proofs.matching.answers.Goals as goal

pub loop-n-init : goal.loop-n-init
loop-n-init c = λ p q h i. comparing c.args.payload.now c.args.sent.now p.datagrams q.datagrams c.new-places.result c.new-sent_places.result (c.new-places.ensures.ahead p h) (c.new-sent_places.ensures.ahead q i)

pub next_is_same-requires-clause-payload : goal.next_is_same-requires-clause-payload
next_is_same-requires-clause-payload c = let u = c.loop-n.invariant c.requires.payload.0 c.requires.sent.0 c.requires.payload.1 c.requires.sent.1 in (_, u.ahead)

pub next_is_same-requires-clause-sent : goal.next_is_same-requires-clause-sent
next_is_same-requires-clause-sent c = let u = c.loop-n.invariant c.requires.payload.0 c.requires.sent.0 c.requires.payload.1 c.requires.sent.1 in (_, u.sent_ahead)

pub returns-then-not-next_is_same : goal.returns-then-not-next_is_same
returns-then-not-next_is_same c = λ p q h i.
    let u = c.loop-n.invariant p q h i in
    let size = ap (λ (x : Payload). length x.datagrams) (one_payload c.args.payload.now c.requires.payload.0 p c.requires.payload.1 h) in
    let count = c.requires.payload.2 in
    let few : c.loop-n.n < length p.datagrams = omega arith in
    differs c.args.payload.now c.args.sent.now p.datagrams q.datagrams c.loop-n.n c.loop-n.places c.loop-n.sent_places c.next_is_same.new.places c.next_is_same.new.sent_places u few
    (subst (λ (r : Bool). NextAre c.loop-n.n c.args.payload.now c.next_is_same.new.places c.args.sent.now c.next_is_same.new.sent_places (drop c.loop-n.n p.datagrams) (drop c.loop-n.n q.datagrams) r) c.if-not-next_is_same.true (c.next_is_same.ensures _ _ u.ahead u.sent_ahead))

pub loop-n-preserved : goal.loop-n-preserved
loop-n-preserved c = λ p q h i.
    let u = c.loop-n.invariant p q h i in
    compared c.args.payload.now c.args.sent.now p.datagrams q.datagrams c.loop-n.n c.loop-n.places c.loop-n.sent_places c.next_is_same.new.places c.next_is_same.new.sent_places u
    (subst (λ (r : Bool). NextAre c.loop-n.n c.args.payload.now c.next_is_same.new.places c.args.sent.now c.next_is_same.new.sent_places (drop c.loop-n.n p.datagrams) (drop c.loop-n.n q.datagrams) r) c.if-not-next_is_same.false (c.next_is_same.ensures _ _ u.ahead u.sent_ahead))

pub next_place-requires : goal.next_place-requires
next_place-requires c = let u = c.loop-n.invariant c.requires.payload.0 c.requires.sent.0 c.requires.payload.1 c.requires.sent.1 in (_, u.sent_ahead)

pub returns : goal.returns
returns c = λ p q h i.
    let u = c.loop-n.invariant p q h i in
    let size = ap (λ (x : Payload). length x.datagrams) (one_payload c.args.payload.now c.requires.payload.0 p c.requires.payload.1 h) in
    let count = c.requires.payload.2 in
    all_compared c.args.payload.now c.args.sent.now p.datagrams q.datagrams c.loop-n.n c.loop-n.places c.loop-n.sent_places c.next_place.new.places c.next_place.result u (omega arith) (c.next_place.ensures _ u.sent_ahead)
