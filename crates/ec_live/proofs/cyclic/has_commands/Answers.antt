use Rattle.std.proofs.Common.{sym}
use Rattle.ec_live.proofs.Commands.{over_begins, over_differs, over_ends, over_more}
use Rattle.ec_live.proofs.cyclic.has_commands.Goals as goal

pub loop-command-init : goal.loop-command-init
loop-command-init c = λ p h. over_begins c.args.payload.now c.new-places.result c.args.commands.now p.datagrams (c.new-places.ensures.ahead p h)

pub is_next-requires : goal.is_next-requires
is_next-requires c = let u = c.loop-command.invariant c.requires.0 c.requires.1 in (u.rest, u.ahead)

pub returns-then-not-is_next : goal.returns-then-not-is_next
returns-then-not-is_next c = λ p h.
    sym (over_differs c.args.payload.now c.loop-command.places c.is_next.new.places c.args.commands.now c.loop-command.command-index _ p.datagrams c.is_next.result c.loop-command-test.true c.if-not-is_next.true (c.loop-command.invariant p h) c.is_next.ensures)

pub loop-command-preserved : goal.loop-command-preserved
loop-command-preserved c = λ p h.
    over_more c.args.payload.now c.loop-command.places c.is_next.new.places c.args.commands.now c.loop-command.command-index _ p.datagrams c.is_next.result c.loop-command-test.true c.if-not-is_next.false (c.loop-command.invariant p h) c.is_next.ensures

pub next_place-requires : goal.next_place-requires
next_place-requires c = let u = c.loop-command.invariant c.requires.0 c.requires.1 in (u.rest, u.ahead)

pub returns : goal.returns
returns c = λ p h.
    over_ends c.args.payload.now c.loop-command.places c.next_place.new.self c.args.commands.now c.loop-command.command-index p.datagrams c.next_place.result c.is_none.result c.loop-command-test.false (c.loop-command.invariant p h) c.next_place.ensures.steps c.is_none.ensures
