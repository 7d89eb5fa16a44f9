use Rattle.std.proofs.Common.{ℕ, ◌+◌, ap, ◌∙◌, arith}
use Rattle.ec_frame.specs.Datagram.{is_followed}
use Rattle.ec_frame.proofs.Numbers.{all_bytes, bytes_of_all}
use Rattle.ec_frame.proofs.FrameOrFault.{area_is}
use Rattle.ec_frame.proofs.Steps.{starts, ahead, turn, part_spells, turn_on, turn_smaller, all_done}
use Rattle.ec_frame.proofs.walk.pass.Goals as goal

pub loop-span-init : goal.loop-span-init
loop-span-init g c = record { bytes = bytes_of_all c.args.frame.now c.requires.1.bytes; progress = λ p s. starts g.H.Handler.handled g.H.Handler.after c.args.handler.now p.reserved p.datagrams p.rest c.args.frame.now c.new-places.result s c.new-places.ensures.at (c.new-places.ensures.end ∙ ap (λ (n : ℕ). 2 + n) (area_is c.args.frame.now p s).said) }

pub next_place-requires : goal.next_place-requires
next_place-requires g c =
    let r = c.requires in
    let p = c.loop-span.invariant.progress r.0 r.1 in
    (p.1, ahead g.H.Handler.handled g.H.Handler.after c.args.handler.now r.0.reserved r.0.datagrams r.0.rest c.loop-span.handler c.loop-span.frame c.loop-span.places p.0 p.1 p.2)

pub handle-requires : goal.handle-requires
handle-requires g c =
    let r = c.requires in
    let t = turn g.H.Handler.handled g.H.Handler.after g.H.Handler.keeps_length c.args.handler.now r.0.reserved r.0.datagrams r.0.rest c.loop-span.handler c.loop-span.frame c.loop-span.places c.in-Some.span c.next_place.new.self c.next_place.result (c.loop-span.invariant.progress r.0 r.1) c.next_place.ensures.steps c.in-Some.is in
    (is_followed t.others, t.datagram, t.good, part_spells g.H.Handler.handled g.H.Handler.after g.H.Handler.keeps_length c.args.handler.now r.0.reserved r.0.datagrams r.0.rest c.loop-span.handler c.loop-span.frame c.loop-span.places c.in-Some.span c.next_place.new.self t)

pub loop-span-smaller : goal.loop-span-smaller
loop-span-smaller g c =
    let r = c.requires in
    let t = turn g.H.Handler.handled g.H.Handler.after g.H.Handler.keeps_length c.args.handler.now r.0.reserved r.0.datagrams r.0.rest c.loop-span.handler c.loop-span.frame c.loop-span.places c.in-Some.span c.next_place.new.self c.next_place.result (c.loop-span.invariant.progress r.0 r.1) c.next_place.ensures.steps c.in-Some.is in
    turn_smaller g.H.Handler.handled g.H.Handler.after g.H.Handler.keeps_length c.args.handler.now r.0.reserved r.0.datagrams r.0.rest c.loop-span.handler c.loop-span.frame c.loop-span.places c.in-Some.span c.next_place.new.self t

pub loop-span-preserved : goal.loop-span-preserved
loop-span-preserved g c = record {
  bytes = λ i. omega (arith, c.type_inv.frame i);
  progress = λ p s.
      let t = turn g.H.Handler.handled g.H.Handler.after g.H.Handler.keeps_length c.args.handler.now p.reserved p.datagrams p.rest c.loop-span.handler c.loop-span.frame c.loop-span.places c.in-Some.span c.next_place.new.self c.next_place.result (c.loop-span.invariant.progress p s) c.next_place.ensures.steps c.in-Some.is in
      let spells = part_spells g.H.Handler.handled g.H.Handler.after g.H.Handler.keeps_length c.args.handler.now p.reserved p.datagrams p.rest c.loop-span.handler c.loop-span.frame c.loop-span.places c.in-Some.span c.next_place.new.self t in
      turn_on g.H.Handler.handled g.H.Handler.after g.H.Handler.keeps_length c.args.handler.now p.reserved p.datagrams p.rest c.loop-span.handler c.loop-span.frame c.loop-span.places c.in-Some.span c.next_place.new.self c.handle.new.self c.handle.new.part t (c.handle.ensures.datagram (is_followed t.others) t.datagram t.good spells) (c.handle.ensures.state (is_followed t.others) t.datagram t.good spells);
}

pub returns-clause-frame : goal.returns-clause-frame
returns-clause-frame g c = λ p s.
    (all_done g.H.Handler.handled g.H.Handler.after g.H.Handler.keeps_length c.args.handler.now p.reserved p.datagrams p.rest c.loop-span.handler c.loop-span.frame c.loop-span.places c.next_place.new.self c.next_place.result s.most (all_bytes c.loop-span.frame c.loop-span.invariant.bytes) (c.loop-span.invariant.progress p s) c.next_place.ensures.steps c.in_default.not-Some).0

pub returns-clause-state : goal.returns-clause-state
returns-clause-state g c = λ p s.
    (all_done g.H.Handler.handled g.H.Handler.after g.H.Handler.keeps_length c.args.handler.now p.reserved p.datagrams p.rest c.loop-span.handler c.loop-span.frame c.loop-span.places c.next_place.new.self c.next_place.result s.most (all_bytes c.loop-span.frame c.loop-span.invariant.bytes) (c.loop-span.invariant.progress p s) c.next_place.ensures.steps c.in_default.not-Some).1
