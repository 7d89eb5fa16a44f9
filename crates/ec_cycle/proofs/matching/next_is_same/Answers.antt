use Rattle.std.proofs.Common.{rules, ◌<◌, arith, inl, inr}
use Rattle.ec_cycle.proofs.CursorSteps.{next_are, next_ends, spells}
use Rattle.ec_cycle.proofs.matching.next_is_same.Goals as goal

pub returns-then-here-eq0 : goal.returns-then-here-eq0
returns-then-here-eq0 c = λ ds es h i. next_ends c.args.n c.args.payload.now c.next_place-here.new.places c.args.sent.now c.next_place-there.new.places c.next_place-here.result c.next_place-there.result ds es (c.next_place-here.ensures ds h) (c.next_place-there.ensures es i)
    (elim c.then-here-eq0.either [ inl a ↦ inl a | inr b ↦ inr b.1 ])

pub slice_bounds-is_same-start : goal.slice_bounds-is_same-start
slice_bounds-is_same-start c =
    let l : 0 < c.next_place-here.result.to = omega arith in
    let f = spells c.args.payload.now c.next_place-here.new.places c.next_place-here.result c.requires.payload.0 (c.next_place-here.ensures c.requires.payload.0 c.requires.payload.1) l in
    let a = f.1 in
    let b = f.2 in
    search rules

pub slice_bounds-is_same-end : goal.slice_bounds-is_same-end
slice_bounds-is_same-end c =
    let l : 0 < c.next_place-here.result.to = omega arith in
    let f = spells c.args.payload.now c.next_place-here.new.places c.next_place-here.result c.requires.payload.0 (c.next_place-here.ensures c.requires.payload.0 c.requires.payload.1) l in
    let a = f.1 in
    let b = f.2 in
    search rules

pub slice_bounds-is_same-start-2 : goal.slice_bounds-is_same-start-2
slice_bounds-is_same-start-2 c =
    let l : 0 < c.next_place-there.result.to = omega arith in
    let f = spells c.args.sent.now c.next_place-there.new.places c.next_place-there.result c.requires.sent.0 (c.next_place-there.ensures c.requires.sent.0 c.requires.sent.1) l in
    let a = f.1 in
    let b = f.2 in
    search rules

pub slice_bounds-is_same-end-2 : goal.slice_bounds-is_same-end-2
slice_bounds-is_same-end-2 c =
    let l : 0 < c.next_place-there.result.to = omega arith in
    let f = spells c.args.sent.now c.next_place-there.new.places c.next_place-there.result c.requires.sent.0 (c.next_place-there.ensures c.requires.sent.0 c.requires.sent.1) l in
    let a = f.1 in
    let b = f.2 in
    search rules

pub slice_bounds-is_same-count : goal.slice_bounds-is_same-count
slice_bounds-is_same-count c =
    let l : 0 < c.next_place-here.result.to = omega arith in
    let f = spells c.args.payload.now c.next_place-here.new.places c.next_place-here.result c.requires.payload.0 (c.next_place-here.ensures c.requires.payload.0 c.requires.payload.1) l in
    let a = f.1 in
    omega arith

pub slice_bounds-is_same-count-2 : goal.slice_bounds-is_same-count-2
slice_bounds-is_same-count-2 c =
    let l : 0 < c.next_place-there.result.to = omega arith in
    let f = spells c.args.sent.now c.next_place-there.new.places c.next_place-there.result c.requires.sent.0 (c.next_place-there.ensures c.requires.sent.0 c.requires.sent.1) l in
    let a = f.1 in
    omega arith

pub is_same-requires-clause-part : goal.is_same-requires-clause-part
is_same-requires-clause-part c =
    let l : 0 < c.next_place-here.result.to = omega arith in
    (spells c.args.payload.now c.next_place-here.new.places c.next_place-here.result c.requires.payload.0 (c.next_place-here.ensures c.requires.payload.0 c.requires.payload.1) l).0

pub is_same-requires-clause-sent : goal.is_same-requires-clause-sent
is_same-requires-clause-sent c =
    let l : 0 < c.next_place-there.result.to = omega arith in
    (spells c.args.sent.now c.next_place-there.new.places c.next_place-there.result c.requires.sent.0 (c.next_place-there.ensures c.requires.sent.0 c.requires.sent.1) l).0

pub returns : goal.returns
returns c = λ ds es h i. next_are c.args.n c.args.payload.now c.next_place-here.new.places c.args.sent.now c.next_place-there.new.places c.next_place-here.result c.next_place-there.result ds es c.is_same.result (c.next_place-here.ensures ds h) (c.next_place-there.ensures es i) (omega arith) (omega arith) c.is_same.ensures
