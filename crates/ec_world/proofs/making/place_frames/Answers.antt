use Rattle.ec_world.proofs.Words.{ℕ, ◌<◌, ◌≤◌, ◌∙◌, List, arith, length, subst, sym, Payload, IsFrame, cycle_frames}
use Rattle.ec_world.proofs.SlotLaws.Filled.{frame-in, placed, all-placed}
use Rattle.ec_world.proofs.making.place_frames.Goals as goal

pub fill-requires-clause-frame : goal.fill-requires-clause-frame
fill-requires-clause-frame c =
    let l : c.loop-part.part < length (cycle_frames c.args.master.now.cycle) = omega (arith, c.loop-part-test.true, c.parts-part-end.ensures, c.requires.count) in
    subst (λ (xs : List ℕ). (p : Payload) × IsFrame xs p) (sym (c.frame.ensures ∙ frame-in c.args.master.now.cycle c.loop-part.part)) (c.requires.frames c.loop-part.part l)

pub loop-part-preserved : goal.loop-part-preserved
loop-part-preserved c =
    let frames = cycle_frames c.args.master.now.cycle in
    let l : c.loop-part.part < length frames = omega (arith, c.loop-part-test.true, c.parts-part-end.ensures, c.requires.count) in
    placed c.args.number c.loop-part.part frames c.frame.result.now c.loop-part.slots c.fill.new.self l (c.frame.ensures ∙ frame-in c.args.master.now.cycle c.loop-part.part) c.fill.ensures
    ∙ c.loop-part.invariant

pub returns : goal.returns
returns c =
    let frames = cycle_frames c.args.master.now.cycle in
    let l : length frames ≤ c.loop-part.part = omega (arith, c.loop-part-test.false, c.parts-part-end.ensures, c.requires.count) in
    sym (all-placed c.args.number c.loop-part.part frames c.loop-part.slots l) ∙ c.loop-part.invariant
