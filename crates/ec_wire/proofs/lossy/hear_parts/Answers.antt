use Rattle.std.proofs.Common.{ℕ, ◌≡◌, ◌∙◌, ◌<◌, ◌++◌, ◌∷◌, [], false, take, arith, length-append}
use Rattle.ec_cycle.specs.Master.{missing_of}
use Rattle.ec_wire.specs.Wires.{Carries, is_fault}
use Rattle.ec_wire.proofs.WireCalls.{carries-then, fine-same, no_fault}
use Rattle.ec_wire.proofs.Hearing.{some_here}
use Rattle.ec_wire.proofs.TakenPayloads.{taken-push}
use Rattle.ec_wire.proofs.lossy.hear_parts.Goals as goal

-- the payload that came is the last of those that were taken
pub loop-preserved : goal.loop-preserved
loop-preserved g c =
    let before = c.loop.invariant in
    let got = before.heard.0 in
    let came = take c.in-Ok-Some.count c.listen_on.new.buffer in
    let start = g.W.Wire.state c.args.wire.now in
    let here = g.W.Wire.state c.loop.wire in
    let next = g.W.Wire.state c.listen_on.new.wire in
    let carried : Carries here next [] (came ∷ []) = some_here _ _ (λ (n : ℕ). Carries here next [] (take n c.listen_on.new.buffer ∷ [])) c.in-Ok-Some.field-0-is c.in-Ok-Some.ensures.done in
    let fine : is_fault here next ≡ false = no_fault _ c.in-Ok-Some.ensures.fault in
    let missing : 0 < missing_of c.loop.master.cycle = let e = c.missing.ensures in let n = c.if-missing-eq0.false in omega arith in
    record {
      heard = (
        got ++ came ∷ [],
        carries-then start here next [] got [] (came ∷ []) before.heard.1 carried,
        taken-push c.args.master.now c.loop.master c.take.new.self got came _ before.heard.2 missing c.take.ensures,
        let l = before.heard.3 in simp length-append (omega (arith, l)),
      );
      same = fine-same here next fine carried.faults ∙ before.same;
    }
