use Rattle.std.proofs.Common.{ap, List, ℕ, [], ◌∷◌, IfOk, subst}
use Rattle.ec_wire.specs.Wires.{Carries}
use Rattle.ec_scan.specs.Lines.{IsAnswered, LineState}
use Rattle.ec_scan.proofs.KeptLemmas.{kept_first}
use Rattle.ec_scan.proofs.LineLemmas.{if_answered, sent_online}
use Rattle.ec_scan.proofs.line.Line.ask.Goals as goal

pub invariant_of-self-2 : goal.invariant_of-self-2
invariant_of-self-2 g c =
    let i = c.self.inside in
    let old = g.W.Wire.state i.wire in
    let new = g.W.Wire.state c.send_on.new.wire in
    sent_online old new i.number i.left i.answer.items c.args.action.now c.write_frame.new.frame.items
    c.self.invariant c.if-self-eq0.false c.requires.of_scan c.requires.doable c.write_frame.ensures
    (subst (λ (p : List ℕ). Carries old new (p ∷ []) []) c.as_slice.ensures.value (c.send_on.ensures.done c.if-not-send_on.false))

pub returns-clause-answered : goal.returns-clause-answered
returns-clause-answered g c =
    let i = c.self.inside in
    let old = g.W.Wire.state i.wire in
    let new = g.W.Wire.state c.send_on.new.wire in
    let s : LineState = record { wire = old; number = i.number; left = i.left; answer = i.answer.items; asked = i.asked } in
    subst (λ (x : LineState). IfOk c.hear.result (IsAnswered c.args.action.now x c.hear.new.self)) c.self.view_is
    (if_answered c.args.action.now s c.hear.new.self c.write_frame.new.frame.items new c.hear.result c.write_frame.ensures
    (subst (λ (p : List ℕ). Carries old new (p ∷ []) []) c.as_slice.ensures.value (c.send_on.ensures.done c.if-not-send_on.false))
    c.hear.ensures.asked c.hear.ensures.number c.hear.ensures.heard)

pub returns-clause-kept : goal.returns-clause-kept
returns-clause-kept g c = kept_first _ _ _ _ _ _ (ap (λ (s : LineState). s.wire) c.self.view_is) (c.send_on.ensures.done c.if-not-send_on.false) c.hear.ensures.kept
