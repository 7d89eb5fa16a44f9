use Rattle.std.proofs.Common.{◌∙◌, ap, refl}
use Rattle.ec_scan.specs.Lines.{LineState}
use Rattle.ec_scan.proofs.KeptLemmas.{kept_then}
use Rattle.ec_scan.proofs.LineLemmas.{heard_is}
use Rattle.ec_scan.proofs.line.Line.hear.Goals as goal

pub returns-in-Some-answer_in-clause-heard : goal.returns-in-Some-answer_in-clause-heard
returns-in-Some-answer_in-clause-heard g c =
    heard_is c.args.action.now c.args.number c.read_counter.result c.data_length.result c.min-size.result
    (g.W.Wire.state c.self.inside.wire) (g.W.Wire.state c.receive_on.new.wire) c.keep.new.self _ c.in-Some-answer_in.part.now c.read_data-content.result.now
    c.in-Some.ensures.done c.in-Some-answer_in.ensures c.read_data-content.ensures c.read_counter.ensures c.data_length.ensures.value c.min-size.ensures
    (ap (λ (s : LineState). s.wire) c.keep.ensures) (ap (λ (s : LineState). s.answer) c.keep.ensures)

pub returns-in-Some-answer_in-clause-kept : goal.returns-in-Some-answer_in-clause-kept
returns-in-Some-answer_in-clause-kept g c =
    kept_then _ _ _ _ _ _ _ c.loop.invariant.kept (ap (λ (s : LineState). s.wire) c.self.view_is) c.in-Some.ensures.done (ap (λ (s : LineState). s.wire) c.keep.ensures)

pub loop-preserved : goal.loop-preserved
loop-preserved g c = record {
  number = ap (λ (s : LineState). s.number) c.self.view_is ∙ c.loop.invariant.number;
  left = ap (λ (s : LineState). s.left) c.self.view_is ∙ c.loop.invariant.left;
  asked = ap (λ (s : LineState). s.asked) c.self.view_is ∙ c.loop.invariant.asked;
  kept = kept_then _ _ _ _ _ _ _ c.loop.invariant.kept (ap (λ (s : LineState). s.wire) c.self.view_is) c.in-Some.ensures.done refl;
}
