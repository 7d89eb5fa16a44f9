use Rattle.std.proofs.Common.{◌<◌, ◌≤◌, ◌∙◌, Bool, false, true, List, ap, arith, get_or, length, sym}
use Rattle.std.proofs.lemmas.List.{length-replicate}
use Rattle.std.proofs.Math.ListN.{length-set}
use Rattle.ec_cycle.proofs.UnitLoops.{judged_more, judged_all}
use Rattle.ec_cycle.proofs.States.{all_on}
use Rattle.ec_cycle.proofs.closing.judged.Goals as goal

pub loop-k-init : goal.loop-k-init
loop-k-init c = record {
  size = ap length c.all_taken-taken.ensures ∙ length-replicate 256 true;
  so_far = λ u l. ap (λ (ts : List Bool). get_or ts u false) c.all_taken-taken.ensures ∙ all_on 256 u l;
}

pub loop-k-preserved : goal.loop-k-preserved
loop-k-preserved c =
    let p = c.args.plan.now in
    let size = c.loop-k.invariant.size in
    let parts = ap length c.parts-k-end.ensures.value in
    let there : c.loop-k.k < length c.args.kept.now = omega arith in
    let small = c.judge.ensures.small in
    record {
      size = ap length c.judge.ensures.judged ∙ (length-set _ _ _ ∙ size);
      so_far = λ u l. ap (λ (ts : List Bool). get_or ts u false) c.judge.ensures.judged
          ∙ judged_more p c.args.kept.now c.loop-k.taken c.loop-k.k c.unit_of_part.result c.is_good-is_good.result there (sym c.unit_of_part.ensures) (omega arith) c.is_good-is_good.ensures c.loop-k.invariant.so_far small u l;
    }

pub returns-clause-judged : goal.returns-clause-judged
returns-clause-judged c =
    let parts = ap length c.parts-k-end.ensures.value in
    let all : length c.args.kept.now ≤ c.loop-k.k = omega arith in
    λ u l. c.loop-k.invariant.so_far u l ∙ judged_all c.args.plan.now c.args.kept.now c.loop-k.k u all
