use Rattle.std.proofs.Common.{◌≡◌, ◌+◌, ◌++◌, ◌<◌, ◌^◌, ◌∙◌, ℕ, List, [], ◌∷◌, sym, ap, take, arith}
use Rattle.std.proofs.lemmas.List.Elements.{All-same, All-push}
use Rattle.ec_table.specs.declared.rows.Direction.{Direction}
use Rattle.ec_table.specs.declared.rows.Direction.TheVariants.{Out, In}
use Rattle.ec_table.specs.declared.rows.VariableRow.{VariableRow}
use Rattle.ec_link.specs.Image.{image_bits, placed, image}
use Rattle.ec_link.specs.Limits.{IsPlacedLow}
use Rattle.ec_link.proofs.EachFrom.{each_more}
use Rattle.ec_link.proofs.Images.{image_bits_more}
use Rattle.ec_link.proofs.plan.image_of.Goals as goal

pub loop-row-preserved : goal.loop-row-preserved
loop-row-preserved c =
    let ws : List VariableRow = c.args.variables.now in
    let i : ℕ = c.loop-row.row-index in
    let w : VariableRow = c.row-item.result in
    let from : c.toward.result ≡ image_bits w.direction (take i ws) = c.toward.ensures.value (λ (d : Direction). image_bits d (take i ws)) c.loop-row.invariant.outs c.loop-row.invariant.ins in
    let low : c.toward.result + 63 < 2 ^ 64 = omega arith in
    record {
      placed = each_more (placed ws) ws c.loop-row.placed c.push.new.self (image ws) i w c.loop-row-test.true c.row-item.is
          (c.in_ok-push.ensures.ok ∙ ap (λ (n : ℕ). c.loop-row.placed ++ record { direction = w.direction; from = n; bits = w.bits; signed = w.signed } ∷ []) from) c.loop-row.invariant.placed;
      outs = ap (λ (n : ℕ). n + c.bits_toward-outs.result) c.loop-row.invariant.outs ∙ ap (λ (n : ℕ). image_bits Out (take i ws) + n) c.bits_toward-outs.ensures.value ∙ sym (image_bits_more Out ws i w c.loop-row-test.true c.row-item.is);
      ins = ap (λ (n : ℕ). n + c.bits_toward-ins.result) c.loop-row.invariant.ins ∙ ap (λ (n : ℕ). image_bits In (take i ws) + n) c.bits_toward-ins.ensures.value ∙ sym (image_bits_more In ws i w c.loop-row-test.true c.row-item.is);
      few_outs = omega arith;
      few_ins = omega arith;
      low = All-same IsPlacedLow _ _ c.in_ok-push.ensures.ok (All-push IsPlacedLow c.loop-row.placed (record { direction = w.direction; from = c.toward.result; bits = w.bits; signed = w.signed }) c.loop-row.invariant.low low);
    }
