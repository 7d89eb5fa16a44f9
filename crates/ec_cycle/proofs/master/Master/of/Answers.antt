use Rattle.std.proofs.Common.{ℕ, ◌^◌, ◌<◌, ◌∙◌, ap, arith, length, subst, sym}
use Rattle.std.proofs.lemmas.List.{length-replicate}
use Rattle.ec_bits.specs.Bits.{bytes_of_bits}
use Rattle.ec_link.specs.Usable.{IsUsable}
use Rattle.ec_cycle.proofs.States.{made_master}
use Rattle.ec_cycle.proofs.master.Master.of.Goals as goal

pub runs_by_part-requires : goal.runs_by_part-requires
runs_by_part-requires c = subst IsUsable (sym c.plan-plan.ensures) c.requires

pub runs_of_inputs-requires : goal.runs_of_inputs-requires
runs_of_inputs-requires c = subst IsUsable (sym c.plan-plan.ensures) c.requires

pub frames_of-requires-clause-usable : goal.frames_of-requires-clause-usable
frames_of-requires-clause-usable c = subst IsUsable (sym c.plan-plan.ensures) c.requires

pub frames_of-requires-clause-image : goal.frames_of-requires-clause-image
frames_of-requires-clause-image c = ap length c.deref.ensures.value ∙ (ap length c.in_ok-outputs.ensures ∙ (length-replicate {A = ℕ} (bytes_of_bits c.out_bits.result) 0 ∙ ap bytes_of_bits c.out_bits.ensures))

pub invariant_of-result : goal.invariant_of-result
invariant_of-result c =
    let outs = c.out_bits.type_inv in
    let ins = c.in_bits.type_inv in
    let few_outputs : c.out_bits.result < 2 ^ 64 = omega (arith, outs) in
    let few_inputs : c.in_bits.result < 2 ^ 64 = omega (arith, ins) in
    made_master _ _ _ _ _ _ _ _ _ c.plan-plan.ensures c.requires
    (record {
      outputs_count = c.in_ok-runs.ensures.count;
      outputs = c.in_ok-runs.ensures.each;
      inputs = c.in_ok-input_runs.ensures;
      expected_count = c.in_ok-expected.ensures.count;
      counters = c.in_ok-expected.ensures.each;
    })
    (record {
      outputs_size = ap length c.in_ok-outputs.ensures ∙ (length-replicate {A = ℕ} (bytes_of_bits c.out_bits.result) 0 ∙ ap bytes_of_bits c.out_bits.ensures);
      inputs_size = ap length c.in_ok-inputs.ensures ∙ (length-replicate {A = ℕ} (bytes_of_bits c.in_bits.result) 0 ∙ ap bytes_of_bits c.in_bits.ensures);
      few_outputs = subst (λ (n : ℕ). n < 2 ^ 64) c.out_bits.ensures few_outputs;
      few_inputs = subst (λ (n : ℕ). n < 2 ^ 64) c.in_bits.ensures few_inputs;
    })
    c.in_ok-frames.ensures.count c.in_ok-frames.ensures.made (c.in_ok-kept.ensures ∙ ap length c.parts.ensures.value)
