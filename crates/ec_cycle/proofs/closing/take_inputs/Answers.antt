use Rattle.std.proofs.Common.{◌<◌, ◌∙◌, Bool, None, ap, get_or, length, if◌then◌else◌}
use Rattle.std.proofs.lemmas.List.{get_or_default}
use Rattle.ec_cycle.specs.Closing.{bytes_of}
use Rattle.ec_cycle.specs.Copies.{run_copied}
use Rattle.ec_cycle.specs.declared.run.InputRun.{InputRun}
use Rattle.ec_cycle.proofs.Runs.{no_input, is_on, input_fits, input_more, input_all}
use Rattle.ec_cycle.proofs.closing.take_inputs.Goals as goal

pub take_input-requires : goal.take_input-requires
take_input-requires c = λ on.
    let r : InputRun = get_or c.args.runs.now c.loop-input.input-index no_input in
    let l : c.loop-input.input-index < length c.args.runs.now = c.loop-input-test.true in
    input_fits c.args.plan.now c.args.kept.now c.args.runs.now c.loop-input.input-index r c.loop-input.inputs c.requires.usable c.requires.runs l (get_or_default c.args.runs.now c.loop-input.input-index no_input r l) c.requires.kept c.requires.sizes (c.loop-input.auto.inputs ∙ c.requires.room) c.requires.few
    (is_on c.args.plan.now c.args.kept.now c.args.taken.now r.unit c.requires.size c.requires.taken on)

pub loop-input-preserved : goal.loop-input-preserved
loop-input-preserved c =
    let r : InputRun = get_or c.args.runs.now c.loop-input.input-index no_input in
    let l : c.loop-input.input-index < length c.args.runs.now = c.loop-input-test.true in
    input_more c.args.plan.now c.args.kept.now c.args.runs.now c.loop-input.input-index r c.loop-input.inputs c.take_input.new.inputs _ l (get_or_default c.args.runs.now c.loop-input.input-index no_input r l)
    (c.take_input.ensures.copied ∙ ap (λ (b : Bool). if b then run_copied (bytes_of (get_or c.args.kept.now r.part None)) r.run c.loop-input.inputs else c.loop-input.inputs) (c.requires.taken r.unit c.take_input.ensures.small))
    c.loop-input.invariant

pub returns : goal.returns
returns c = input_all c.args.plan.now c.args.kept.now c.args.runs.now c.loop-input.input-index c.loop-input.inputs c.args.inputs.now c.requires.usable c.requires.runs c.loop-input-test.false c.loop-input.invariant
