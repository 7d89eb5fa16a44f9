use Rattle.std.proofs.Common.{◌≡◌, [], List, ℕ, Bor, false, true}
use Rattle.ec_script.proofs.Drafting.{line_read, line_refused, script_ended}
use Rattle.ec_script.proofs.read.read_script.Goals as goal

no_text : Bor (List ℕ)
no_text = record { ref_ptr = (0, 0); now = [] }

pub returns-then-not-branch : goal.returns-then-not-branch
unfolding no_text
returns-then-not-branch c =
    let bad : c.in_ok-add.field-0 ≡ false = c.if-not-branch.true in
    line_refused c.args.table.now c.as_slice-line-items.result.now c.loop-place.place no_text c.loop-place.draft c.add.new.self _ c.in_ok-add.field-0 c.loop-place-test.true c.loop-place.invariant c.in_ok-add.ensures bad

pub loop-place-preserved : goal.loop-place-preserved
unfolding no_text
loop-place-preserved c =
    let good : c.in_ok-add.field-0 ≡ true = c.if-not-branch.false in
    line_read c.args.table.now c.as_slice-line-items.result.now c.loop-place.place no_text c.loop-place.draft c.add.new.self _ c.in_ok-add.field-0 c.loop-place-test.true c.loop-place.invariant c.in_ok-add.ensures good

pub returns : goal.returns
returns c =
    script_ended c.args.table.now c.as_slice-line-items.result.now c.loop-place.place c.loop-place.draft _ c.into_script.result c.loop-place-test.false c.loop-place.invariant
    c.into_script.ensures
