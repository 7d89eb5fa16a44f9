use Rattle.std.proofs.Common.{List, ℕ, Bor, [], map, string_bytes, ap, sym, ◌∙◌}
use Rattle.ec_decode.specs.Indented.{without_indented, woven}
use Rattle.ec_decode.proofs.Cutting.{none_ahead, part_added, woven_is_same}
use Rattle.ec_decode.proofs.weaving.weave.Goals as goal

no_text : Bor (List ℕ)
no_text = record { ref_ptr = (0, 0); now = [] }

pub loop-index-preserved : goal.loop-index-preserved
unfolding no_text
loop-index-preserved c =
    part_added (map string_bytes c.args.remarks.now) c.as_slice-part-items.result.now c.loop-index.index c.len-count.result no_text _ (string_bytes c.loop-index.answer) (string_bytes c.push_part.new.text) (woven (map string_bytes c.args.remarks.now) c.args.text.now)
    c.loop-index-test.true (c.len-count.ensures ∙ sym c.as_slice-part-items.ensures.len) c.remarks_behind.ensures c.in_ok-push_part.ensures c.loop-index.invariant

pub returns-clause-woven : goal.returns-clause-woven
returns-clause-woven c = none_ahead (map string_bytes c.args.remarks.now) c.as_slice-part-items.result.now c.loop-index.index (string_bytes c.loop-index.answer) (woven (map string_bytes c.args.remarks.now) c.args.text.now) c.loop-index-test.false c.loop-index.invariant

pub returns-clause-same : goal.returns-clause-same
returns-clause-same c = ap without_indented (returns-clause-woven c) ∙ woven_is_same (map string_bytes c.args.remarks.now) c.args.text.now
