use Rattle.std.proofs.Common.{ℕ, ◌+◌, ◌*◌, ◌∙◌, ap, arith, List, slice_get, slice_index}
use Rattle.ec_cycle.proofs.SplitDatagrams.{made_kept}
use Rattle.ec_cycle.proofs.FirstSpans.{counter_1, bytes_1}
use Rattle.ec_cycle.proofs.returned.Returned.keep.Goals as goal

pub returns : goal.returns
returns c = λ ds h.
    made_kept _ _ _ _ _ _ _ _
    (c.counter_at-self-inside.ensures (slice_get ds 1) (h 1 (omega arith)) ∙ counter_1 ds)
    (c.word_of-self-inside.ensures ∙ ap (λ (xs : List ℕ). slice_index xs 0 + 256 * slice_index xs 1) (c.data_at.ensures (slice_get ds 1) (h 1 (omega arith)) ∙ bytes_1 ds))
    (c.counters_in-self-inside.ensures ds h)
    (c.replace.ensures ∙ c.inputs_in-content.ensures ds h)
