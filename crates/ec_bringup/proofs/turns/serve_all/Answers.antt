use Rattle.ec_bringup.proofs.Words.{◌∙◌, ap, sym, slice_set, arith, map_over_more, get_or_from_slice_get, SlaveState, served}
use Rattle.std.proofs.Common.{rules}
use Rattle.ec_bringup.proofs.turns.serve_all.Goals as goal

pub loop-index-preserved : goal.loop-index-preserved
loop-index-preserved c =
    let long = c.loop-index.invariant.1 in (
      ap (λ (t : SlaveState). slice_set c.loop-index.ring c.loop-index.index t) c.serve.ensures
          ∙ map_over_more served c.args.ring.now c.loop-index.ring c.loop-index.index c.slave_mut.result.now (let l = c.loop-index-test.true in omega (arith, l, long)) c.loop-index.invariant.0
          (sym (get_or_from_slice_get c.loop-index.ring c.loop-index.index c.slave_mut.result.now c.slave_mut.result.now c.slave_mut.ensures.value)),
      long,
    )

pub loop-index-init : goal.loop-index-init
loop-index-init c = search rules
