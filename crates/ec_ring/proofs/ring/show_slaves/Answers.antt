use Rattle.std.proofs.Common.{◌∙◌, refl, sym, ap, subst, below_more, arith}
use Rattle.std.specs.Prelude.{Option, unwrap_or}
use Rattle.ec_slave.specs.State.{SlaveState}
use Rattle.std.proofs.lemmas.Option.{slice_get_read, slice_get_within}
use Rattle.ec_slave.specs.Sound.{IsSlave}
use Rattle.ec_ring.proofs.ring.show_slaves.Goals as goal

pub loop-k-preserved : goal.loop-k-preserved
loop-k-preserved c =
    let here = slice_get_read c.args.slaves.now _ c.loop-k.k c.index-slaves-k.result refl c.loop-k-test.true c.index-slaves-k.is in
    below_more _ _ c.loop-k.invariant (λ s e. subst IsSlave (ap (λ (o : Option SlaveState). unwrap_or o s) (sym here ∙ e)) c.is_sound.ensures)

pub returns : goal.returns
returns c = λ place s e. c.loop-k.invariant place (omega (arith, slice_get_within c.args.slaves.now place s e, c.loop-k-test.false)) s e
