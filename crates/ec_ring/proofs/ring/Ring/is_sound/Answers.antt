use Rattle.std.proofs.Common.{List, ◌∙◌, ap, slice_get}
use Rattle.ec_slave.specs.State.{SlaveState}
use Rattle.ec_ring.proofs.ring.Ring.is_sound.Goals as goal

pub returns : goal.returns
returns c = λ place s e.
    c.show_slaves.ensures place s (ap (λ (slaves : List SlaveState). slice_get slaves place) (c.deref.ensures.value ∙ c.self.view_is) ∙ e)
