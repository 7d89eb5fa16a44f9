-- Where a link's bits lie, as private code sees it.
use Rattle.std.specs.Prelude.{◌+◌, ◌<◌, ◌≤◌, ◌⊎◌, length}
use Rattle.ec_link.specs.declared.plan.Link.{Link}
use Rattle.ec_link.specs.Plan.{PlanState}
use Rattle.ec_link.specs.Meaning.{slave_at}

-- its bits are process data of a slave that is there
pub record IsPlaced (p : PlanState) (l : Link) : Type 0 where
  pub slave : l.slave < length p.slaves
  pub bits : (l.object_bit + l.count ≤ (slave_at p l.slave).share.outs) ⊎ (l.object_bit + l.count ≤ (slave_at p l.slave).share.ins)
