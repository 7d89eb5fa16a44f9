-- Law: a master doesn't see whether the slaves of its table are full. A table that is advertised in full has the script and the
-- parts to feed, and its slaves have the devices, of the table as it is stated.
use Rattle.std.specs.Prelude.{◌≡◌, ℕ}
use Rattle.ec_table.specs.Contents.{Contents, advertised_full}
use Rattle.ec_link.specs.Plan.{plan_of}
use Rattle.ec_start.specs.Scripts.{script}
use Rattle.ec_start.specs.Running.{type_of}
use Rattle.ec_start.specs.Feeding.{feeds_of}

pub record AdvertisedFullHasTheScript : Type 0 where
  pub script : (t : Contents) → script (plan_of (advertised_full t)).slaves ≡ script (plan_of t).slaves
  pub feeds : (t : Contents) → feeds_of (plan_of (advertised_full t)) ≡ feeds_of (plan_of t)
  pub devices : (t : Contents) (slave : ℕ) → type_of (plan_of (advertised_full t)).slaves slave ≡ type_of (plan_of t).slaves slave
