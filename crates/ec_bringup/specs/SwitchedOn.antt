-- The slaves of a table as they are switched on.
use Rattle.std.specs.Prelude.{ℕ, ◌<◌, ◌≡◌, List, [], ◌∷◌, length, get_or, Some}
use Rattle.ec_device.specs.declared.slave_type.Identity.{Identity}
use Rattle.ec_device.specs.Types.{plain_kind, device_identity}
use Rattle.ec_slave.specs.State.{SlaveState, power_on}
use Rattle.ec_table.specs.Contents.{Contents}
use Rattle.ec_table.specs.Objects.{identity_of}
use Rattle.ec_link.specs.declared.settings.SlavePlan.{SlavePlan}
use Rattle.ec_link.specs.Plan.{plan_of}

-- the identity of no slave: a place that a list doesn't have
abbrev pub no_identity : Identity
no_identity = device_identity plain_kind.device 0

-- slave after slave as it is switched on, of its type, with these identities
abbrev pub switched_on : List SlavePlan → List Identity → List SlaveState
switched_on [] is = []
switched_on (p ∷ ps) [] = []
switched_on (p ∷ ps) (i ∷ is) = power_on p.kind i ∷ switched_on ps is

-- each slave shows its type's device and its own serial number
pub record AreIdentities (t : Contents) (identities : List Identity) : Type 0 where
  pub one_each : length identities ≡ length t.slaves
  pub each : (k : ℕ) → k < length t.slaves → identity_of t k ≡ Some (get_or identities k no_identity)

-- the slaves of a table, just switched on
pub record AreSlavesOf (t : Contents) (slaves : List SlaveState) : Type 0 where
  pub identities : List Identity
  pub shown : AreIdentities t identities
  pub are : slaves ≡ switched_on (plan_of t).slaves identities
