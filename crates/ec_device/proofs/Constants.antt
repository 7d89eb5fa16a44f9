-- The constants of the code are the limits of the definitions: both compute to one literal.
use Rattle.std.proofs.Common.{refl}
use Rattle.ec_device.specs.Constants.{ConstantsAreTheLimits, ConstantsAreTheHardware}

pub limits : ConstantsAreTheLimits
limits = record { outputs = refl; inputs = refl; indices = refl; pdos = refl; entries = refl; entry_bits = refl; smallest_mailbox = refl; largest_mailbox = refl; name = refl }

pub hardware : ConstantsAreTheHardware
hardware = record { register = refl; inside = refl; size = refl; bytes = refl; fewest = refl; most = refl; slowest = refl; parameters = refl; last = refl; outputs = refl; inputs = refl }
