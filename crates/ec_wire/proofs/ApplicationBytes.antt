-- What an application reads and writes as a whole, in the words of its service.
use Rattle.std.proofs.Common.{ℕ, ◌≡◌, List, length, take}
use Rattle.ec_slave.specs.State.{SlaveState}
use Rattle.ec_slave.specs.Sound.{IsSlave}
use Rattle.ec_slave.specs.Application.{get_size, put_size, inputs_put, outputs_shown, outputs_taken}
use Rattle.ec_slave.proofs.AppAccess.ApplicationsGoWhole.{go_whole}
use Rattle.ec_wire.specs.Applications.{outputs_seen, outputs_read, inputs_written}

-- so many bytes of what is shown are what it sees
pub seen : (s : SlaveState) (n : ℕ) → IsSlave s → n ≡ get_size s → take n (outputs_shown s) ≡ outputs_seen s
seen s n good e = rw (e) (go_whole s good).seen

pub all_read : (s : SlaveState) → IsSlave s → outputs_taken s (get_size s) ≡ outputs_read s
all_read s good = (go_whole s good).taken

pub all_written : (s : SlaveState) (inputs : List ℕ) → IsSlave s → length inputs ≡ put_size s → inputs_put s inputs (length inputs) ≡ inputs_written s inputs
all_written s inputs good e = (go_whole s good).put inputs e
