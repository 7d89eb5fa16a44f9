use Rattle.ec_bringup.proofs.Words.{◌≡◌, ◌<◌, ℕ, Some, get_or, vec_len, identity_of, no_identity}
use Rattle.ec_bringup.proofs.switching.identities_of.Given as goal

abbrev pub invariant-loop-slave : goal.invariant-loop-slave
invariant-loop-slave l = record {
  count : vec_len l.identities ≡ l.slave;
  each : (k : ℕ) → k < l.slave → identity_of l.table k ≡ Some (get_or l.identities.items k no_identity);
}
