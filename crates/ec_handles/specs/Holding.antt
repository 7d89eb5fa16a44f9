-- What the handle of a master owns.
use Rattle.std.specs.Prelude.{◌≡◌, [], false, None, Some, Option, Result, Ok, Err, replicate}
use Rattle.ec_start.specs.Running.{outcome_of}
use Rattle.ec_start.specs.declared.error.StartError.{StartError}
use Rattle.ec_handles.specs.declared.held.HeldMaster.{HeldMaster}

-- nothing was asked
pub record IsUnasked (h : HeldMaster) : Type 0 where
  pub no_frame : h.polling.last.items ≡ []
  pub no_poll : h.polling.is_again ≡ false
  pub no_slave : h.statuses.asked ≡ None
  pub nothing_said : h.statuses.said ≡ replicate 64 None

abbrev pub failure_in : Option (Result Unit StartError) → Option StartError
failure_in None = None
failure_in (Some (Ok done)) = None
failure_in (Some (Err error)) = Some error

-- what the last start-up failed by, if it did
abbrev pub failure_of : HeldMaster → Option StartError
failure_of h = failure_in (outcome_of h.session.startup.phase)
