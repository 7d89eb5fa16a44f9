-- A payload that the session takes, or that says an AL state; and the first bytes of a frame.
use Rattle.std.proofs.Common.{◌≡◌, ◌∙◌, ℕ, true, false, List, ap, length, min, take}
use Rattle.std.proofs.lemmas.List.{take_min}
use Rattle.ec_cycle.specs.Master.{missing_of}
use Rattle.ec_session.specs.Sessions.{IsGiven}
use Rattle.ec_handles.specs.Calling.{Takes}
use Rattle.ec_handles.specs.Statuses.{TakesStatus}
use Rattle.ec_handles.specs.declared.done.Done.{Done}
use Rattle.ec_handles.specs.declared.held.HeldMaster.{HeldMaster}

pub kept : (old new : HeldMaster) (payload : List ℕ) (done : Done) → IsGiven old.session payload true new.session → done.is_done ≡ true → new.statuses ≡ old.statuses
    → done.count ≡ missing_of new.session.master.cycle → new.polling ≡ old.polling → Takes old payload done new
kept old new payload done given is_done same count polling = record { is_kept = true; session = given; statuses = (is_done, same); count = count; polling = polling }

pub told : (old new : HeldMaster) (payload : List ℕ) (done : Done) → IsGiven old.session payload false new.session → TakesStatus old.statuses payload done.is_done new.statuses
    → done.count ≡ missing_of new.session.master.cycle → new.polling ≡ old.polling → Takes old payload done new
told old new payload done given status count polling = record { is_kept = false; session = given; statuses = status; count = count; polling = polling }

pub first_bytes : (bytes : List ℕ) (size : ℕ) → size ≡ min 1472 (length bytes) → take size bytes ≡ take 1472 bytes
first_bytes bytes size is = ap (λ n. take n bytes) is ∙ take_min 1472 bytes
