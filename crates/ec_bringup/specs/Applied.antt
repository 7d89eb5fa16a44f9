-- A start-up with steps of the slaves' applications between its frames.
use Rattle.std.specs.Prelude.{ℕ, zero, suc, ◌+◌, ◌<◌, ◌≡◌, List, [], ◌∷◌, true, Option}
use Rattle.ec_sync.specs.Buffer.{Buffer}
use Rattle.ec_slave.specs.State.{SlaveState, manager_at}
use Rattle.ec_slave.specs.Application.{is_running, with_manager}
use Rattle.ec_link.specs.declared.settings.SlavePlan.{SlavePlan}
use Rattle.ec_start.specs.declared.action.Feed.{Feed}
use Rattle.ec_start.specs.Running.{begun}
use Rattle.ec_bringup.specs.Undisturbed.{Rising, turned, ArePlansWith, AreDevices}
use Rattle.ec_bringup.specs.BringUp.{rising}
use Rattle.ec_bringup.specs.ComesUp.{AllAgree, IsOnItsWay, IsUpAndWorks}
use Rattle.ec_bringup.specs.Counting.{frames_up}

-- the slave with `view` as what its application has still to read of the outputs
abbrev pub with_view : SlaveState → Option (List ℕ) → SlaveState
with_view s view = with_manager s 2 (record (manager_at s.managers 2) { buffer = record (manager_at s.managers 2).buffer { view = view } })

-- the slave with `inputs` as what its application has written
abbrev pub with_inputs : SlaveState → Buffer → SlaveState
with_inputs s inputs = with_manager s 3 (record (manager_at s.managers 3) { buffer = inputs })

-- All that an application can change of its slave, in SAFEOP and in OP: how far it has read the outputs, and the inputs.
pub data Applied : SlaveState → SlaveState → Type 0 where
  Rests : (s : SlaveState) → Applied s s
  Reads : (s t : SlaveState) (view : Option (List ℕ)) → is_running s.al.state ≡ true → Applied (with_view s view) t → Applied s t
  Writes : (s t : SlaveState) (inputs : Buffer) → is_running s.al.state ≡ true → Applied (with_inputs s inputs) t → Applied s t

-- this holds for each slave
abbrev pub AreApplied : List SlaveState → List SlaveState → Type 0
AreApplied [] [] = Unit {0}
AreApplied [] (t ∷ ts) = ⊥
AreApplied (s ∷ ss) [] = ⊥
AreApplied (s ∷ ss) (t ∷ ts) = Applied s t × AreApplied ss ts

-- `n` turns, with steps of the applications after each
pub data TurnsTo : ℕ → Rising → Rising → Type 0 where
  Stays : (r : Rising) → TurnsTo zero r r
  Turns : (n : ℕ) (r e : Rising) (ss : List SlaveState) → AreApplied (turned r).slaves ss → TurnsTo n (rising (turned r).start ss) e → TurnsTo (suc n) r e

-- Whatever applications do between its frames, a start-up that nothing else disturbs is Ready after as many frames, and not before.
abbrev pub AppliedUpLaw : Type 0
AppliedUpLaw =
    (ps : List SlavePlan) (fs : List Feed) → ArePlansWith ps fs → AllAgree ps → (from : ℕ) (ss : List SlaveState) → AreDevices ps ss → (k : ℕ) (e : Rising) → TurnsTo k (rising (begun ps fs from) ss) e
    → (k < frames_up ps fs ss → IsOnItsWay (from + k) e) × (k ≡ frames_up ps fs ss → IsUpAndWorks ps (from + k) e)
