-- How many frames a start-up takes that nothing disturbs.
use Rattle.std.specs.Prelude.{ℕ, zero, suc, ◌+◌, ◌-◌, ◌*◌, ◌/◌, List, [], ◌∷◌, length, max, if◌then◌else◌, Option, Some, None}
use Rattle.ec_device.specs.declared.hardware.Hardware.{Hardware}
use Rattle.ec_device.specs.Hardware.{has_emergency}
use Rattle.ec_slave.specs.State.{SlaveState}
use Rattle.ec_slave.specs.Serving.{served, is_init}
use Rattle.ec_link.specs.declared.settings.SlavePlan.{SlavePlan}
use Rattle.ec_start.specs.declared.action.Action.{Action}
use Rattle.ec_start.specs.declared.action.Action.TheVariants.{CountSlaves, AwaitInitState, AwaitCleanInit, AwaitState, SendRequest, AwaitFreeReply}
use Rattle.ec_start.specs.declared.action.Feed.{Feed}
use Rattle.ec_start.specs.Running.{is_fed}
use Rattle.ec_start.specs.Scripts.{script}
use Rattle.ec_bringup.specs.Undisturbed.{plan_at, slave_of}

-- how many firmware steps let a request wait
abbrev pub steps_slow : Option Hardware → ℕ
steps_slow None = 0
steps_slow (Some h) = if h.has_firmware then h.slow else 0

-- ---- the waits for INIT go by what the slaves are as they are asked for it: one firmware step after the start-up began

-- The request for INIT is the second frame. If n frames were sent, so many polls are left before the slave's firmware decides it.
abbrev pub steps_left : ℕ → SlavePlan → ℕ
steps_left n p = steps_slow p.kind.hardware + 2 - n

-- a slave shows INIT at once if it is in INIT
abbrev pub until_init : ℕ → SlavePlan → SlaveState → ℕ
until_init n p s = if is_init (served s).al.state then 0 else steps_left n p

-- all slaves
abbrev pub until_all : ℕ → List SlavePlan → List SlaveState → ℕ
until_all n [] ss = 0
until_all n (p ∷ ps) [] = 0
until_all n (p ∷ ps) (s ∷ ss) = max (until_init n p s) (until_all n ps ss)

-- and shows no error if it has none
abbrev pub until_clean : ℕ → SlavePlan → SlaveState → ℕ
until_clean n p s = if (served s).al.error then steps_left n p else 0

-- ---- all waits

-- how many frames a poll takes, and any other action: one, and one for each part before one that asks for OP or looks for it
abbrev pub frames_each : List Feed → Action → ℕ
frames_each fs a = if is_fed a then length fs + 1 else 1

-- the first reply of a slave that entered PREOP with an emergency: that is read first
abbrev pub until_reply : ℕ → SlavePlan → ℕ
until_reply zero p = if has_emergency p.kind.hardware then 1 else 0
until_reply (suc before) p = 0

abbrev pub until_heard : Action → SlavePlan → ℕ
until_heard (SendRequest i before b r) p = until_reply before p
until_heard _ p = 0

-- How many polls more than one the wait `a` takes, behind n frames, of which the last did `p`. A slave decides a request `slow`
-- steps later, and makes one with each frame.
abbrev pub polls_more : List SlavePlan → List Feed → List SlaveState → (n : ℕ) → (p a : Action) → ℕ
polls_more ps fs ss n p AwaitInitState = until_all n ps ss
polls_more ps fs ss n p (AwaitCleanInit i) = until_clean n (plan_at ps i) (slave_of ss i)
polls_more ps fs ss n p (AwaitState i to) = steps_slow (plan_at ps i).kind.hardware / frames_each fs (AwaitState i to)
polls_more ps fs ss n p (AwaitFreeReply i b r) = until_heard p (plan_at ps i)
polls_more ps fs ss n p _ = 0

-- how many frames were sent when these actions are done, behind n frames
abbrev pub frames_behind : List SlavePlan → List Feed → List SlaveState → (n : ℕ) → (p : Action) → List Action → ℕ
frames_behind ps fs ss n p [] = n
frames_behind ps fs ss n p (a ∷ rest) = frames_behind ps fs ss (n + (polls_more ps fs ss n p a + 1) * frames_each fs a) a rest

-- and when the script is done
abbrev pub frames_up : List SlavePlan → List Feed → List SlaveState → ℕ
frames_up ps fs ss = frames_behind ps fs ss 0 CountSlaves (script ps)
