-- What a wire's state says, and how calls change it.
use Rattle.std.specs.Prelude.{◌≡◌, ◌≢◌, ◌≤◌, ◌++◌, ◌||◌, ◌==◌, ◌+◌, if◌then◌else◌, ℕ, List, length, Bool, true, false, Option, is_some, nat_lt}

-- What a wire's state says of the payloads that went one way: nothing, their number, or each of them.
pub data Trace : Type 0 where
  Nothing : Trace
  Number : ℕ → Trace
  Payloads : List (List ℕ) → Trace

-- What a wire's state says of the payloads sent and received so far, and how many of its calls were faults.
pub record WireState : Type 0 where
  pub sent : Trace
  pub received : Trace
  pub failed : ℕ

-- the last value of the count of faults: every call is a fault then, and the count stays
abbrev pub max_failed : ℕ
max_failed = 18446744073709551615

-- A call was a fault, or one of several was: the count rose, or had its last value.
abbrev pub is_fault : WireState → WireState → Bool
is_fault old new = nat_lt old.failed new.failed || (old.failed == max_failed)

-- what the state says after these payloads went that way too
abbrev pub grown : Trace → List (List ℕ) → Trace
grown Nothing payloads = Nothing
grown (Number count) payloads = Number (count + length payloads)
grown (Payloads told) payloads = Payloads (told ++ payloads)

-- the state has each payload
abbrev pub has_payloads : Trace → Bool
has_payloads Nothing = false
has_payloads (Number count) = false
has_payloads (Payloads told) = true

-- These payloads were sent and these received, in one call or in several.
pub record Carries (old new : WireState) (sent received : List (List ℕ)) : Type 0 where
  pub sends : new.sent ≡ grown old.sent sent
  pub receives : new.received ≡ grown old.received received
  pub faults : old.failed ≤ new.failed

-- a wire whose state says nothing of payloads, with this count of faults
abbrev pub silent : ℕ → WireState
silent failed = record { sent = Nothing; received = Nothing; failed = failed }

-- What went over a master's wires to slaves in its own process. It has the slaves of the last wire that was opened. Over all wires it
-- counts payloads sent, payloads received, and calls that were faults.
pub record Traffic : Type 0 where
  pub slaves : ℕ
  pub sent : ℕ
  pub received : ℕ
  pub failed : ℕ

-- no wire was opened yet
abbrev pub nothing_sent : Traffic
nothing_sent = record { slaves = 0; sent = 0; received = 0; failed = 0 }

-- a new wire to this number of slaves
abbrev pub opened_to : ℕ → Traffic → Traffic
opened_to slaves traffic = record traffic { slaves = slaves }

-- a wire whose state says how many payloads it carried
abbrev pub counted : Traffic → WireState
counted traffic = record { sent = Number traffic.sent; received = Number traffic.received; failed = traffic.failed }

-- What is known of a socket: its port, and how many of its calls were faults. Nothing is known of what it carried.
pub record SocketState : Type 0 where
  pub port : ℕ
  pub failed : ℕ

-- The ports of two sockets that are connected with each other.
pub record Ports : Type 0 where
  pub master : ℕ
  pub segment : ℕ

-- What is known of a wire between two sockets of this process.
pub record LoopState : Type 0 where
  pub ports : Ports
  pub traffic : Traffic

-- An application of simulated slaves, unless a wire has it, and what went over sockets to slaves that had it.
pub record LoopbackState (A : Type 0) : Type 0 where
  pub app : Option A
  pub traffic : Traffic

-- an application that was there is there again
abbrev pub IsBack : {A : Type 0} → (old new : LoopbackState A) → Type 0
IsBack {A} old new = is_some old.app ≡ true → is_some new.app ≡ true

-- a new socket on the port that was asked for; with 0 the system picks one
pub record IsOpened (asked : ℕ) (s : SocketState) : Type 0 where
  pub port : asked ≢ 0 → s.port ≡ asked
  pub fine : s.failed ≡ 0

-- one more, up to the last value of the count of faults
abbrev pub one_more : ℕ → ℕ
one_more failed = if failed == max_failed then max_failed else failed + 1

-- one fault more
abbrev pub failed_again : WireState → WireState
failed_again w = record w { failed = one_more w.failed }
