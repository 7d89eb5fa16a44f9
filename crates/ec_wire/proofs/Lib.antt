-- the parts of a wait
pub mod PatientCalls
-- calls of a wire one after the other
pub mod WireCalls
-- payloads taken one after the other
pub mod TakenPayloads
-- payloads that come behind a question
pub mod Hearing
-- what an application reads and writes
pub mod ApplicationBytes
-- slaves that are served one after the other, and what an application may make of its outputs later
pub mod ServedSlaves
-- turns of a start-up over a wire, and where they lead
pub mod StartUpTurns
-- a start-up over a wire that carries each frame past all slaves and back comes up
pub mod ComingUp
-- a payload more, noted
pub mod NotedPayloads
