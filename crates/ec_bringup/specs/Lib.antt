-- To be believed, of the laws of a start-up, in this order.
-- The slaves of a table as they are switched on.
pub mod SwitchedOn
-- How far a start-up has brought a slave, action by action, and what a slave holds there.
pub mod Stages
-- What the requests of a start-up make of a dictionary.
pub mod Dictionaries
pub mod Standing
-- What a frame under way is at each slave, and where it leads one that it has passed.
pub mod Frames
-- What a plan must be beyond `IsStartable`, that an undisturbed start-up ends Ready; an undisturbed start-up.
pub mod Complete
pub mod Undisturbed
pub mod Counting
-- The parts that are fed; the runs of a segment that starts up, disturbed or not, and what holds at Ready.
pub mod Starting
pub mod Fed
pub mod Runs
-- What the registers of the slaves read at Ready.
pub mod Registers
pub mod ComesUp
-- Devices stay devices of their types.
pub mod Devices
-- A slave keeps what is known of it, whatever happens to it.
pub mod Keeping
-- Bringing up a ring.
pub mod BringUp
-- A start-up with steps of applications between its frames.
pub mod Applied
-- Private: the rest serves the proofs alone, and no public clause cites it.
-- what holds at every instant of a world that starts up, and the frame's bytes in its slot
pub mod Instants
pub mod Slots
-- what turns lead to, in words of stages
pub mod Turned
-- what the proofs above may name, handed on
pub mod Interface
