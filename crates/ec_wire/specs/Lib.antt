-- To be believed, in this order: what wires are, and what is done over one.

-- what a wire's state says, and how calls change it
pub mod Wires
-- how long sockets wait
pub mod Waiting
-- a cycle over a wire
pub mod Running
-- a cycle over a wire on which frames may be lost
pub mod Losing
-- a question over a wire
pub mod Asked
-- a start-up over a wire
pub mod BringingUp
-- what the applications of slaves do, and a segment that answers on a wire
pub mod Applications
pub mod Segments
-- a start-up over a wire behind which a segment answers
pub mod ComingUp
-- what is noted of a wire
pub mod Taps
-- the errors' numbers and names
pub mod Errors
-- Private: these serve private code and its proofs alone.
-- how a start-up rests
pub mod Resting
