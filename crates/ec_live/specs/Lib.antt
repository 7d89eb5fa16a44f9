-- To be believed by reading, in this order.

-- the part whose cyclic frame a frame is, and which frames are dropped
pub mod Cyclic
pub mod Drops
-- a live segment, and what a payload and a line do to it
pub mod State
pub mod Meeting
pub mod Doing
-- a run: frames and lines in the order in which they come
pub mod Living
-- Laws: what the definitions say together.
pub mod Laws
-- Private: these serve private code and its proofs alone.
pub mod Stages
