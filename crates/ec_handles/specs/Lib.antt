-- To be believed, in this order.

-- what is behind the handle of a master: why its start-up failed, when it polls again, and the AL states that were asked for
pub mod Holding
pub mod Polls
pub mod Statuses
-- what a call does to the value behind its handle, and what it returns
pub mod Calling
pub mod Facts
-- what bytes are opened to, why they open nothing, and what an opening returns
pub mod Opening
pub mod Refusing
-- Private: these serve the code and its proofs alone, and no public clause cites them.

-- what owns a box that is not there as one
pub mod Keeping
-- what a handle owns
pub mod Owning
