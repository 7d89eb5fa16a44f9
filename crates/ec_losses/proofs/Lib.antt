-- masters that keep the same payloads
pub mod Alike
-- the master of a world while frames pass
pub mod Passing
-- both cycles end alike
pub mod Losses
-- AL states
pub mod Statuses
