-- A frame past all slaves, and what happens until the next.
-- a frame of a start-up past all slaves
pub mod FramePasses
-- a start-up's frame of two datagrams past all slaves
pub mod RoundLaw
-- slow firmware: what a slave that was asked for INIT is, by the frames since
pub mod Delays
-- what the firmware steps after a frame prepare for the next action
pub mod NextAction
-- applications that step between the frames of a start-up change nothing of what its next frame relies on
pub mod Applications
-- a frame that feeds a part, past all slaves
pub mod FedTurns
