-- the commands of a frame's datagrams, one after another
pub mod Commands
-- when no frame is dropped
pub mod Dropping
-- payloads that a wire carries
pub mod Carrying
-- what a payload and a line do
pub mod Doing
-- a run, step after step
pub mod Running
-- without lines
pub mod Alone
