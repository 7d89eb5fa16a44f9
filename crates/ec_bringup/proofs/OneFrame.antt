-- One frame of a start-up at one slave.
-- a frame of a start-up at a slave that its second datagram is not for
pub mod OtherSlaves
-- what a slave becomes by a datagram that writes registers
pub mod RegisterWrites
-- a poll of registers at the slave that it is for
pub mod RegisterPolls
-- the broadcasts of a start-up at any slave
pub mod BroadcastWrites
-- the broadcast reads of a start-up at any slave
pub mod FrameLaw
-- a slave gets its station address
pub mod NameSlave
-- registers that are set at one slave
pub mod SetRegisters
-- the commands of a start-up at their slave
pub mod Commands
-- the polls of a start-up at a slave that has what is waited for
pub mod Awaits
-- a slave that holds its plan is mapped at its area
pub mod MappedAreas
-- a slave that was just switched on maps nothing
pub mod Blank
-- a frame that feeds a part, at a slave
pub mod FeedLaw
