-- The argument goes upward in six steps. What happens to one slave is said first, then what each frame of a start-up does at the
-- slave that it is for and at all others, and how requests go through the mailbox. From these follows what a frame does to the whole
-- ring, what the firmware steps behind it make ready for the next, and that the script as a whole leads up. The theorems are the
-- last step: a world that starts up goes on as it should whatever befalls it, and comes up where nothing disturbs it.

-- what the proofs name of other files, handed on
pub mod Words
-- one slave, and what befalls it
pub mod OneSlave
-- one frame of a start-up at one slave
pub mod OneFrame
-- requests through the mailbox
pub mod Mailbox
-- a frame past all slaves, and what happens until the next
pub mod AllSlaves
-- the script as a way up
pub mod Script
-- the theorems: a world that starts up goes on as it should, and comes up where nothing disturbs it
pub mod StartUp
