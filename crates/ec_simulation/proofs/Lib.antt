-- a `cycle` that nothing disturbs
pub mod Cycling
-- events as far as they can be made, event after event
pub mod Goes
-- the newest frames go round, slot after slot
pub mod Going
-- what the applications of slaves write where a variable of the inputs becomes a value
pub mod InputPuts
-- how many slaves and slots there are stays, where the slots hold frames
pub mod Keeping
-- events that are made one list after another
pub mod Making
-- no event changes the plan of a world, so no line does
pub mod Plans
-- `ready` brings a world up where nothing disturbs it
pub mod Readying
-- what a line does is a run of its events
pub mod Running
-- runs that a watcher saw, one after the other
pub mod Seeing
-- an output variable as the slaves publish it, link after link
pub mod Shown
-- where frames are that were sent
pub mod SlotsSent
-- only one output prints AL states
pub mod Statuses
-- turn after turn of a start-up
pub mod Turning
-- cycle after cycle until something holds
pub mod Waiting
