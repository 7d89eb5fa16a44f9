-- To be believed, in this order: what the lines of a script do to a world.

-- what lines can print and expect of a world
pub mod Views
-- the AL states of its slaves
pub mod Statuses
-- an input variable as the plant sets it, as events
pub mod Inputs
-- an output variable as the slaves publish it
pub mod Showing
-- when what a line expects of a world holds
pub mod Expecting
-- how frames go round, as events
pub mod Rounds
-- what a line does to a world, and its output
pub mod Work
-- the events of a line, and that its work is a run of them
pub mod Events
-- what a watcher keeps of the events of a line
pub mod Observing
-- what `ready` does if nothing disturbs it, and then `cycle`
pub mod Promised
