-- From a new world to one that is ready.
-- every event keeps a world that starts up one
pub mod Rising
-- a world whose start-up is ready refines a plain state
pub mod IsReadyWorld
-- what lasts of slaves, whatever happens
pub mod Lasting
-- it starts up, is Ready, may be stopped and start up again
pub mod Course
-- the events of a frame of a start-up
pub mod TurnEvents
-- turns of a start-up that nothing disturbs, in any order of the slaves' firmware steps behind the frame
pub mod HasTurned
-- the events of a script's `ready` are turns
pub mod TurnLaw
-- the slaves of a new world are devices of their types
pub mod NewLaw
-- a start-up of a table that `compile` accepts never spends the numbers of frames
pub mod ScriptFits
-- from a new world to the plain machine
pub mod WholeLaw
-- a new world of a table, and what its plan is
pub mod IsNew
