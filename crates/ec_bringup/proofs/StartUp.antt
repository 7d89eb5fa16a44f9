-- The theorems: a world that starts up goes on as it should, and comes up where nothing disturbs it.
-- a start-up is at its beginning until its first frame is sent, and never again
pub mod BeginningLaw
-- a world that starts up goes on starting up
pub mod Keeps
-- every run of a world that starts up
pub mod StartUpLaw
-- the registers of a slave that holds the plan read it
pub mod RegistersRead
-- an undisturbed start-up ends Ready
pub mod ComesUpLaw
-- and takes few frames
pub mod FewFrames
-- bringing up a start-up
pub mod BringUp
-- a start-up without `hardware`: one frame for each action
pub mod PlainUpLaw
