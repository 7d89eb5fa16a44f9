-- what the proofs name of other files, handed on
pub mod Words
-- lists of options, and tests of all elements
pub mod Lists
-- slaves that make a firmware step, one after another
pub mod ServedAll
-- frames in slots
pub mod SlotLaws
-- an event of a world that refines a plain state is one of the plain machine
pub mod Refinement
-- from a new world to one that is ready
pub mod StartUp
-- what holds over runs
pub mod Runs
-- which units a cycle takes
pub mod Cycles
-- the headline, of one event and of runs
pub mod Headline
