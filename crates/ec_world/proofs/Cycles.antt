-- Which units a cycle takes.
-- a cycle that is quiet for a unit takes it
pub mod TakenLaw
-- what disturbs a cycle for a unit keeps the unit from being taken
pub mod QuietLaw
-- what the headline names as a cause does keep a unit from being taken
pub mod MissedLaws
-- what is promised to a user, of each world that refines a plain state
pub mod InputsLaw
-- a cycle of the plain machine that nothing disturbs
pub mod RoundsGo
-- a cycle of a world that is Ready, with no cycle open and no frame on its way
pub mod AtRest
-- a world at rest makes a cycle whole
pub mod CycleMade
-- frames that go round
pub mod RoundsPublish
