-- Firmware steps.
-- the parts of a firmware step, and what it settles
pub mod StepLaws
-- what a firmware step leaves as it is
pub mod RestsQuietly
-- which states a firmware step enters, and what it checks before
pub mod StatesAreEntered
-- what a firmware step does to the PDOs that are assigned
pub mod ServesKeepAssignments
-- the assignments of a slave as the power comes on, and whatever happens to it then
pub mod AssignmentsStay
-- the parts of a firmware step, as the code makes them
pub mod StepParts
