-- The script as a way up.
-- the script brings every slave to the top
pub mod Walks
-- how many polls each wait takes
pub mod Polls
-- each wait stands right behind what it waits for
pub mod Chained
-- from one frame to the next, and from the first to the last
pub mod IsPath
-- the checks of the AL state machine pass at a slave that was set as the plan says
pub mod ChecksGranted
-- the plan of a table without faults is complete
pub mod CompiledPlansLaw
-- the steps before whose frames parts are fed
pub mod FedSteps
-- the parts of a plan can be fed
pub mod FeedsOfPlans
