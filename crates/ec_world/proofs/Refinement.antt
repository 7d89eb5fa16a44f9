-- An event of a world that refines a plain state is one of the plain machine.
-- one event, and runs of events
pub mod StepsRefine
-- steps of a world, from what the calls of its parts say
pub mod IsStep
-- events on frames
pub mod FrameEvents
-- events of the master
pub mod MasterEvents
-- a frame comes back to the master
pub mod Return
-- a firmware step of a slave for which nothing waits changes nothing
pub mod ApplicationEvents
-- what a slave that refines a plain slave does with a cyclic frame, and what it shows then
pub mod CyclicFrame
-- what a slave does with a logical datagram over its area, where it is known what it takes and gives
pub mod LogicalDatagram
-- the AL word in a cyclic frame
pub mod AlWord
-- the process data of a frame before and after one more slave
pub mod ProcessData
-- a cyclic frame as it is sent
pub mod FreshFrame
-- the sync managers of process data, as a plan sets them
pub mod ProcessManagers
-- closing a cycle
pub mod Close
-- no slave gives more than its share, so predicted counters mean that each gave the whole of it
pub mod RoundTrip
