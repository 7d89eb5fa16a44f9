-- cursors over the datagrams of two frames
pub mod CursorSteps
-- one copy a link gives the images
pub mod Copying
-- one copy a link gives the process data of a frame
pub mod OutputBits
-- when a payload answers a frame of the cycle
pub mod AnswersFrame
-- to be the same from the first datagram on is to have the same shapes, the same name and the same process addresses
pub mod Comparing
-- what `take` does, from what was compared
pub mod Matches
-- the process datagrams of a split part
pub mod SplitDatagrams
-- a list that grows by what belongs to its next place
pub mod Lists
-- what the calls of a master make of its fields
pub mod States
-- no slave gives more than its share, so predicted counters mean that each gave the whole of it
pub mod Counting
-- what stands at the first places is what the definitions count out
pub mod FirstSpans
-- the frame of a part, with another number and other outputs
pub mod RenewedFrame
-- copies run after run, and where the runs lie
pub mod Runs
-- loops over what is kept
pub mod UnitLoops
-- the bits of a frame's process data, one by one
pub mod ProcessBits
-- what goes out in a begun frame
pub mod BegunFrames
-- what setting a variable does to the values of variables
pub mod Variables
-- cyclic frames on their way
pub mod OnTheirWay
