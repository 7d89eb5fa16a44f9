-- the datagrams ahead of a place in a frame, and a pass over them
pub mod DatagramsAhead
-- what a builder's calls leave
pub mod BuilderCalls
-- bytes as the spelling of a datagram, and back
pub mod Decoding
-- a frame's datagrams are read back from its bytes, and its data are bytes; a payload is a frame or is refused
pub mod FrameLaws
-- the datagrams of a frame as they are lent
pub mod Lending
-- bytes as numbers, and a command as its number
pub mod Numbers
-- bytes have at most one reading as datagrams, or one first fault
pub mod Readings
-- the datagram at the front of some bytes, as the tests of the reader show it
pub mod Shapes
-- the step of a pass over a frame's datagrams
pub mod Steps
-- a payload is a frame of at most one list, or has one first fault
pub mod FrameOrFault
-- one step of the walk over an area, and what a frame's header says
pub mod WalkSteps
-- the fields of a spelling, read and written
pub mod Writes
