-- The headline, of one event and of runs.
-- a linked bit of a variable, as a bit of the image
pub mod LinkedBits
-- the headline of a close, of what a world's calls show
pub mod HeadlineLaw
-- the headline of the events that are neither a pass nor a close
pub mod OtherEvents
-- the buffers of a slave's sync managers, as the headline names them
pub mod Buffers
