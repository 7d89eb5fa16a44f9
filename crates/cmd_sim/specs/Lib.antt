-- To be believed by reading: what lines do to a simulated segment, and what `ecat sim` prints.
pub mod Simulating
-- what is captured of the frames of a world, and what a capture holds of a run
pub mod CapturedEvents
pub mod Capturing
-- Laws: what the definitions say together.
pub mod Laws
