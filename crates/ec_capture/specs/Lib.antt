-- To be believed, in this order: the blocks of a capture file, what a capture is and what is read of a file. Then what is left
-- of a file that can't be written further, and what notes packets.
pub mod Blocks
pub mod Captures
pub mod Writing
pub mod Recordings
-- Laws: what the definitions say together.
pub mod Laws
