-- managers by their number
pub mod Managers
-- copies of bits, as updates bit by bit
pub mod CopiedBits
