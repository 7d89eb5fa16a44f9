-- Physical datagrams: bytes, registers and the managers over them.
-- numbers of a list overwritten one by one, as a loop does it
pub mod UpdatedAlong
-- the registers of FMMUs that a slave lacks
pub mod MissingFmmus
-- what one byte of a window gives
pub mod WindowBytes
-- reads and writes byte by byte, and what they count
pub mod WritesByByte
-- laws of tests
pub mod AnyBelow
-- physical datagrams that leave a slave as it was
pub mod BroadcastLaw
-- a write that begins in the RAM reaches no register of the SII port
pub mod PortAside
-- what a register reads, by where it lies
pub mod RegisterByte
-- registers under a write and a read, what they show, and the RAM behind its managers
pub mod RegisterLaws
-- what a slave's registers, managers and bits are after a datagram
pub mod RegistersAfterWrite
-- the managers meet a datagram from the last to the first
pub mod MetFrom
-- accesses that leave managers, or the whole slave, as they were
pub mod SlaveIdle
-- what adds nothing to a working counter changes nothing of a slave
pub mod CountsWhatItChanges
-- runs of bytes that one sync manager governs, or none
pub mod GovernorRuns
-- who governs a byte, among all managers and among the lower-numbered ones
pub mod Governor
-- lower-numbered managers, or all of them
pub mod AgainstAll
-- writes that clear managers, and one that leaves a slave as it was
pub mod RegisterResets
-- a write over registers, of which those of missing FMMUs take none
pub mod AroundFmmus
