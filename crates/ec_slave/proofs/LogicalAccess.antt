-- Logical datagrams: bits through the FMMUs.
-- the FMMUs as the registers say them
pub mod FmmusOf
-- a logical datagram that has a mapped slave's whole area
pub mod ExchangeLaw
-- the managers meet a logical datagram from the last to the first, and are searched from the first on
pub mod ExchangedFrom
-- a logical datagram whose bits no FMMU maps leaves the slave as it was, and goes on as it came
pub mod MissesLaw
-- what a slave becomes by a logical datagram, as its code finds it
pub mod SlaveWritten
-- the reading half of a logical datagram at a mapped slave
pub mod ReadHalf
-- the writing half of a logical datagram at a mapped slave
pub mod WrittenHalf
-- what a datagram sees of the managers, against what may be read
pub mod ReadViews
-- a bit is written exactly where one is in the memory itself or in some manager's value
pub mod SomeWritten
-- a value of which each bit is overwritten doesn't depend on what it held, and whether a datagram writes a manager
pub mod WrittenFrom
-- what the data of a logical datagram does to a slave whose FMMUs map an area of the RAM itself, which no manager governs
pub mod PlainArea
-- what a datagram brings to a slave that is set up as usual, and takes from it, as copies
pub mod SlaveExchanged
-- where nothing that is read of the memory is written there, a datagram that reads and writes may write first
pub mod WriteFirst
-- a slave that publishes new outputs is mapped as it was
pub mod OutputsPublished
-- what an access leaves of a manager, as the code finds it
pub mod ManagerRead
