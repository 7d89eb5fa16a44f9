-- how long values are
pub mod Lengths
-- what readers get was published as a whole
pub mod WholeValues
-- a view and a draft, once opened, stay what they are until they are closed
pub mod ViewsStay
-- a buffered manager shows what was published last
pub mod Newest
-- a mailbox gives each message once
pub mod Messages
-- what all bytes of a value come to that the application puts, or gets, one after the other
pub mod AllBytes
-- the registers of a manager are the bytes of its settings, and the calls are the steps of a run
pub mod Registers
