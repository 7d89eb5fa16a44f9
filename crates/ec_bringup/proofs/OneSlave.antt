-- One slave, and what befalls it.
-- a slave that is reset stands where it stood, if it has no station address yet, and else is gone
pub mod Reset
-- the registers of FMMUs that a slave lacks
pub mod Lacking
-- slaves that differ in nothing that a start-up knows of
pub mod Alike
-- a fault of a slave that stands at a stage, and what its application reads and writes
pub mod Fault
-- a firmware step of a slave that stands at a stage: the AL request, and the SII read
pub mod AlRequest
-- outputs that aren't awaited stay so in SAFEOP and in OP
pub mod AwaitedKept
-- a firmware step of a slave that stands at a stage: its mailbox
pub mod MailboxServed
-- what befalls a slave keeps what is known of it
pub mod SlaveLaw
-- whatever happens to a slave, it stays a device of its type
pub mod AgainLaw
-- devices stay devices, one and a ring of them
pub mod DevicesLaw
-- the slaves of a table, as they are switched on, are devices of their types
pub mod SlavesOfLaw
-- the FMMUs of a slave that holds a plan's registers are the plan's
pub mod FmmusHeld
-- a slave without outputs awaits none
pub mod Dry
