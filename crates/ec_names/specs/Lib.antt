-- To be believed: which register lies at which address, and what a datagram says.
pub mod Registers
pub mod DatagramFields
-- Laws: other words for these definitions, proved.
pub mod Laws
