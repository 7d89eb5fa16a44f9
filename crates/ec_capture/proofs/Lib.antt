-- files that grow by bytes in steps
pub mod AppendedBytes
-- what is written is the spelling
pub mod BlockBytes
-- a capture is read back from its file
pub mod ReadBack
-- a capture grows by a packet
pub mod Growth
-- interfaces of a list of names, written one after the other
pub mod Named
-- packets noted one after the other
pub mod Noting
