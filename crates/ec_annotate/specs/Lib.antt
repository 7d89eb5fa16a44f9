-- To be believed by reading: what a text of payloads with remarks is, which datagrams are process datagrams of a plan, and which
-- variables their bits are.
pub mod Annotating
pub mod Processes
pub mod Carrying
-- Private: these serve private code and its proofs alone.
pub mod Placing
