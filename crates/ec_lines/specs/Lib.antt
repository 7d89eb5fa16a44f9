-- To be believed by reading: an input, and whether a read of it was refused; and the lines and the text that it gives.
pub mod Inputs
pub mod Taking
-- Private: these serve private code and its proofs alone.
pub mod Kept
