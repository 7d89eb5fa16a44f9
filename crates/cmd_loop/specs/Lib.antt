-- To be believed by reading: what `ecat loop` prints.
pub mod Looping
-- Private: these serve private code and its proofs alone.
pub mod Stages
