-- What an application reads and writes.
-- what a slave becomes by its application's bytes
pub mod Bytes
-- what the bytes of an application's inputs come to, written one after the other
pub mod WholeInputs
-- what the bytes of an application's outputs come to, read one after the other
pub mod WholeOutputs
-- what an application reads and writes as a whole
pub mod ApplicationsGoWhole
