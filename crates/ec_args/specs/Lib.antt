-- To be believed by reading, in this order: the command line in the terms of `clap`; and what its arguments ask for.
pub mod CommandLine
pub mod Requests
-- Private: these serve private code and its proofs alone.
pub mod Stages
