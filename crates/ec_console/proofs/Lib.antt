-- what the first bytes of an input say of all of it
pub mod InputLemmas
-- streams that grow in steps
pub mod PrintLemmas
-- what a text states, by what it is refused, and how a command ends that runs a machine
pub mod StateLemmas
-- the names of interfaces, and how a command ends that has a capture
pub mod CaptureLemmas
-- the names of refusals of a wire are short
pub mod RefusalNames
-- lines that a target obeys one after another, and lines that are done as they come
pub mod SayLemmas
pub mod ComeLemmas
-- what cuts lines short, and how a run of them ends
pub mod Late
pub mod EndLemmas
-- what lines do, told of a part of a target
pub mod MapLemmas
-- reasons between what lines print
pub mod ReasonLemmas
-- a line that was taken, and bad ones
mod TakenLines
mod BadLines
