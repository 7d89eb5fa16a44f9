-- To be believed by reading, in this order: the refusals, what an input gives and its refusals, and what is left on the output.
-- Then how a run with expectations ends, what stands behind a refusal's line, and what a capture adds to a command. Then what all
-- commands have in common that run a machine. Last what lines do to a target, as they stand in a script; the reasons between what they
-- print; and lines that come from an input.
pub mod Refusals
pub mod Given
pub mod Printing
pub mod Unmet
pub mod Explaining
pub mod Capturing
pub mod Stating
pub mod Saying
pub mod Reasons
pub mod Coming
-- Laws: what the definitions say together.
pub mod Laws
-- Private: these serve private code and its proofs alone.
pub mod Stages
