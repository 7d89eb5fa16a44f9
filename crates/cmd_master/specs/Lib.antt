-- To be believed, in this order: which actions a master takes, what they do to it, and what is printed.

-- the actions that it takes
pub mod Taking
-- a master over a wire, and what each action does to it
pub mod State
pub mod Doing
-- what a line prints that is done once
pub mod Saying
-- the whole command
pub mod Mastering
-- Laws: what the definitions say together.
pub mod Laws
-- Private: these serve private code and its proofs alone.
pub mod Stages
