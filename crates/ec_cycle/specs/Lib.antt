-- To be believed, in this order: what a master's cycle is.

-- the cyclic frame of a part, as it is sent and on its way
pub mod Frames
-- what is kept of a frame that came back, when a sync unit's inputs are taken, and what is reported
pub mod Closing
-- the master as a value, and what each of its calls does to it
pub mod Master
-- Laws: other words for these definitions, proved; two of them say what one copy for each link makes, and Interface is what the
-- crates above may know.
pub mod Copies
pub mod Laws
pub mod Interface
-- To be believed, too: the refusals' numbers and names.
pub mod Refusals
-- Private: these serve private code and its proofs alone.
pub mod Matching
pub mod MasterFields
pub mod Renewing
