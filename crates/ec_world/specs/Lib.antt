-- To be believed: what a world is and what is promised of it.

-- The promise, over what a world's calls return; its head names each word of another page that you need.
pub mod Headline
-- what it leans on: a run has one outcome, a cycle is begun once, a frame passes a slave once, frames keep their order, a flag means
-- trouble
pub mod RunLaws
-- a cycle that nothing disturbs, and one that each cause spoils
pub mod Undisturbed
-- Laws: how it is proved, each a law too, in this order.

-- the plain machine: what a segment under a master does, without addresses, FMMUs, registers and counters
pub mod Plain
-- the world as a value, when each event can be made, and what it does
pub mod World
-- when a slave, a frame, a world refines what the plain machine says
pub mod Lengths
pub mod SlaveRefines
pub mod FrameRefines
pub mod Refines
-- what is promised to a user, in words of the image, the links and the slaves' values
pub mod Promises
-- the laws under it: of one frame, of a step and a run, of a world since it was made
pub mod Exchanging
pub mod Laws
pub mod Whole
pub mod NewWorld
-- what the AL word of a report says
pub mod AlWords
-- what can be captured of its frames
pub mod Watching
-- frames of another master
pub mod Outside
-- Private: the rest serves the code and the proofs alone, and no public clause cites it.
-- slots in use, and a frame in its slot as it passes its next slave
pub mod Slots
-- the frames of an open cycle, and which side gets a payload that comes back
pub mod Held
-- what holds of a world that starts up
pub mod Rising
