-- To be believed, in this order: Actions (what a start-up does, and the datagram of each action), Scripts (all
-- actions of a plan, in order), Verdicts (what the answer to a datagram says), Running (a start-up as it runs: what is sent,
-- which payloads answer it, what it makes of an answer), Feeding (the parts that it feeds before OP), Planned (what a plan must be), HeldPlans (the plan that a start-up or a
-- master holds).
pub mod Plans
pub mod Actions
pub mod Scripts
pub mod Verdicts
pub mod Running
pub mod Feeding
pub mod Errors
pub mod Planned
pub mod HeldPlans
-- Laws: other words for these definitions, proved; ThreeSlaves is the plan of an example.
pub mod ThreeSlaves
pub mod Laws
pub mod AdvertisedFull
pub mod PlainScripts
-- what the crates above may know
pub mod Interface
-- To be believed, too: what an action must be for its own calls, and which payloads answer one.
pub mod Doable
pub mod Answered
-- Private: these serve private code and its proofs alone.
pub mod Seeking
pub mod Ahead
pub mod Held
