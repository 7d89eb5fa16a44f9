-- To be believed, in this order: what a manager holds and who may do what (Buffer, SyncManager), where its bytes lie (Bounds),
-- which manager has which byte and what it shows (Governing), and what holds of every manager and is proved of each (Sound)
pub mod Buffer
pub mod SyncManager
pub mod Bounds
pub mod Governing
pub mod Sound
-- Laws: over whole runs.
pub mod Runs
pub mod Messages
-- Private: a lemma on what a datagram touches, for the impls of `Writing`
pub mod Touching
