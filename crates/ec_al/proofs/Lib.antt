-- one event, and then by induction the runs of them
pub mod RunLemmas
-- the names of states
pub mod NameLemmas
-- what a device without firmware copies
pub mod CopyLemmas
