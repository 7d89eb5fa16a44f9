-- Frames in slots.
-- frames go into free slots
pub mod Filled
-- how far a frame may go behind older ones, and that this stays while frames move
pub mod Clearance
