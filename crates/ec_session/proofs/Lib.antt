-- the plan of a session: what holds of it, and that each call keeps it
pub mod Plans
-- what a start-up and a cycle over a wire leave of a session
pub mod Wiring
-- what it asks over one
pub mod Asked
