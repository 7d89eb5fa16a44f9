-- To be believed: a cycle over a wire beside one of the world, and AL states beside those of the world.
pub mod Losses
pub mod Statuses
