-- bytes that are read ahead, and lines in them
pub mod BlockLemmas
-- lines that are taken from an input, one after another
pub mod TakeLemmas
-- what is kept of a line decides what the line is
mod TextLemmas
