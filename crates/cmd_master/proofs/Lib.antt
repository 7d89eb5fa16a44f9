-- when a cycle can be run
mod Cycling
-- what the calls of a session make of a master over a wire
mod Doing
-- how a run of lines ends
mod Mastering
-- the text of a line and why behind it, and that reasons only add lines
mod Reasoned
