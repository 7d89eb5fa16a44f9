-- what is seen of an event, noted
mod Watching
-- what a watcher saw of a run is noted
mod Noting
-- reasons only add lines
mod Reasoned
-- what a line does to a segment that is watched, and how a run of lines over it ends
mod SimLemmas
-- lines that are done as they come do what a script of them does
mod Runs
