-- To be believed: numbers and names (States), the table of transitions (Transitions) and the state machine (Al). Runs and Laws
-- say what follows, in the standard's words.
pub mod States
pub mod Transitions
pub mod Al
-- Laws: other words for these definitions, proved.
pub mod Runs
pub mod Laws
