-- To be believed by reading, in this order: what `ecat pass` and `ecat plan` print; what `ecat decode` and `ecat encode` print, and
-- `ecat decode` with remarks, and `ecat scan`; which arguments can't be right; where inputs come from, and what a terminal changes; and how a run ends.
pub mod Passing
pub mod Planning
pub mod Translating
pub mod Remarking
pub mod Scanned
pub mod Wrong
pub mod Placing
pub mod Running
