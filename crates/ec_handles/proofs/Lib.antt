-- the machine value of a `RawBox`
pub mod Values
-- the machine values of handles
pub mod Handles
-- what was done to what is behind a handle is what was done to it in its box
pub mod Leading
-- the slaves of a table advertised in full, or as it states them
pub mod Shown
-- a payload that the session takes, or that says an AL state; and the first bytes of a frame
pub mod Taking
