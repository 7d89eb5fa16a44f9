-- To be believed: what an access gets at, where process data lie, and what is brought to them and taken from them.
pub mod Access
pub mod Values
-- Private: the words of private code.
pub mod Bits
