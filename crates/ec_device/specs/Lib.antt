-- To be believed: what a type of slave is (Types), what it says of real devices (Hardware), what its slaves get downloaded
-- (Parameters), and the entries that a slave assigns (Objects). Constants says that the code's constants are the limits.
pub mod Hardware
pub mod Parameters
pub mod Types
pub mod Objects
-- Laws: the code's constants are these numbers.
pub mod Constants
