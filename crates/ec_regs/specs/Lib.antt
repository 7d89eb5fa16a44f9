-- To be believed: where the registers stand and which take writes (Memory), the records of sync managers and FMMUs
-- (Managers, Fmmus), the words of AL and SII (Words), and the addresses that records have of a device whose outputs are pins (Names).
-- Constants says that the code's constants are these numbers.
pub mod Memory
pub mod Managers
pub mod Fmmus
pub mod Words
pub mod Names
-- Laws: the code's constants are these numbers.
pub mod Constants
