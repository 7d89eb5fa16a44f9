-- To be believed.

-- what `ecat scan` prints, and how it ends
pub mod Scans
