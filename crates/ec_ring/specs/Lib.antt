-- To be believed: `Rings` says what a frame does on its way round, `Lending` what a lent slave leaves.
pub mod Rings
pub mod Lending
-- Laws: other words for the same, proved: the ring as a grid, row by row and column by column, and which slaves an address means.
pub mod Grid
pub mod Addressing
