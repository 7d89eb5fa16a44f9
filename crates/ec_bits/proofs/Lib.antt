-- puts after puts, overlays after overlays, and bytes by their bits
pub mod Algebra
-- laws of `any_below`, and of tests and options
pub mod AnyLaws
-- laws of bits of byte lists
pub mod BitLaws
-- what the code computes on one byte
pub mod Bytes
-- the numbers of runs of bits
pub mod Numbers
-- laws of overlays for bodies that overwrite bits one after another, or a byte at a time
pub mod Overlays
-- what the code computes on one byte
pub mod Shifts
-- runs of bits, one after the other
pub mod Copies
-- eight bytes as one number, little-endian
pub mod Numerals
-- 64 bits at once
pub mod Words
-- whole bytes that are copied at once
pub mod Slices
