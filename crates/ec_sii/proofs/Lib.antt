-- the control and status word of the port, by its bytes
pub mod Words
-- bytes in words, and how many words categories have
pub mod Lengths
-- a reader finds each category behind those that stand before it
pub mod Walking
-- what stands from 0x40 on
pub mod Area
-- what stands in a category is read back
pub mod ReadBack
-- every word of a slave's image has 16 bits, and its categories are few enough for the size to fit in one
pub mod Fits
-- the reader, step by step
pub mod Steps
-- a master that reads the image of a full slave finds its type
pub mod ReadTypes
