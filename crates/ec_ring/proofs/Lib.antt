-- which slave of a ring a datagram means
pub mod AddressLaws
-- datagram after datagram past all slaves ends as slave after slave past all datagrams
pub mod Columns
-- the grid of any slaves and datagrams
pub mod GridExists
-- slave after slave against the grid
pub mod GridLaws
