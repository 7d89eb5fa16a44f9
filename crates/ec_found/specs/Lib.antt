-- To be believed, in this order.

-- which type a slave is, by what it shows
pub mod Founds
-- what a text says of all slaves
pub mod Stating
-- what differs from a table
pub mod Differing
-- Laws: the slaves of a table are found as its types.
pub mod Laws
