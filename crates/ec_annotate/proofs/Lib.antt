-- remarks behind the lines of what lines of hex are printed as
pub mod Annotated
-- the part that is found has as many bytes as the datagram
pub mod Finding
