-- To be believed: what the data link registers of a full slave read and keep (DataLink).
pub mod DataLink
-- Laws: what follows for a master.
pub mod Laws
