-- To be believed: the categories of a full slave (Categories), the words of a slave (SiiImage) and the port that reads them
-- (Port).
pub mod Categories
pub mod SiiImage
pub mod Port
-- Laws: what a master makes of the words that it reads (Reading, which laws alone cite), and what follows for it.
pub mod Reading
pub mod Laws
