-- To be believed, in this order: what a table holds (Contents), and how a text is read as one (Fields, Names, Pdos, Parameters, Reading, with
-- the faults and their order: Faults, InOrder), and what a table says of a slave or a link (Objects) or of a value (Numbers).
pub mod Contents
pub mod Errors
pub mod Faults
pub mod Fields
pub mod Keys
pub mod Names
pub mod InOrder
pub mod Pdos
pub mod Parameters
pub mod Reading
pub mod Objects
pub mod Numbers
-- Laws: other words for these definitions, which laws tie to them: what every table keeps, the document of a table, and the laws.
pub mod Sound
pub mod Writing
pub mod Laws
-- Private: what one pass over the keys of an element finds, and that rows found have names of their own.
pub mod Values
pub mod Unique
