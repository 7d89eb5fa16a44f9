-- the values of a TOML array beside its items
pub mod Lookups
-- where neither of two tests passes
pub mod Apart
-- one more key of an element that is read in one pass
pub mod OnePass
-- the values under the keys of an element, found in one pass
pub mod KeyPlaces
-- a name's place, and one more name
pub mod NameIndex
-- what stands under other keys once an entry is taken out of a table
pub mod KeysTaken
-- one row of a section, and the end
pub mod SectionRows
-- a type whose values were found under its keys
pub mod TypeFound
-- a slave whose values were found under its keys
pub mod SlaveFound
-- what a value that was read meets, along a chain of tests
pub mod ValueTests
-- the parts of a type as the reader finds them, each with its ranges, beside the limits of a slave's type
pub mod Ranges
-- what was read is sound: values and rows, and the whole
pub mod SoundReads
pub mod SoundRows
-- a number as so many bits hold it
pub mod Held
-- the downloads to a slave of a sound table
pub mod InitJoined
-- how many entries and bits a slave's objects have
pub mod ObjectLemmas
-- a sound table is sound whether or not it is advertised in full
pub mod AdvertisedFull
-- each fault of an element carries the element's place
pub mod FaultPositions
-- a sound table, written out, is read: values, rows, and the whole
pub mod Written
pub mod WrittenRows
pub mod WrittenWhole
-- a section, element by element
pub mod ElementByElement
-- the faults of a document before its elements
pub mod DocumentFaults
-- what is left out has its default
pub mod Defaults
