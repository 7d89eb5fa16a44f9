-- To be believed, in this order: `Commands`, `Datagram` and `Frame` say which bytes are which frame, `Refusals` which are
-- none, and why. `Decoded` reads a frame's datagrams from its bytes, `Fields` changes one field of a datagram, `Walk` handles
-- all datagrams of a frame in order, `Building` makes them and `Names` says how they name their frame. `Cursor` and `Parts` say where datagrams stand in a frame, and how
-- their parts are lent; `Lending` says what is known of a datagram that is lent, and of the others.
pub mod Commands
pub mod Datagram
pub mod Frame
pub mod Refusals
pub mod Decoded
pub mod Fields
pub mod Walk
pub mod Building
pub mod Names
pub mod Cursor
pub mod Parts
pub mod Lending
-- Laws: other words for these definitions, proved.
pub mod Laws
-- Private: facts for the impls of `Handler`: their ghost members, in tests too, may cite what stands in specs alone.
pub mod FieldChanges
-- Private: these serve private code alone, and no public clause cites them.
pub mod Reading
pub mod Built
