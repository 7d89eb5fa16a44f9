-- `mapped` and `unmapped` against the pairs
pub mod PairLaws
-- `target` and `source` against the read set and the write set
pub mod SetLaws
-- reads and writes through the FMMUs against the pairs of the two sets
pub mod AppliedLaws
-- two FMMUs, one that writes a run of bits and one that reads one
pub mod RunLaws
-- one FMMU's part of a read or a write, and how far a body that goes FMMU by FMMU has come
pub mod RangeLaws
-- which bytes a datagram touches
pub mod TouchLaws
-- the settings made of a run map it
pub mod RunSettings
-- of an FMMU whose range no other one's meets
pub mod AloneLaws
-- of an FMMU that writes and whose range no other one's meets
pub mod AloneWriting
-- a datagram of which no FMMU has a bit in its range neither reads nor writes
pub mod Missing
-- where no FMMU that writes meets one that reads, what is read is not written
pub mod ApartLaws
-- of the way of one FMMU
pub mod ModeLaws
