-- A datagram at a slave, by its command.
-- what comes of a datagram by its command
pub mod CommandLaws
-- what an encounter makes of a slave and a datagram is their meeting
pub mod Encounter
-- datagrams that pass
pub mod PassedBy
-- one datagram and slave after slave
pub mod Columns
