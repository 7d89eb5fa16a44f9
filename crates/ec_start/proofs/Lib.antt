-- where a place lies in runs of requests
pub mod RequestRuns
-- the actions ahead of a cursor
pub mod CursorActions
-- the datagrams of actions
pub mod Datagrams
-- the step of a start-up and its place in the script
pub mod Startups
-- the frame of an action, and the datagram in it
pub mod ActionFrames
-- a payload of two datagrams, and whether it answers an action
pub mod Answering
-- the laws
pub mod LawLemmas
-- a plan that can be started up is taken by `Startup::new`
pub mod Assigned
-- the script of a table advertised in full is the table's
pub mod FullScripts
-- a slave of a plan, of a type of its table, can be started up
pub mod Startable
-- the script of a plan that can be started up is short
pub mod ScriptLengths
-- the parts that a start-up feeds
pub mod Feedings
-- without `hardware` a start-up sends what it sent before
pub mod PlainLaw
-- what is wrong at a mailbox ends the start-up
pub mod MailboxFaults
