-- a payload of two datagrams, and whether it answers a question
pub mod Answering
-- a question past slaves
pub mod Reading
