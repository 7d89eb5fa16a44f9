-- Requests through the mailbox.
-- a reply that fits says that its request was done
pub mod ReplyClaims
-- a request is put into a slave's mailbox
pub mod SendRequest
-- a reply is read from a slave's mailbox
pub mod AwaitReply
-- what the requests of a start-up leave known of the assignment objects
pub mod Assignments
-- a slave of the type answers each request of the script as it should
pub mod RequestsAnswered
-- a type within its limits offers each PDO that an index names
pub mod PdosOffered
