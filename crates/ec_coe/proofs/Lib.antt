-- a message is read back from its bytes, whatever follows them
pub mod ReadBack
-- the bytes of a message, as the numbers of the machine say them
pub mod Spelling
-- what a search in a list finds
pub mod Finding
-- lists in which nothing stands twice, read from the front
pub mod Distinct
-- slots that get the indices of PDOs
pub mod Assigning
-- what a download finds in an assignment object
pub mod AssignmentWrites
-- what a download that is done has changed
pub mod DownloadEffects
-- assignments stay lists of the type's own PDOs, without a double and of few enough bits
pub mod AssignmentsStay
-- the abort that a slave answers with is the first whose cause holds
pub mod Aborts
-- what a full slave answers, and how its name lies in a reply
pub mod Names
-- what a refusal is, and what is read from it
pub mod RefusalBytes
-- the bytes of a reply are those of a message, or, where the letters of a name follow it, read back as none
pub mod ReplyLetters
-- real devices and slaves like them
pub mod Devices
-- parameters that are reset
pub mod Resetting
