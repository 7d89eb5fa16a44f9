-- To be believed: Messages (their spelling), Objects (the object dictionary and its assignments), Transfers
-- (uploads and downloads with their aborts), SwitchedOn (the dictionary as the power comes on), Answers (what a slave replies),
-- ReplyBytes (how that lies in a mailbox), Replies (what a master finds in a reply), Refusals (what a full slave replies to any
-- other message), Emergency (what a slave may say unasked).
-- Laws and AbortLaw (each abort by its cause, and which one is the reply) say the same in other words, proved.
pub mod Messages
pub mod Objects
pub mod Transfers
pub mod SwitchedOn
pub mod Answers
pub mod ReplyBytes
pub mod Replies
pub mod Refusals
pub mod Emergency
-- Laws: other words for these definitions, proved.
pub mod Laws
pub mod NameLaws
pub mod RefusalLaws
pub mod DeviceLaws
pub mod AbortLaw
