-- To be believed, in this order.

-- what is asked, and what an answer says
pub mod Questions
-- Laws: what a question does to slaves.
pub mod Laws
-- Private: these serve private code and its proofs alone.
pub mod Answered
