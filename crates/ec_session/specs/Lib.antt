-- To be believed, in this order.

-- a master that owns its machine, and what its calls do
pub mod Sessions
-- what it does over a wire
pub mod Wired
-- what it asks over a wire
pub mod Asking
-- Laws: what the definitions say together.
pub mod Laws
-- Private: these serve private code and its proofs alone.
pub mod Held
