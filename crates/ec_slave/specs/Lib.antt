-- To be believed, in this order: what a slave is, which role it has in a datagram, how the two
-- meet, by an address of the memory or through the FMMUs, and what its application does.
pub mod State
pub mod Roles
pub mod Meeting
pub mod Physical
pub mod Managers
pub mod Logical
pub mod Column
pub mod Application
-- What its firmware does: the checks before a state, the step, and a fault.
pub mod Checking
pub mod Serving
pub mod Faulting
-- Laws: what follows from that, as statements: what holds of every slave, and laws, these definitions in other words.
pub mod Sound
pub mod Laws
pub mod AgainstAll
pub mod MeetingLaws
pub mod Exchange
pub mod LogicalLaws
pub mod FirmwareLaws
pub mod Steps
pub mod Showing
-- what a slave of a type of real devices does that others don't
pub mod HardwareLaws
-- what the crates above may know
pub mod Interface
-- Private: the words of private code; no public contract rests on them.
pub mod Held
pub mod Mapped
pub mod Encounters
pub mod Carried
pub mod ReadViews
pub mod Written
pub mod Untouched
pub mod Keeping
pub mod Usual
