-- To be believed, in this order.

-- what a scan may send, and what such a frame can't do
pub mod Scanning
-- a wire that sends nothing else, and how many frames at most
pub mod Lines
-- what slaves show, as a scan finds it
pub mod Showing
-- Laws: other words for these definitions, proved.
pub mod Laws
