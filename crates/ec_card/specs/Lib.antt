-- To be believed.

-- which bytes an Ethernet frame with EtherCAT has, and which received frames are handed on
pub mod Ethernet
-- Laws: other statements of the definitions, proved.
pub mod Laws
-- Private: these serve private code alone, and no public clause cites them.
pub mod Headings
