-- What holds of every slave, whatever happens to it.
-- what holds of every slave stays, whatever datagrams do
pub mod MetIsSlave
-- whatever happens to a slave, the values of its managers stay as long as their settings say
pub mod ValuesStayWhole
-- what no datagram changes of a slave
pub mod DatagramsKeepTheInside
-- a slave that was just switched on
pub mod SlavesAreSwitchedOn
-- what an SII keeps, and a slave as the power comes on
pub mod PowerOn
-- the managers of a slave go by runs
pub mod ManagersGoByRuns
-- what is read of a manager is what its run shows
pub mod ReadsShowTheRun
-- a slave of a type of real devices
pub mod HardwareLaws
-- until the ring has written outputs there is no OP
pub mod OutputsFirst
-- slow firmware, and the emergency of a slave that enters PREOP
pub mod SlowAndLoud
