-- a register that keeps writes reads what a datagram wrote there
pub mod StoredRegisters
