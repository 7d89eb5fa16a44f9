-- what the limits of a type say of its PDOs
pub mod Limits
-- bits of PDOs, and of their entries
pub mod Objects
-- the constants of the code are the limits of the definitions
pub mod Constants
-- numbers and places of managers, and the two names of an address
pub mod Naming
