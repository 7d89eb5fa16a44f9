-- the test of a flag in a word, as `contains` makes it, is the test of its bit
pub mod Flagged
-- the tests of which register bytes take writes say what the table says
pub mod Table
-- areas in the RAM make managers
pub mod Areas
-- what registers show of addresses goes back
pub mod ShownBack
-- the constants of the code are the numbers of the definitions
pub mod Constants
