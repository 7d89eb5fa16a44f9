-- To be believed, in this order: what the lines of a script are, and what they print.

-- words, and the numbers that they write
pub mod Words
-- how lines are written
pub mod Forms
-- where a script begins
pub mod Halves
-- tests of the value of a variable
pub mod Tests
-- what single words, actions and whole lines stand for
pub mod Operands
pub mod Actions
pub mod Tasks
-- blocks of lines
pub mod Blocks
-- what the lines of a script stand for, and which line is the first bad one
pub mod Scripts
-- lines of a script, or of an input, that are read one after another
pub mod Drafts
-- what lines can print and expect of a master
pub mod Views
-- when what a line expects of a master holds
pub mod Expecting
-- the outputs of lines
pub mod Outputs
-- what lines print
pub mod States
pub mod Texts
-- how a line is written, and that it is read back
pub mod Writing
-- Private: these serve private code and its proofs alone.
pub mod Stages
pub mod Growing
