-- lines without their comments, and without the blanks before them
pub mod Comments
pub mod Indents
-- the line between a table and its script
pub mod Halving
-- what `from_str_radix` returns is the number of hex digits that don't begin with a plus
pub mod Hex
-- the names of a script's refusals are short
-- what `parse` returns is the number of a word that doesn't begin with a plus
pub mod Numbers
-- what stands before and behind two dots
pub mod Ranges
-- what is written for a line is read back
pub mod WrittenWords
pub mod ReadingBack
pub mod PrintedNumbers
-- the lines of slaves, one after another
pub mod SlaveLines
-- the pieces of a script that are done one after another, and those that are read
pub mod Stacks
pub mod Unrolling
pub mod Begun
pub mod Drafting
-- scripts without blocks
pub mod Plain
-- how many lines a script has at most, and what is due of lines that come
pub mod Bounds
pub mod Small
-- what is due while the lines of a script come
pub mod Coming
-- the words of a line, one group after another
pub mod TaskSteps
-- what words write as values
pub mod Values
-- words that aren't equal
pub mod Verbs
