-- lines of hex whose texts are added one after another
pub mod LinesAdded
-- texts cut at their newlines, line by line
pub mod Cutting
-- one line of a text of frames, and its end
pub mod Encoding
-- what the fields of a reader hold, after a datagram more
pub mod ReaderFields
-- lines that are written part by part
pub mod Lines
-- what `parse` returns is the number of a word that doesn't begin with a plus
pub mod Numbers
-- where the datagrams and the rest of a frame stand in its payload
pub mod Payloads
-- where a walk over datagrams stops, and that this is the place of the first fault
pub mod Places
-- the text of frames is read back as these frames
pub mod ReadingFrames
-- what is written of a frame is read back, line by line
pub mod ReadingLines
-- what is written of a word is read back
pub mod ReadingWords
-- a text stands for the frames that it stands for without its indented lines
pub mod IndentedLines
-- what lines of hex are printed as has no indented line
pub mod NoIndentedLines
-- words that aren't equal
pub mod Verbs
-- the step of a walk over datagrams that stand one after another
pub mod Walking
