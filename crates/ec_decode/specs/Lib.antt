-- To be believed: FrameText (a frame as text), Faults (a payload that is none), Words to Reading (what texts stand for), Answers (what is printed).
pub mod FrameText
pub mod Faults
pub mod Words
pub mod Lines
pub mod Reading
pub mod Answers
-- indented lines, which say something for people: the text without them, and how remarks stand within a text
pub mod Indented
-- Laws: other words for these definitions, proved.
pub mod Laws
-- Private: these serve private code alone, and no public clause cites them.
pub mod Standing
pub mod Stating
pub mod Stopping
pub mod Holding
pub mod Growing
pub mod Steps
