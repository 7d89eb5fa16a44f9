-- slaves that are found one after another
mod FoundLemmas
-- how a scan ends
mod Ending
