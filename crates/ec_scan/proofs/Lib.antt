mod Harmless
mod LineLemmas
mod KeptLemmas
mod WalkLemmas
mod FoundWords
mod Flags
