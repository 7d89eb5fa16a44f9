-- cycles one after another, what they print, and how a loop ends
mod LoopLemmas
