-- a spot of a text lies in it
mod Lying
-- words that are on one line
mod OneLine
