-- one element of a list whose texts stand one after another, and the end
mod Lines
-- the names of refusals are short: none has more than 16 letters
mod RefusalNames
-- one value of a list whose texts are added one after another, and the end
mod Values
