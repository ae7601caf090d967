mod Finds
mod Growth
mod Numbers
mod WordsLeft
mod Samples
