-- What the numbers in a run of bits are, and how many of them are read four at a time.
pub mod Bits
pub mod Fours
