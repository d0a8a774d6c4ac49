-- The integers that the code works out are the standard's.
pub mod Joined
pub mod Groups
pub mod Range
