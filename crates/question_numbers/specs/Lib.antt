-- A description and a position as numbers.
pub mod Numbers
pub mod Held
