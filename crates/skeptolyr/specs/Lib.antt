-- The numbers that C is given.
pub mod Codes
