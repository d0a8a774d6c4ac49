-- The laws of the groups of a field.
pub mod Bounds
pub mod Joined
pub mod Passed
pub mod Turns
mod Blocks
