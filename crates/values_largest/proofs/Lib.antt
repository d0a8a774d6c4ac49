-- The laws of the largest integer: of some numbers, of a group, and of a field.
pub mod Laws
pub mod Turns
pub mod Passed
