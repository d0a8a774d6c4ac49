-- What the largest integer of a field is.
pub mod Largest
