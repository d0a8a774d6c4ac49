-- What is written for the points of a field.
pub mod Points
pub mod Written
