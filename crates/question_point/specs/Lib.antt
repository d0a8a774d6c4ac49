-- The question about the value of one point.
pub mod Point
