-- The numbers of a stretch of points.
pub mod Simple
