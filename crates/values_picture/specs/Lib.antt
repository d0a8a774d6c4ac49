-- The greys of a field's points.
pub mod Painted
