-- The greys of a field's integers.
pub mod Packed
