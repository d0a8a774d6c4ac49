-- The laws of the greys of a field's points.
pub mod Laws
