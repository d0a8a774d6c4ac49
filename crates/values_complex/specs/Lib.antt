-- The groups of a field, one after the other.
pub mod Complex
