-- The laws of greys.
pub mod Laws
