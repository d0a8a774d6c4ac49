-- The laws of a picture.
pub mod Laws
