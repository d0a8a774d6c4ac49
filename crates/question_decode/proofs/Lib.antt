-- What is known of a field that is decoded.
pub mod Laws
