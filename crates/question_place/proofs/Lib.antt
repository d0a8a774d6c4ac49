-- What is known of an answer of place.
pub mod Laws
