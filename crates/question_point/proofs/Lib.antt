-- What is known of a point that is asked for.
pub mod Laws
