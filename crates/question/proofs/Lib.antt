-- What is known of a field that is described, and of the answers of describe and judge.
pub mod Chain
pub mod Laws
pub mod Known
