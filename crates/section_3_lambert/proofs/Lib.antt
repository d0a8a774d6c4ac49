-- The laws of a Lambert grid that is taken. Other crates cite them.
pub mod Laws
