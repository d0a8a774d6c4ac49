-- The laws of a grid that a section 3 describes. Other crates cite them.
pub mod Laws
