-- What the reading of a file gives.
pub mod Laws
pub mod Come
pub mod Bounds
