-- How messages tile a file.
pub mod Tiling
pub mod Heads
pub mod Lying
