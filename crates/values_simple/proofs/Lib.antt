-- The laws of numbers in a block.
pub mod Laws
