-- The laws of the points that integers are written to.
pub mod Blocks
pub mod Laws
pub mod Marks
pub mod Missing
pub mod Present
