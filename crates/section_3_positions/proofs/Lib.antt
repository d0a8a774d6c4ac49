-- The nearest whole number, and the laws of the places of points.
pub mod Nearest
pub mod Laws
