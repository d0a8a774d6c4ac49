-- Which numbers make a grid.
pub mod Geometry
