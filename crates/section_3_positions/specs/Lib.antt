-- Where the points of a grid lie, what is expected of it, and how the code works it out.
pub mod Positions
pub mod Expected
pub mod Quotients
