-- Demand 3, and the laws that its proof rests on.
pub mod Meets
pub mod Whole
pub mod Distance
pub mod Sum
pub mod Scaled
pub mod Error
pub mod Roundings
