-- Demand 3 as a statement over whole numbers.
pub mod Bound
