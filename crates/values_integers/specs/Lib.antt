-- The packed integers X of a field, as the standard defines them and as the code works them out.
pub mod Integers
pub mod Worked
