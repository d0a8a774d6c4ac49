-- The laws of rows, of stretches, and of what is put into a run.
pub mod Laws
pub mod Puts
