-- The laws of how many numbers there are, and of what the machine holds of them.
pub mod Laws
pub mod Held
