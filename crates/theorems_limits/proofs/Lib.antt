-- The proof that the limits lie where the table says.
pub mod Limits
