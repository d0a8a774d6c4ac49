-- What section 5 says.
pub mod Representation
