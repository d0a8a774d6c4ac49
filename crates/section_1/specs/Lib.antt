-- What section 1 says.
pub mod Identification
