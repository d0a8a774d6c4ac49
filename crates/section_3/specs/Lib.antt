-- What section 3 says.
pub mod Section3
