-- What section 4 says.
pub mod Product
