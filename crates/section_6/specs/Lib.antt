-- What section 6 says.
pub mod Presence
