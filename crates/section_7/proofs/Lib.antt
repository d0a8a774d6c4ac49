-- What holds of the groups that a section 7 has, and of its length.
pub mod Laws
mod Planned
