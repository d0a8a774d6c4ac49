-- What a section is, and what its octets hold.
pub mod Sections
