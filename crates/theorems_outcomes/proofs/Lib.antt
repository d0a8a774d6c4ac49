-- The proofs that contracts leave nothing open, lowest crates first.
pub mod Facts
pub mod Leaves
pub mod Files
pub mod Sections
pub mod Values
pub mod Questions
