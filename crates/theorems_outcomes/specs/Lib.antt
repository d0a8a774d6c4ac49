-- What it means that a contract leaves nothing open.
pub mod Determined
