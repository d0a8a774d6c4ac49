-- How many bits of a run are set, and what the words of the counting hold.
pub mod Ones
pub mod Counted
