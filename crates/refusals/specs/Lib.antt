-- What the refusals' numbers are, and in which order they are tried.
pub mod Refusals
