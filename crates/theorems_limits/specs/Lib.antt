-- The limits of the sections, on either side.
pub mod Samples
pub mod Judged
pub mod Limits
