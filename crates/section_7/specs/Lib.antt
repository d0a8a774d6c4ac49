-- What section 7 holds.
pub mod Packing
