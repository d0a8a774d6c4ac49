-- What the rebuild of a double means.
pub mod Doubles
