-- What the picture of a field is.
pub mod Picture
