-- What a line of the listing says.
pub mod Lines
