-- What a grey is.
pub mod Greys
