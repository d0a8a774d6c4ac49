-- What text in a lent run is.
pub mod Text
