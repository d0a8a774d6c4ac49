-- What holds of the runs of a section 7.
pub mod Laws
