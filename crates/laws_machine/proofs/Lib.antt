-- What running a machine gives.
pub mod Laws
