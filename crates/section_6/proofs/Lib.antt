-- What the presence of points tells.
pub mod Laws
