-- What the listing prints.
pub mod Listing
