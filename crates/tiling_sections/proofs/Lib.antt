-- What the walk over the sections of a message gives, and where the fields lie that it finds.
pub mod Laws
pub mod Reached
pub mod Laid
