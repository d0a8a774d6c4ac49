-- How the sections of a message follow one another, and where its fields lie.
pub mod Walk
pub mod Stands
pub mod Laid
