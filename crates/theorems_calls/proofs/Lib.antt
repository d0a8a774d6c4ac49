-- The proofs of what is promised to those who call the reader.
pub mod Calls
pub mod Impostors
pub mod PointImpostors
pub mod PictureImpostors
