-- What is promised to those who call the reader.
pub mod Promises
pub mod Calls
pub mod Impostors
pub mod PointImpostors
pub mod PictureImpostors
