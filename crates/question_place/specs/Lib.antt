-- What the questions place and sheet are answered.
pub mod Place
