-- What the question describe is answered, and how what is asked of a field is judged.
pub mod Describe
pub mod Judge
pub mod Judged
