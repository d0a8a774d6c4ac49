-- What a row is, and what a stretch of a lent run.
pub mod Rows
