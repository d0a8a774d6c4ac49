-- Theorems: the grammar describes exactly the files that are taken, each in one way, and each other file has exactly one refusal.
pub mod Complete
pub mod Sound
pub mod Accepted
pub mod Unique
pub mod Refusals
pub mod Moved
