-- The integers of one group.
pub mod Group
