-- Where the runs of a section 7 lie, and what stands before them.
pub mod Runs
