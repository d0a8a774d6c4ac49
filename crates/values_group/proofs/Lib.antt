-- The laws of one group: its integers one by one, as the code works them out, a turn of the loops over them, and what is left behind some of them.
pub mod Steps
pub mod Wrapped
pub mod Turns
pub mod Left
