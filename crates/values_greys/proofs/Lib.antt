-- The laws of greys that are put into a lent run in the order of the packed integers: of the run, of a turn of the loops over a group, and of the groups that
-- are passed.
pub mod Laws
pub mod Passed
