-- A machine that is run until it stops.
pub mod Machine
