-- The proofs of what is said of the whole reader.
pub mod Demand1
pub mod Numbers
pub mod Alone
pub mod Pictured
pub mod Demand2
pub mod Demand3
pub mod Rebuild
pub mod Impostors
pub mod Examples
