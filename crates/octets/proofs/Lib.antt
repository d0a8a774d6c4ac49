-- The laws of octets, and cases by a test, that other proofs cite.
pub mod Cases
pub mod Laws
pub mod Whole
