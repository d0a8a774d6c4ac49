-- The laws of bits that other proofs cite.
pub mod Laws
pub mod Fours
