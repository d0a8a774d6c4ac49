-- The laws of refusals that other proofs cite.
pub mod Laws
