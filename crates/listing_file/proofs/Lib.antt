-- The laws of the listing, which its functions' proofs cite.
pub mod Laws
