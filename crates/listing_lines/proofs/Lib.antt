-- The laws of a line, which its functions' proofs and the listing's cite.
pub mod Laws
