-- The laws of the powers, of the packing record and of the answer, which the functions' proofs cite.
pub mod Powers
pub mod Answers
