-- The laws of bits that are set, and of words that are added bit by bit.
pub mod Laws
pub mod Adding
