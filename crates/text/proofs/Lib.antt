-- The laws of text that other crates cite.
pub mod Laws
pub mod Pieces
