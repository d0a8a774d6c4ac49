-- What decode answers and writes.
pub mod Decoding
