-- What places and the numbers in octets are.
pub mod Places
pub mod Numbers
