-- What a caller may rely on where template 5.3 is taken.
pub mod Laws
