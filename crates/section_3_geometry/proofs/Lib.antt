-- What the tests of a grid tell, and the laws of a grid that is taken.
pub mod Tests
pub mod Laws
