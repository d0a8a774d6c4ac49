-- What the tests of section 5 tell, and what a caller may rely on. Other crates cite `Laws`.
mod Tests
pub mod Laws
