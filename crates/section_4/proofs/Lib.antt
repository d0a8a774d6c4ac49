-- The laws of section 4. Other crates cite those of `Laws`.
mod Tests
pub mod Laws
