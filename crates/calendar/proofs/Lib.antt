-- The laws of the calendar, from the plain ones up. Other crates may cite those of `Order`, `Tests` and `Laws`.
mod General
mod Years
mod Months
mod Days
mod Times
pub mod Order
pub mod Tests
pub mod Laws
mod Examples
