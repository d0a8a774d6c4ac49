-- The Gregorian calendar, and how the code counts its days.
pub mod Calendar
pub mod Count
