-- That a reference time of section 1 is one of the calendar. Other crates cite `Laws`.
pub mod Laws
