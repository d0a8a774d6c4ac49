-- Which numbers make a Lambert grid, and where its points lie on the sheet.
pub mod Lambert
pub mod Sheet
