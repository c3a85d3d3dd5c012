pub mod Sheets
pub mod Table
