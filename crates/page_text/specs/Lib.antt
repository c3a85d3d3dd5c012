pub mod Outcomes
pub mod Refusals
pub mod Rows
pub mod Fields
pub mod Lines
pub mod ReadBack
