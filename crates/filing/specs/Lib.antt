pub mod Refusals
pub mod Outcomes
pub mod Lines
pub mod Fields
pub mod Rows
pub mod Filed
pub mod Filing
pub mod Records
