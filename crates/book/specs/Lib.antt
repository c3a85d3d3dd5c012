pub mod Asking
pub mod Rows
pub mod Tables
pub mod Remaining
pub mod Views
