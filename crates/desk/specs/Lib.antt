pub mod Journals
pub mod Entries
pub mod Lines
