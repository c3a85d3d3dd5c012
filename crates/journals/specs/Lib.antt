pub mod Journal
pub mod Refusals
pub mod Calls
pub mod Table
pub mod Entries
pub mod EntryLaws
