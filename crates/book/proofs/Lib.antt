pub mod Shares
pub mod Places
pub mod Totals
pub mod Equal
pub mod Closed
pub mod Held
pub mod Posting
