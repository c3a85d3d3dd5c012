pub mod Saying
pub mod Remarks
