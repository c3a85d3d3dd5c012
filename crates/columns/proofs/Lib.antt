pub mod Bytes
pub mod Digits
pub mod Laws
pub mod Library
pub mod Spelling
pub mod Widths
