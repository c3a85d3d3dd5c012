mod Decimals
mod Splitting
pub mod Telling
