pub mod Held
pub mod Sums
