pub mod Years
pub mod Correction
pub mod Table
