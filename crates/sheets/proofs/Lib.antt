pub mod Ranges
pub mod Tariff
pub mod Told
