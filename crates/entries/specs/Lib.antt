pub mod Words
pub mod Numbers
pub mod Rates
pub mod Lists
pub mod Texts
pub mod Readings
pub mod Lines
