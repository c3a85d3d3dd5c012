pub mod Rates
pub mod Given
pub mod Holding
pub mod Factor
pub mod Lists
pub mod Named
pub mod Bounds
