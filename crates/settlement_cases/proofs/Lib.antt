pub mod ThreeYears
pub mod Correction
pub mod Settling
pub mod Table
