mod Spelled
mod Rating
mod Endings
mod Cutting
mod TextsRead
mod ReadsText
pub mod Laws
