pub mod Laws
pub mod Products
