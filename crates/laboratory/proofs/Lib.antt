pub mod Halving
pub mod Products
pub mod Showing
