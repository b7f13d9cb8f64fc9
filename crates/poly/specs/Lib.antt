pub mod Extended
pub mod Products
pub mod Slices
