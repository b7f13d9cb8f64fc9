pub mod Facts
pub mod Held
pub mod Packing
pub mod Rows
