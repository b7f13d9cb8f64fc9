pub mod Forms
pub mod Halves
pub mod Nibbles
pub mod Sixteen
