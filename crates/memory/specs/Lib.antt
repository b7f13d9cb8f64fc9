pub mod Buffers
pub mod Meaning
