pub mod Buffers
pub mod Endings
pub mod Laws
pub mod Limits
pub mod Lines
pub mod Parts
pub mod Runs
pub mod Streams
