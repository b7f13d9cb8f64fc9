pub mod Promising
pub mod Readings
pub mod Saying
pub mod Underway
