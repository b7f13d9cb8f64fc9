pub mod Deciding
pub mod Passed
mod Passing
