mod Digits
mod Filled
pub mod Moved
mod InFields
mod Stretches
mod Watching
mod Joining
mod Factors
mod Placed
mod Endings
pub mod Unambiguous
