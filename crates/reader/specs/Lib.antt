pub mod Answers
pub mod Arrivals
pub mod Finding
pub mod Gathering
pub mod Joining
pub mod Sentences
pub mod States
