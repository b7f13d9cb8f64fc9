pub mod Candidates
pub mod Stages
pub mod Tested
