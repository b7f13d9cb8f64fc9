pub mod Laws
pub mod Lists
pub mod Loading
pub mod Promise
pub mod Refusals
pub mod Sentences
pub mod Served
