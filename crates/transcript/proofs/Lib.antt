pub mod Filling
pub mod Fitting
pub mod Lists
pub mod OneFault
pub mod OneList
pub mod OneText
pub mod ReadWhole
pub mod Shortness
