pub mod Passing
pub mod Lists
pub mod Again
