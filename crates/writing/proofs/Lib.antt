pub mod Headings
pub mod Steps
pub mod Ahead
pub mod Lists
pub mod Putting
pub mod Passing
pub mod Whole
