pub mod Wide
pub mod Claiming
pub mod Joins
pub mod Freeing
pub mod Submitting
