pub mod Slices
pub mod View
pub mod Fit
pub mod Lent
pub mod Stored
pub mod Asked
pub mod Starts
