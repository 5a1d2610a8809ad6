pub mod Going
pub mod Leaving
pub mod Stands
