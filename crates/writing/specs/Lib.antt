pub mod Meaning
pub mod Ahead
