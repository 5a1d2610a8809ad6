pub mod Clearing
pub mod Copies
pub mod Decisions
