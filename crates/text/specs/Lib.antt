pub mod Wrote
pub mod Writes
pub mod Lines
