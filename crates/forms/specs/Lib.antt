pub mod Slots
pub mod Columns
