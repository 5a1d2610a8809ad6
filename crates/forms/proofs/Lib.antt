pub mod Slots
pub mod Shapes
pub mod Columns
