pub mod Copying
pub mod Joining
pub mod Marks
pub mod Reading
pub mod Writing
